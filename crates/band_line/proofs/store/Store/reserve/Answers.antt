use Rattle.std.proofs.Common.{arith, rules}
use Rattle.band_line.proofs.SoundArena.{sound_arena}
use Rattle.band_line.proofs.store.Store.reserve.Goals as goal

pub returns-then-n-capacity-clause-sound : goal.returns-then-n-capacity-clause-sound
returns-then-n-capacity-clause-sound g c = rw (← c.self.view_is) (sound_arena (omega arith) c.self.invariant)

pub returns-then-n-len-clause-sound : goal.returns-then-n-len-clause-sound
returns-then-n-len-clause-sound g c = rw (← c.self.view_is) (sound_arena (omega arith) c.self.invariant)

pub invariant_of-self : goal.invariant_of-self
invariant_of-self g c = search rules

pub returns-clause-sound : goal.returns-clause-sound
returns-clause-sound g c = sound_arena (omega arith) (invariant_of-self g c)
