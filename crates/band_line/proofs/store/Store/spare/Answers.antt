use Rattle.std.proofs.Common.{arith}
use Rattle.band_line.proofs.SoundArena.{sound_arena}
use Rattle.band_line.proofs.store.Store.spare.Goals as goal

pub returns-clause-sound : goal.returns-clause-sound
returns-clause-sound g c = rw (← c.self.view_is) (sound_arena (omega arith) c.self.invariant)
