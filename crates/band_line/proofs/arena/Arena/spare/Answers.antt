use Rattle.std.proofs.Common.{arith}
use Rattle.band_line.proofs.NodeValues.{len_is}
use Rattle.band_line.proofs.SoundArena.{sound_mapped}
use Rattle.band_line.proofs.arena.Arena.spare.Goals as goal

pub returns-clause-limit : goal.returns-clause-limit
returns-clause-limit g c = rw (← c.self.view_is) (omega (arith, c.spare.ensures.limit, len_is c.self.inside.store))

pub returns-clause-sound : goal.returns-clause-sound
returns-clause-sound g c = rw (← c.self.view_is) (sound_mapped (λ node. node.value) c.self.inside.store c.spare.ensures.sound)
