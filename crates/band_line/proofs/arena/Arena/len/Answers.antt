use Rattle.std.proofs.Common.{sym, ◌∙◌}
use Rattle.band_line.proofs.NodeValues.{len_is}
use Rattle.band_line.proofs.SoundArena.{sound_mapped}
use Rattle.band_line.proofs.arena.Arena.len.Goals as goal

pub returns-clause-len : goal.returns-clause-len
returns-clause-len g c = rw (← c.self.view_is) (c.len.ensures.len ∙ sym (len_is c.self.inside.store))

pub returns-clause-sound : goal.returns-clause-sound
returns-clause-sound g c = rw (← c.self.view_is) (sound_mapped (λ node. node.value) c.self.inside.store c.len.ensures.sound)
