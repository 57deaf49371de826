use Rattle.band_line.proofs.LineLemmas.{sound_list}
use Rattle.band_line.proofs.line.Line.first.Goals as goal

pub returns-clause-sound : goal.returns-clause-sound
returns-clause-sound g c = rw (← c.self.view_is) (sound_list c.self.invariant)
