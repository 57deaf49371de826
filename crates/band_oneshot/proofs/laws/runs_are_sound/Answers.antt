use Rattle.band_oneshot.proofs.Sound.{IsSound-after_all}
use Rattle.band_oneshot.proofs.laws.runs_are_sound.Goals as goal

pub returns-clause-run : goal.returns-clause-run
returns-clause-run c = IsSound-after_all
