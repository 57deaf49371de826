use Rattle.std.proofs.Common.{refl}
use Rattle.band_play.proofs.Pieces.{run_nothing}
use Rattle.band_play.proofs.playing.Playing.new.Goals as goal

pub returns-clause-run : goal.returns-clause-run
returns-clause-run c = run_nothing _ c.new.ensures.start c.new-2.ensures.bytes c.new-3.ensures refl
