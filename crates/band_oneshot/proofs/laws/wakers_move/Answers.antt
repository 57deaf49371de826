use Rattle.band_oneshot.proofs.Moving.{waker_in-after_all}
use Rattle.band_oneshot.proofs.laws.wakers_move.Goals as goal

pub returns-clause-run : goal.returns-clause-run
returns-clause-run c = waker_in-after_all
