use Rattle.band_oneshot.proofs.Moving.{MovesMessage-after, moves-once}
use Rattle.band_oneshot.proofs.laws.messages_move.Goals as goal

pub returns-clause-step : goal.returns-clause-step
returns-clause-step c = MovesMessage-after

pub returns-clause-run : goal.returns-clause-run
returns-clause-run c = moves-once
