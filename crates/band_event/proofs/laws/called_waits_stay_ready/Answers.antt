use Rattle.std.proofs.Common.{true, false}
use Rattle.band_event.proofs.Queues.{called-ready}
use Rattle.band_event.proofs.laws.called_waits_stay_ready.Goals as goal

pub returns : goal.returns
returns c = record {
  manual_reset = λ event new slot waker result life. called-ready event.is_set true slot waker event new result life;
  auto_reset = λ event new slot waker result life. called-ready event.is_set false slot waker event new result life;
}
