use Rattle.band_condvar.proofs.Batons.{notify-one, notify-all, poll-keeps, cancel-keeps, nobody-left}
use Rattle.band_condvar.proofs.While.{while-keeps}
use Rattle.band_condvar.proofs.laws.batons_are_kept.Goals as goal

pub returns : goal.returns
returns g c = record {
  notify_one = notify-one;
  notify_all = notify-all;
  poll = λ wait next waker old new result polls. poll-keeps wait.stage wait.of waker old result next.stage new polls.0;
  poll_while = while-keeps g.F.FnMut;
  cancel = cancel-keeps;
  nobody = nobody-left;
}
