-- proofs/tests/a_waiting_writer_gives_up: who waits keeps its place through the calls for others
use Rattle.std.proofs.Common.{ap}
use Rattle.band_sem.proofs.Own.{IsOwn-wakes, IsOwn-behind}
use Rattle.band_lock.proofs.tests.a_waiting_writer_gives_up.Goals as goal

pub cancel-requires-2-clause-own : goal.cancel-requires-2-clause-own
cancel-requires-2-clause-own g c =
    let mine = c.poll_once-2.new.self in
    let stays = IsOwn-behind c.write-writer.result c.poll_once.new.self c.read-reader.result mine 1 2 c.try_read.new.self.shares c.poll_once.new.l.shares c.poll_once-2.new.l.shares c.cancel.new.l.shares
    c.poll_once.result c.poll_once-2.result (ap (λ r. r.stage) c.write-writer.ensures) (ap (λ r. r.stage) c.read-reader.ensures)
    c.poll_once.ensures.polls c.poll_once-2.ensures.polls c.cancel.ensures.state.shares c.cancel.ensures.lawful in
    IsOwn-wakes mine c.cancel.new.l.shares c.take_wake.new.self.shares stays c.take_wake.result c.take_wake.ensures.woken
