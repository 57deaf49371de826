-- proofs/tests/a_granted_writer_gives_up: who waits keeps its place through the calls for others
use Rattle.std.proofs.Common.{ap}
use Rattle.band_sem.proofs.Own.{IsOwn-given_back, IsOwn-wakes, IsOwn-asked}
use Rattle.band_lock.proofs.tests.a_granted_writer_gives_up.Goals as goal

pub cancel-requires-clause-own : goal.cancel-requires-clause-own
cancel-requires-clause-own g c =
    let mine = c.poll_once.new.self in
    let joined = IsOwn-asked c.write-writer.result mine 1 c.try_read.new.self.shares c.poll_once.new.l.shares c.poll_once.result (ap (λ r. r.stage) c.write-writer.ensures) c.poll_once.ensures.polls in
    let given = IsOwn-given_back mine c.poll_once.new.l.shares c.drop_read.new.self.shares joined 1 c.drop_read.ensures.state.shares c.drop_read.ensures.lawful in
    IsOwn-wakes mine c.drop_read.new.self.shares c.take_wake.new.self.shares given c.take_wake.result c.take_wake.ensures.woken
