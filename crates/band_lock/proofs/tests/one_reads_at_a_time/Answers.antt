-- proofs/tests/one_reads_at_a_time: who waits keeps its place through the calls for others
use Rattle.std.proofs.Common.{◌-◌, ap}
use Rattle.band_sem.proofs.Own.{IsOwn-given_back, IsOwn-wakes, IsOwn-asked}
use Rattle.band_lock.proofs.tests.one_reads_at_a_time.Goals as goal

pub cancel-requires-clause-own : goal.cancel-requires-clause-own
cancel-requires-clause-own g c =
    let mine = c.poll_once.new.self in
    let joined = IsOwn-asked c.read-reader.result mine 1 c.try_write.new.self.shares c.poll_once.new.l.shares c.poll_once.result (ap (λ r. r.stage) c.read-reader.ensures) c.poll_once.ensures.polls in
    let lowered = IsOwn-given_back mine c.poll_once.new.l.shares c.downgrade-reads.new.self.shares joined (c.poll_once.new.l.max - 1) c.downgrade-reads.ensures.state.shares c.downgrade-reads.ensures.lawful in
    let none = IsOwn-wakes mine c.downgrade-reads.new.self.shares c.take_wake.new.self.shares lowered c.take_wake.result c.take_wake.ensures.woken in
    let given = IsOwn-given_back mine c.take_wake.new.self.shares c.drop_read.new.self.shares none 1 c.drop_read.ensures.state.shares c.drop_read.ensures.lawful in
    IsOwn-wakes mine c.drop_read.new.self.shares c.take_wake-2.new.self.shares given c.take_wake-2.result c.take_wake-2.ensures.woken
