-- proofs/tests/both_give_up: who waits keeps its place through the calls for others
use Rattle.std.proofs.Common.{ap}
use Rattle.band_sem.proofs.Own.{IsOwn-given_back, IsOwn-wakes, IsOwn-behind}
use Rattle.band_lock.proofs.tests.both_give_up.Goals as goal

pub cancel-requires-2-clause-own : goal.cancel-requires-2-clause-own
cancel-requires-2-clause-own g c =
    let mine = c.poll_once-2.new.self in
    let stays = IsOwn-behind c.lock-first.result c.poll_once.new.self c.lock-second.result mine 1 2 c.try_lock.new.self c.poll_once.new.m c.poll_once-2.new.m c.cancel.new.m c.poll_once.result c.poll_once-2.result
    (ap (λ r. r.stage) c.lock-first.ensures) (ap (λ r. r.stage) c.lock-second.ensures) c.poll_once.ensures.polls c.poll_once-2.ensures.polls c.cancel.ensures.state c.cancel.ensures.lawful in
    let woken = IsOwn-wakes mine c.cancel.new.m c.take_wake.new.self stays c.take_wake.result c.take_wake.ensures.woken in
    let given = IsOwn-given_back mine c.take_wake.new.self c.drop_guard.new.self woken 1 c.drop_guard.ensures.state c.drop_guard.ensures.lawful in
    let again = IsOwn-wakes mine c.drop_guard.new.self c.take_wake-2.new.self given c.take_wake-2.result c.take_wake-2.ensures.woken in
    rw (rw c.unserved.ensures at c.try_lock-2.ensures.none) again
