-- proofs/tests/the_second_waits: who waits keeps its place through the calls for others
use Rattle.std.proofs.Common.{ap}
use Rattle.band_sem.proofs.Own.{IsOwn-given_back, IsOwn-wakes, IsOwn-asked}
use Rattle.band_lock.proofs.tests.the_second_waits.Goals as goal

pub is_granted-requires-2-clause-own : goal.is_granted-requires-2-clause-own
is_granted-requires-2-clause-own g c =
    let mine = c.poll_once-2.new.self in
    let joined = IsOwn-asked c.lock-second.result mine 2 c.poll_once.new.m c.poll_once-2.new.m c.poll_once-2.result (ap (λ r. r.stage) c.lock-second.ensures) c.poll_once-2.ensures.polls in
    IsOwn-given_back mine c.poll_once-2.new.m c.drop_guard.new.self joined 1 c.drop_guard.ensures.state c.drop_guard.ensures.lawful

pub poll_once-requires-3-clause-own : goal.poll_once-requires-3-clause-own
poll_once-requires-3-clause-own g c =
    let mine = c.poll_once-2.new.self in
    let joined = IsOwn-asked c.lock-second.result mine 2 c.poll_once.new.m c.poll_once-2.new.m c.poll_once-2.result (ap (λ r. r.stage) c.lock-second.ensures) c.poll_once-2.ensures.polls in
    let given = IsOwn-given_back mine c.poll_once-2.new.m c.drop_guard.new.self joined 1 c.drop_guard.ensures.state c.drop_guard.ensures.lawful in
    let woken = IsOwn-wakes mine c.drop_guard.new.self c.take_wake.new.self given c.take_wake.result c.take_wake.ensures.woken in
    IsOwn-wakes mine c.take_wake.new.self c.take_wake-2.new.self woken c.take_wake-2.result c.take_wake-2.ensures.woken
