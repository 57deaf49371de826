use Rattle.band_condvar.proofs.Here.{IsHere-unlocked, IsHere-wakes}
use Rattle.band_condvar.proofs.tests.it_is_granted_in_the_mutexs_line.Goals as goal

pub poll-requires-3-clause-here : goal.poll-requires-3-clause-here
poll-requires-3-clause-here g c =
    let stage = c.poll-2.new.self.wait.stage in
    let condvar = c.poll-2.new.cv in
    IsHere-wakes condvar c.drop_guard.new.self c.take_wake-2.new.self stage c.take_wake-2.result
    (IsHere-unlocked condvar c.poll-2.new.m c.drop_guard.new.self stage (c.poll-2.ensures.goes_on c.pending-2.ensures)
    c.poll-2.ensures.here c.drop_guard.ensures.state c.drop_guard.ensures.lawful)
    c.take_wake-2.ensures.woken
