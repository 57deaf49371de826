-- proofs/tests/waits: who asked is in the line still after permits were added and wakers taken
use Rattle.std.proofs.Common.{Ok}
use Rattle.band_base.specs.declared.poll.Poll.TheVariants.{Pending}
use Rattle.band_sem.proofs.Own.{IsOwn-polled, IsOwn-released, IsOwn-wakes}
use Rattle.band_sem.proofs.tests.waits.Goals as goal

pub is_granted-requires-clause-own : goal.is_granted-requires-clause-own
is_granted-requires-clause-own g c =
    IsOwn-polled c.acquire-request.result c.pends.new.request 7 c.args.sem.now c.pends.new.sem (Ok Pending) (rw c.acquire-request.ensures tt) c.pends.ensures.polls

pub is_granted-requires-2-clause-own : goal.is_granted-requires-2-clause-own
is_granted-requires-2-clause-own g c =
    let joined = IsOwn-polled c.acquire-request.result c.pends.new.request 7 c.args.sem.now c.pends.new.sem (Ok Pending) (rw c.acquire-request.ensures tt) c.pends.ensures.polls in
    IsOwn-released c.pends.new.request c.pends.new.sem c.adds.new.sem joined c.args.case.now.added c.adds.ensures.state c.adds.ensures.lawful

pub gets-permit-requires-clause-own : goal.gets-permit-requires-clause-own
gets-permit-requires-clause-own g c =
    let joined = IsOwn-polled c.acquire-request.result c.pends.new.request 7 c.args.sem.now c.pends.new.sem (Ok Pending) (rw c.acquire-request.ensures tt) c.pends.ensures.polls in
    let added = IsOwn-released c.pends.new.request c.pends.new.sem c.adds.new.sem joined c.args.case.now.added c.adds.ensures.state c.adds.ensures.lawful in
    let one = IsOwn-wakes c.pends.new.request c.adds.new.sem c.take_wake.new.self added c.take_wake.result c.take_wake.ensures.woken in
    IsOwn-wakes c.pends.new.request c.take_wake.new.self c.take_wake-2.new.self one c.take_wake-2.result c.take_wake-2.ensures.woken
