-- proofs/tests/first_gives_up: who stays has its slot still after the other gave up
use Rattle.std.proofs.Common.{Ok}
use Rattle.band_base.specs.declared.poll.Poll.TheVariants.{Pending}
use Rattle.band_sem.proofs.Own.{SlotsDiffer-new, SlotsDiffer-back, IsOwn-polled, IsOwn-polls, IsOwn-cancels, IsOwn-wakes}
use Rattle.band_sem.proofs.tests.first_gives_up.Goals as goal

pub gets-permit-requires-clause-own : goal.gets-permit-requires-clause-own
gets-permit-requires-clause-own g c =
    let two = c.pends.new.request in
    let one = c.pends-3.new.request in
    let two_joined = IsOwn-polled c.acquire-two.result two 7 c.new-sem.result c.pends.new.sem (Ok Pending) (rw c.acquire-two.ensures tt) c.pends.ensures.polls in
    let one_joined = IsOwn-polled c.acquire-one.result c.pends-2.new.request 6 c.pends.new.sem c.pends-2.new.sem (Ok Pending) (rw c.acquire-one.ensures tt) c.pends-2.ensures.polls in
    let apart = IsOwn-polls two c.pends.new.sem c.pends-2.new.sem two_joined c.acquire-one.result c.pends-2.new.request 6 (Ok Pending) (rw c.acquire-one.ensures (SlotsDiffer-new two.stage)) c.pends-2.ensures.polls in
    let one_waits = IsOwn-polled c.pends-2.new.request one 8 c.pends-2.new.sem c.pends-3.new.sem (Ok Pending) one_joined c.pends-3.ensures.polls in
    let still_apart = IsOwn-polls two c.pends-2.new.sem c.pends-3.new.sem apart.0 c.pends-2.new.request one 8 (Ok Pending) apart.1 c.pends-3.ensures.polls in
    let stays = IsOwn-cancels one c.pends-3.new.sem c.cancel.new.sem one_waits two.stage (SlotsDiffer-back two.stage one.stage still_apart.1) c.cancel.ensures.state c.cancel.ensures.lawful in
    IsOwn-wakes one c.cancel.new.sem c.take_wake.new.self stays c.take_wake.result c.take_wake.ensures.woken
