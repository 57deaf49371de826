-- proofs/closes/after_a_close: who waits has its slot still after the close
use Rattle.std.proofs.Common.{Ok}
use Rattle.band_base.specs.declared.poll.Poll.TheVariants.{Pending}
use Rattle.band_sem.proofs.Own.{IsOwn-polled, IsOwn-shut}
use Rattle.band_sem.proofs.closes.after_a_close.Goals as goal

pub hears-requires-clause-own : goal.hears-requires-clause-own
hears-requires-clause-own g c =
    let joined = IsOwn-polled c.acquire-request.result c.pends.new.request 7 c.takes-permit.new.sem c.pends.new.sem (Ok Pending) (rw c.acquire-request.ensures tt) c.pends.ensures.polls in
    IsOwn-shut c.pends.new.request c.pends.new.sem c.close.new.self joined c.close.ensures.state c.close.ensures.lawful
