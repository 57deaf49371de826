use Rattle.band_sem.proofs.Requests.{KeepsOwn-reduced}
use Rattle.band_sem.proofs.callers.reduces.Goals as goal

pub returns-in-Ok : goal.returns-in-Ok
returns-in-Ok g c = KeepsOwn-reduced c.args.sem.now c.reduce_permits.new.self c.args.n c.in-Ok.ensures.ok
