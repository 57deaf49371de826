use Rattle.band_sem.proofs.Requests.{KeepsOwn-reduced}
use Rattle.band_sem.proofs.callers.drains.Goals as goal

pub returns : goal.returns
returns c = KeepsOwn-reduced c.args.sem.now c.drain_permits.new.self c.drain_permits.result c.drain_permits.ensures.state
