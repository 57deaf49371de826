use Rattle.band_sem.proofs.Requests.{KeepsOwn-tries}
use Rattle.band_sem.proofs.callers.tries.Goals as goal

pub returns-in-Some : goal.returns-in-Some
returns-in-Some c = KeepsOwn-tries c.args.sem.now c.try_acquire.new.self c.args.n c.try_acquire.result c.try_acquire.ensures.some c.try_acquire.ensures.none

pub returns-in-None : goal.returns-in-None
returns-in-None c = KeepsOwn-tries c.args.sem.now c.try_acquire.new.self c.args.n c.try_acquire.result c.try_acquire.ensures.some c.try_acquire.ensures.none
