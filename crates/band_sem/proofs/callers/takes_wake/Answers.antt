use Rattle.band_sem.proofs.Requests.{KeepsOwn-wakes}
use Rattle.band_sem.proofs.callers.takes_wake.Goals as goal

pub returns-in-Some : goal.returns-in-Some
returns-in-Some c = KeepsOwn-wakes c.args.sem.now c.take_wake.new.self c.take_wake.result c.take_wake.ensures.woken
