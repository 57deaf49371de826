use Rattle.band_sem.proofs.Requests.{KeepsOwn-shut}
use Rattle.band_sem.proofs.callers.closes.Goals as goal

pub returns : goal.returns
returns g c = KeepsOwn-shut c.args.sem.now c.close.new.self c.close.ensures.state c.close.ensures.lawful
