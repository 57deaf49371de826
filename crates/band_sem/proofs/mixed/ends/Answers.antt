use Rattle.band_sem.proofs.Requests.{KeepsOwn-forgotten, KeepsOwn-given_back}
use Rattle.band_sem.proofs.mixed.ends.Goals as goal

pub returns-in-0 : goal.returns-in-0
returns-in-0 g c = KeepsOwn-given_back c.args.sem.now c.drop_permit.new.self _ c.drop_permit.ensures.state c.drop_permit.ensures.lawful

pub returns-in-1 : goal.returns-in-1
returns-in-1 g c = KeepsOwn-forgotten c.args.sem.now c.forget.new.self _ c.forget.ensures.state

pub returns-in_default : goal.returns-in_default
returns-in_default g c = KeepsOwn-given_back c.args.sem.now c.shrink.new.self _ c.shrink.ensures.state c.shrink.ensures.lawful
