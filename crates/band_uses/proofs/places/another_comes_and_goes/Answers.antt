use Rattle.band_sem.proofs.Own.{IsOwn-taken, IsOwn-given_back}
use Rattle.band_uses.proofs.places.another_comes_and_goes.Goals as goal

pub returns-in-Some-clause-own : goal.returns-in-Some-clause-own
returns-in-Some-clause-own g c =
    let taken = IsOwn-taken c.args.mine.now c.args.sem.now c.try_acquire.new.self c.requires 1 c.in-Some.ensures.some in
    IsOwn-given_back c.args.mine.now c.try_acquire.new.self c.drop_permit.new.self taken _ c.drop_permit.ensures.state c.drop_permit.ensures.lawful
