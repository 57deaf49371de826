use Rattle.band_sem.proofs.Own.{IsOwn-released, IsOwn-reduced}
use Rattle.band_uses.proofs.places.permits_come_and_go.Goals as goal

pub returns-in-Ok-reduce_permits-clause-own : goal.returns-in-Ok-reduce_permits-clause-own
returns-in-Ok-reduce_permits-clause-own g c =
    let added = IsOwn-released c.args.mine.now c.args.sem.now c.release.new.self c.requires 1 c.in-Ok.ensures.ok c.release.ensures.lawful in
    IsOwn-reduced c.args.mine.now c.release.new.self c.reduce_permits.new.self added 1 c.in-Ok-reduce_permits.ensures.ok

pub returns-in-Err-reduce_permits-clause-own : goal.returns-in-Err-reduce_permits-clause-own
returns-in-Err-reduce_permits-clause-own g c =
    rw c.in-Err-reduce_permits.ensures.err (IsOwn-released c.args.mine.now c.args.sem.now c.release.new.self c.requires 1 c.in-Ok.ensures.ok c.release.ensures.lawful)
