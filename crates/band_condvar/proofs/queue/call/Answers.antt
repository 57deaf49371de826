use Rattle.std.proofs.Common.{subst}
use Rattle.band_line.specs.WaitList.{IsUnlinked}
use Rattle.band_condvar.proofs.queue.call.Goals as goal

pub returns-clause-state : goal.returns-clause-state
returns-clause-state g c =
    subst (λ last. IsUnlinked c.args.id last c.args.list.now (c.unlink_waiter.follows.lender c.replace.new.dest)) c.replace.ensures.after
    (rw c.in-Some.is at c.unlink_waiter.follows.holds c.replace.new.dest)
