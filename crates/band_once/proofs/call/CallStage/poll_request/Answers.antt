use Rattle.std.proofs.Common.{Ok, subst}
use Rattle.band_base.specs.declared.poll.Poll.{Poll}
use Rattle.band_sem.specs.Permit.{Permit}
use Rattle.band_once.specs.Claims.{Awaits, KeepsCounted}
use Rattle.band_once.proofs.Claims.{KeepsCounted-polls, polled}
use Rattle.band_once.proofs.call.CallStage.poll_request.Goals as goal

pub returns-in-Ok-Pending-clause-counted : goal.returns-in-Ok-Pending-clause-counted
returns-in-Ok-Pending-clause-counted g c =
    rw c.put.ensures
    (subst (λ (a : Poll Permit). KeepsCounted (Awaits c.args.request) (polled (Ok a) c.poll_once.new.self) c.args.permit.now c.poll_once.new.sem) c.in-Ok-Pending.field-0-is
    (KeepsCounted-polls c.args.permit.now c.poll_once.new.sem c.args.request c.poll_once.new.self c.args.waker.0 (Ok c.in-Ok-Pending.field-0)
    c.requires.counted c.requires.one (c.poll_once.ensures.whole 1 c.requires.whole) c.in-Ok-Pending.ensures.polls))
