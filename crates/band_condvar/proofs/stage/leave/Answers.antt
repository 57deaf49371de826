use Rattle.band_condvar.proofs.Requests.{first-joined}
use Rattle.band_condvar.proofs.stage.leave.Goals as goal

pub returns-in-Ok-Pending-clause-here : goal.returns-in-Ok-Pending-clause-here
returns-in-Ok-Pending-clause-here g c =
    first-joined c.lock-request.result c.poll_once.new.self c.args.m.now.number c.args.waker.0 c.args.m.now c.poll_once.new.m c.lock-request.ensures
    (rw c.in-Ok-Pending.field-0-is at c.in-Ok-Pending.ensures.polls)
