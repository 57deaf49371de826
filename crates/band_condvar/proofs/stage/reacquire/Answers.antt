use Rattle.band_condvar.specs.Kept.Stage.{slot_of}
use Rattle.band_condvar.proofs.Requests.{later-stays}
use Rattle.band_condvar.proofs.stage.reacquire.Goals as goal

pub returns-in-Ok-Pending-clause-here : goal.returns-in-Ok-Pending-clause-here
returns-in-Ok-Pending-clause-here g c =
    later-stays c.args.request c.poll_once.new.self c.args.m.now.number (slot_of c.args.request.stage) c.args.waker.0 c.args.m.now c.poll_once.new.m
    c.requires.fits c.requires.own
    (rw c.in-Ok-Pending.field-0-is at c.in-Ok-Pending.ensures.polls)
