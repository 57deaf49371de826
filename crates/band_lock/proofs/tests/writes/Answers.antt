use Rattle.band_sem.proofs.Own.{IsOwn-polled}
use Rattle.band_lock.proofs.tests.writes.Goals as goal

pub cancel-requires-clause-own : goal.cancel-requires-clause-own
cancel-requires-clause-own g c =
    IsOwn-polled c.write-request.result c.poll_once.new.self c.args.waker.0 c.args.lock.now.shares c.poll_once.new.l.shares c.poll_once.result
    (rw c.write-request.ensures tt)
    c.poll_once.ensures.polls
