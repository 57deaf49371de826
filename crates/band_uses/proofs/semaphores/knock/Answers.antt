use Rattle.band_sem.proofs.Own.{IsOwn-polled}
use Rattle.band_uses.proofs.semaphores.knock.Goals as goal

pub cancel-requires-in-Ok-Pending-clause-own : goal.cancel-requires-in-Ok-Pending-clause-own
cancel-requires-in-Ok-Pending-clause-own g c =
    IsOwn-polled c.acquire-request.result c.poll_once.new.self c.args.waker.0 c.args.sem.now c.poll_once.new.sem c.poll_once.result
    (rw c.acquire-request.ensures tt)
    c.poll_once.ensures.polls
