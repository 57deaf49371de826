use Rattle.band_lock.proofs.mutex.LockRequest.poll_once.Goals as goal

pub invariant_of-m-2 : goal.invariant_of-m-2
invariant_of-m-2 g c = c.poll_once.ensures.whole 1 c.m.invariant

pub returns-clause-whole : goal.returns-clause-whole
returns-clause-whole g c = c.poll_once.ensures.whole 1 c.m.invariant
