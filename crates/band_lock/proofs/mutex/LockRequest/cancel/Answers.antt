use Rattle.band_lock.proofs.mutex.LockRequest.cancel.Goals as goal

pub invariant_of-m : goal.invariant_of-m
invariant_of-m g c = c.cancel.ensures.whole 1 c.m.invariant

pub returns-clause-whole : goal.returns-clause-whole
returns-clause-whole g c = c.cancel.ensures.whole 1 c.m.invariant
