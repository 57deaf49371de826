use Rattle.band_lock.proofs.rw_lock.ReadRequest.cancel.Goals as goal

pub invariant_of-l : goal.invariant_of-l
invariant_of-l g c = record { some = c.l.invariant.some; shares = c.cancel.ensures.whole c.l.inside.max_readers c.l.invariant.shares }

pub returns-clause-whole : goal.returns-clause-whole
returns-clause-whole g c = record { some = c.l.invariant.some; shares = c.cancel.ensures.whole c.l.inside.max_readers c.l.invariant.shares }
