use Rattle.band_lock.proofs.rw_lock.ReadRequest.poll_once.Goals as goal

pub invariant_of-l-2 : goal.invariant_of-l-2
invariant_of-l-2 g c = record { some = c.l.invariant.some; shares = c.poll_once.ensures.whole c.l.inside.max_readers c.l.invariant.shares }

pub returns-clause-whole : goal.returns-clause-whole
returns-clause-whole g c = record { some = c.l.invariant.some; shares = c.poll_once.ensures.whole c.l.inside.max_readers c.l.invariant.shares }
