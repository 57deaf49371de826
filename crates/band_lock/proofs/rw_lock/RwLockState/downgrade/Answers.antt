use Rattle.band_lock.proofs.rw_lock.RwLockState.downgrade.Goals as goal

pub invariant_of-self : goal.invariant_of-self
invariant_of-self g c = record { some = c.self.invariant.some; shares = c.shrink-permit.ensures.whole c.self.inside.max_readers c.self.invariant.shares }

pub returns-clause-whole : goal.returns-clause-whole
returns-clause-whole g c = record { some = c.self.invariant.some; shares = c.shrink-permit.ensures.whole c.self.inside.max_readers c.self.invariant.shares }
