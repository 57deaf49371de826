use Rattle.band_sem.proofs.Lawful.{lawful_when_sound}
use Rattle.band_sem.proofs.semaphore.Semaphore.is_closed.Goals as goal

pub returns-clause-lawful : goal.returns-clause-lawful
returns-clause-lawful c = rw (← c.self.view_is) (lawful_when_sound _ c.self.invariant)
