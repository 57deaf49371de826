use Rattle.band_sem.proofs.Lawful.{lawful_when_sound}
use Rattle.band_sem.proofs.semaphore.Semaphore.touch.Goals as goal

pub returns : goal.returns
returns c = rw (← c.self.view_is) (lawful_when_sound _ c.self.invariant)
