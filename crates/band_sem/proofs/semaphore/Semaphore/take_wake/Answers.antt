use Rattle.band_sem.proofs.Whole.{StaysWhole-woken}
use Rattle.band_sem.proofs.Lawful.{lawful_when_sound}
use Rattle.band_sem.proofs.semaphore.Semaphore.take_wake.Goals as goal

pub returns-clause-whole : goal.returns-clause-whole
returns-clause-whole c = rw (← c.self.view_is) (StaysWhole-woken _ _ c.take_wake.result c.take_wake.ensures.woken)

pub returns-clause-lawful : goal.returns-clause-lawful
returns-clause-lawful c = lawful_when_sound _ c.take_wake.ensures.sound
