use Rattle.band_sem.proofs.Lawful.{lawful_when_sound}
use Rattle.band_sem.proofs.Whole.{whole-drained}
use Rattle.band_sem.proofs.semaphore.Semaphore.drain_permits.Goals as goal

pub returns-clause-lawful : goal.returns-clause-lawful
returns-clause-lawful c = lawful_when_sound _ c.drain.ensures.sound

pub returns-clause-whole : goal.returns-clause-whole
returns-clause-whole c = rw (← c.self.view_is) (whole-drained _ _ c.args.up_to c.drain.result c.drain.ensures.count c.drain.ensures.state)
