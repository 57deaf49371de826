use Rattle.band_sem.proofs.Lawful.{lawful_when_sound, shows_line}
use Rattle.band_sem.proofs.semaphore.Semaphore.line.Goals as goal

pub returns-clause-shows : goal.returns-clause-shows
returns-clause-shows c = rw (← c.self.view_is, c.line.ensures) (shows_line c.self.inside.store c.self.invariant)

pub returns-clause-lawful : goal.returns-clause-lawful
returns-clause-lawful c = rw (← c.self.view_is) (lawful_when_sound _ c.self.invariant)
