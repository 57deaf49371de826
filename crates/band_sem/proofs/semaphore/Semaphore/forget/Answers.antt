use Rattle.std.proofs.Common.{ap₂, ◌∙◌}
use Rattle.band_sem.specs.Semaphore.{forgotten}
use Rattle.band_sem.proofs.Lawful.{lawful_when_sound}
use Rattle.band_sem.proofs.Whole.{whole-forgotten}
use Rattle.band_sem.proofs.semaphore.Semaphore.forget.Goals as goal

pub returns-clause-lawful : goal.returns-clause-lawful
returns-clause-lawful c = lawful_when_sound _ c.forget.ensures.sound

pub returns-clause-whole : goal.returns-clause-whole
returns-clause-whole c = whole-forgotten c.args.self.now _ c.args.p.count c.requires.held (c.forget.ensures.state ∙ ap₂ forgotten c.permits.ensures c.self.view_is)
