use Rattle.std.proofs.Common.{sym}
use Rattle.std.proofs.lemmas.Bool.{and_parts}
use Rattle.band_sem.proofs.Whole.{StaysWhole-taken, StaysWhole-same}
use Rattle.band_sem.proofs.Lawful.{lawful_when_sound}
use Rattle.band_sem.proofs.semaphore.Semaphore.try_acquire.Goals as goal

pub returns-then-try_serve-clause-whole : goal.returns-then-try_serve-clause-whole
returns-then-try_serve-clause-whole c =
    let at = rw c.if-try_serve.true at c.try_serve.ensures in
    rw (← c.self.view_is) (StaysWhole-taken _ _ c.args.n (and_parts _ _ (sym at.served)).1 at.yes)

pub returns-clause-whole : goal.returns-clause-whole
returns-clause-whole c = rw (← c.self.view_is) (StaysWhole-same _ _ (c.try_serve.ensures.no c.if-try_serve.false))

pub returns-then-try_serve-clause-lawful : goal.returns-then-try_serve-clause-lawful
returns-then-try_serve-clause-lawful c = lawful_when_sound _ c.try_serve.ensures.sound

pub returns-clause-lawful : goal.returns-clause-lawful
returns-clause-lawful c = lawful_when_sound _ c.try_serve.ensures.sound
