use Rattle.std.proofs.Common.{ap, ◌+◌}
use Rattle.band_sem.proofs.Laws.{KeepsOrder-same, KeepsOrder-gives_back}
use Rattle.band_sem.proofs.Like.{IsWhole-like, like_back}
use Rattle.band_sem.proofs.Lawful.{lawful_when_sound}
use Rattle.band_sem.proofs.Whole.{IsWhole-released}
use Rattle.band_sem.proofs.semaphore.Semaphore.release.Goals as goal
use Rattle.band_sem.proofs.semaphore.Semaphore.release.Goals.{then-release, else-release}

pub returns-clause-order : goal.returns-clause-order
returns-clause-order g c = elim c.if-release.branch [
  | then-release w ↦ rw (← c.self.view_is) (KeepsOrder-gives_back c.args.n _ _ (rw w.if-release.true at c.release.ensures.yes).line)
  | else-release w ↦ rw (← c.self.view_is) (KeepsOrder-same _ _ (ap (λ s. s.line) (c.release.ensures.no w.if-release.false)))
]

pub returns-clause-lawful : goal.returns-clause-lawful
returns-clause-lawful g c = lawful_when_sound _ c.release.ensures.sound

pub returns-clause-whole : goal.returns-clause-whole
returns-clause-whole g c = elim c.if-release.branch [
  | then-release w ↦ rw w.result-is (rw (← c.self.view_is)
      (λ m whole. IsWhole-like _ _ (like_back _ _ (rw w.if-release.true at c.release.ensures.yes)) (m + c.args.n) (IsWhole-released m c.args.n _ whole)))
  | else-release w ↦ rw w.result-is tt
]

pub returns-clause-ok : goal.returns-clause-ok
returns-clause-ok g c = elim c.if-release.branch [
  | then-release w ↦ rw w.result-is (rw (← c.self.view_is) (rw w.if-release.true at c.release.ensures.yes))
  | else-release w ↦ rw w.result-is tt
]
