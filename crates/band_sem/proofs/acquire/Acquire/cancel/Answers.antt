use Rattle.std.proofs.Common.{refl}
use Rattle.band_sem.proofs.Laws.{KeepsOrder-same}
use Rattle.band_sem.proofs.Whole.{StaysWhole-same}
use Rattle.band_sem.proofs.acquire.Acquire.cancel.Goals as goal
use Rattle.band_sem.proofs.acquire.Acquire.cancel.Goals.{in-Joined, in-NotPolled}

pub returns-clause-order : goal.returns-clause-order
returns-clause-order g c = elim c.match-self.branch [
  | in-Joined w ↦ rw w.sem-is w.cancel.ensures.order
  | in-NotPolled w ↦ rw w.sem-is (KeepsOrder-same c.args.sem.now.line c.args.sem.now.line refl)
]

pub returns-clause-whole : goal.returns-clause-whole
returns-clause-whole g c = elim c.match-self.branch [
  | in-Joined w ↦ rw w.sem-is w.cancel.ensures.whole
  | in-NotPolled w ↦ StaysWhole-same c.args.sem.now c.match-self.sem w.sem-is
]
