use Rattle.band_sem.specs.Requests.{AreOwn}
use Rattle.band_sem.proofs.lives.calls.Given as goal

abbrev pub invariant-loop-next : goal.invariant-loop-next
invariant-loop-next g l = AreOwn l.sem l.requests.items
