use Rattle.band_sem.specs.Requests.{AreOwn}
use Rattle.band_sem.proofs.mixed.turns.Given as goal

abbrev pub invariant-loop : goal.invariant-loop
invariant-loop g l = AreOwn l.sem l.side.requests.items
