use Rattle.std.proofs.Common.{length}
use Rattle.band_sem.proofs.callers.lose_all.Given as goal

abbrev pub decreases-loop-request : goal.decreases-loop-request
decreases-loop-request l = length l.requests.items
