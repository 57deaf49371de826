use Rattle.std.proofs.Common.{length}
use Rattle.band_sem.proofs.mixed.Side.lose.Given as goal

abbrev pub decreases-loop-permit : goal.decreases-loop-permit
decreases-loop-permit l = length l.permits.items
