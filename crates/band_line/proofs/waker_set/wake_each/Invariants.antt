use Rattle.std.proofs.Common.{◌≡◌}
use Rattle.band_line.specs.Wakers.{pushed_all}
use Rattle.band_line.proofs.waker_set.wake_each.Given as goal

abbrev pub invariant-loop-waker : goal.invariant-loop-waker
invariant-loop-waker l = l.out ≡ pushed_all l.yielded l.fn.out
