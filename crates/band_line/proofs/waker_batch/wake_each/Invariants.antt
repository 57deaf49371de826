use Rattle.std.proofs.Common.{◌≡◌, map, take}
use Rattle.band_line.specs.Wakers.{pushed_all, waker_of}
use Rattle.band_line.proofs.waker_batch.wake_each.Given as goal

abbrev pub invariant-loop-number : goal.invariant-loop-number
invariant-loop-number l = l.out ≡ pushed_all (map waker_of (take l.number-index l.numbers)) l.fn.out
