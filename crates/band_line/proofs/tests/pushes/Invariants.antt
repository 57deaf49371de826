use Rattle.std.proofs.Common.{◌≡◌, ◌+◌, length}
use Rattle.band_line.proofs.tests.pushes.Given as goal

abbrev pub invariant-loop-number : goal.invariant-loop-number
invariant-loop-number l = length l.batch ≡ length l.fn.batch + l.number
