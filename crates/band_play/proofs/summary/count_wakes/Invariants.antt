use Rattle.std.proofs.Common.{◌≡◌, ◌+◌, ◌≤◌, length}
use Rattle.band_play.specs.Bulk.{wakes_in}
use Rattle.band_play.proofs.summary.count_wakes.Given as goal

abbrev pub invariant-loop-line : goal.invariant-loop-line
invariant-loop-line l = record {
  wakes : l.wakes + wakes_in l.rest ≡ wakes_in l.transcript;
  within : l.wakes + length l.rest ≤ length l.transcript;
}

abbrev pub decreases-loop-line : goal.decreases-loop-line
decreases-loop-line l = length l.rest
