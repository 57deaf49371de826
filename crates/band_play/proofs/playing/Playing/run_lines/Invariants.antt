use Rattle.std.proofs.Common.{◌≡◌, ◌+◌, ◌≤◌, [], length}
use Rattle.band_player.specs.Player.{wakers_left}
use Rattle.band_play.proofs.Visits.{RanUpTo}
use Rattle.band_play.proofs.playing.Playing.run_lines.Given as goal

abbrev pub invariant-loop-end : goal.invariant-loop-end
invariant-loop-end g l = record {
  ran : RanUpTo l.piece l.rest l.initial.self l.self l.initial.steps l.steps;
  quiet : wakers_left l.self.player ≡ [];
  count : l.self.lines + length l.rest ≤ l.initial.self.lines + length l.piece;
}

abbrev pub decreases-loop-end : goal.decreases-loop-end
decreases-loop-end g l = length l.rest
