use Rattle.std.proofs.Common.{◌≡◌, ◌+◌, ◌≤◌, []}
use Rattle.band_player.specs.Player.{wakers_left}
use Rattle.band_play.proofs.Visits.{Visited}
use Rattle.band_play.proofs.script.play.Given as goal

abbrev pub invariant-pieces : goal.invariant-pieces
invariant-pieces g l = record {
  visited : Visited l.limit l.left l.playing (g.S.Source.left l.initial.src) (g.S.Source.left l.src) (g.D.Sink.written l.initial.dst) (g.D.Sink.written l.dst) l.initial.steps l.steps;
  quiet : wakers_left l.playing.player ≡ [];
  count : l.playing.lines + l.left ≤ l.limit;
  no_fewer : l.initial.steps ≤ l.steps;
  reads_never_fall : g.S.Source.faults l.initial.src ≤ g.S.Source.faults l.src;
  writes_never_fall : g.D.Sink.faults l.initial.dst ≤ g.D.Sink.faults l.dst;
}

abbrev pub decreases-pieces : goal.decreases-pieces
decreases-pieces g l = l.left
