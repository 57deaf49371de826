use Rattle.std.proofs.Common.{◌≡◌, ◌++◌, string_bytes, flat_map, length}
use Rattle.band_player.specs.Player.{wakers_left, Stays, load_of}
use Rattle.band_rules.specs.Text.{wake_line}
use Rattle.band_play.proofs.lines.push_wakes.Given as goal

abbrev pub invariant-loop-waker : goal.invariant-loop-waker
invariant-loop-waker l = record {
  text : string_bytes l.text ++ flat_map wake_line (wakers_left l.player) ≡ string_bytes l.initial.text ++ flat_map wake_line (wakers_left l.initial.player);
  state : Stays l.initial.player l.player;
  load : load_of l.player ≡ load_of l.initial.player;
}

abbrev pub decreases-loop-waker : goal.decreases-loop-waker
decreases-loop-waker l = length (wakers_left l.player)
