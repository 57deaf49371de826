use Rattle.std.proofs.Common.{◌≡◌, ◌++◌, ◌-◌, string_bytes}
use Rattle.band_play.specs.Bulk.{script_of, drops, numbers_to}
use Rattle.band_play.proofs.bulk.push_drops.Given as goal

abbrev pub invariant-loop-i : goal.invariant-loop-i
invariant-loop-i l = string_bytes l.script ≡ string_bytes l.initial.script ++ script_of (drops (numbers_to (l.i - 1)))
