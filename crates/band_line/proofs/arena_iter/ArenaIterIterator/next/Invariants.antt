use Rattle.std.proofs.Common.{◌≡◌, length}
use Rattle.std.specs.Vec.Iter.{into_iter_items}
use Rattle.band_line.specs.Slots.{values_of}
use Rattle.band_line.proofs.arena_iter.ArenaIterIterator.next.Given as goal

-- no value was passed over
abbrev pub invariant-loop-slot : goal.invariant-loop-slot
invariant-loop-slot g l = values_of (into_iter_items l.self-inside.slots) ≡ l.fn.self

abbrev pub decreases-loop-slot : goal.decreases-loop-slot
decreases-loop-slot g l = length (into_iter_items l.self-inside.slots)
