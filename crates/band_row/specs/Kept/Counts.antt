-- What a row counts of its nodes.
use Rattle.std.specs.Prelude.{◌≡◌, ℕ, ◌≤◌, [], length, Option, Some, None}
use Rattle.std.specs.Global.{Global}
use Rattle.std.specs.declared.boxed.Box.{Box}
use Rattle.band_balance.specs.Line.{total}
use Rattle.band_base.specs.WakeLine.{Wakes}
use Rattle.band_partial.specs.PartialLine.{requests_of}
use Rattle.band_row.specs.declared.counts.Kept.{Kept}
use Rattle.band_row.specs.Row.{RowState, IsRow, linked_nodes, granted_of}

-- how many wait, how much was granted and not collected, and the wakers to wake
pub record CountsState : Type 0 where
  pub waiting : ℕ
  pub granted_sum : ℕ
  pub wakes : Wakes

abbrev pub no_counts : CountsState
no_counts = record { waiting = 0; granted_sum = 0; wakes = record { wakers = []; spare = 0 } }

-- nobody is counted before there is memory to do it in
abbrev pub state_of : Option (Box Kept Global) → CountsState
state_of None = no_counts
state_of (Some kept) = record {
  waiting = kept.value.waiting;
  granted_sum = kept.value.granted_sum;
  wakes = kept.value.wakes;
}

-- who waits and what was granted is counted, with room for the wake of each that waits
pub record IsKept (state : RowState) (counts : CountsState) : Type 0 where
  pub row : IsRow state
  pub waiting : counts.waiting ≡ length (requests_of (linked_nodes state.list))
  pub granted : counts.granted_sum ≡ total (granted_of state.list)
  pub room : counts.waiting ≤ counts.wakes.spare
