-- A group: how many handles there are, and who waits until there is none.
use Rattle.std.specs.Prelude.{ℕ, ◌+◌, ◌-◌, Bool, ◌==◌}
use Rattle.band_signal.specs.Waits.{Waits, no_waits, woken_if}

-- its number, which its handles carry, how many handles there are, and its waits
pub record Group : Type 0 where
  pub number : ℕ
  pub handles : ℕ
  pub waits : Waits

-- one with a handle
abbrev pub new_group : ℕ → Group
new_group number = record { number = number; handles = 1; waits = no_waits }

-- what its waits wait for
abbrev pub is_deserted : Group → Bool
is_deserted group = group.handles == 0

abbrev pub with_handle : Group → Group
with_handle group = record group { handles = group.handles + 1 }

-- a handle less. Where it was the last, all are woken
abbrev pub without_handle : Group → Group
without_handle group = record group {
  handles = group.handles - 1;
  waits = woken_if (group.handles == 1) group.waits;
}
