-- What is known of an object of a pool.
use Rattle.std.specs.Prelude.{ℕ, ◌+◌, ◌-◌, ◌^◌, min, Option, Some, None, unwrap_or}

-- when it was made, when it last came back to its pool, and how often it was taken out of those that are idle
pub record Status : Type 0 where
  pub created : ℕ
  pub returned : Option ℕ
  pub recycles : ℕ

-- of one that is made at this moment
abbrev pub new_status : ℕ → Status
new_status now = record { created = now; returned = None; recycles = 0 }

-- when it last came back, or else was made
abbrev pub last_used : Status → ℕ
last_used status = unwrap_or status.returned status.created

-- taken out once more; the count stays at its last value
abbrev pub recycled : Status → Status
recycled status = record status { recycles = min (status.recycles + 1) (2 ^ 64 - 1) }

-- come back at this moment
abbrev pub returned_at : ℕ → Status → Status
returned_at now status = record status { returned = Some now }
