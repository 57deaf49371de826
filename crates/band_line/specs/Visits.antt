use Rattle.std.specs.Prelude.{ℕ, ◌+◌, ◌≤◌}

-- from the old count to the new one, so many visits at least, and so many at most
pub record Visits (least most old new : ℕ) : Type 0 where
  pub no_fewer : old + least ≤ new
  pub no_more : new ≤ old + most
