use Rattle.std.specs.Prelude.{ℕ, List}

-- the wakers to wake, the oldest first, and for how many more there is room
pub record Wakes : Type 0 where
  pub wakers : List ℕ
  pub spare : ℕ
