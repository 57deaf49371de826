use Rattle.std.specs.Prelude.{ℕ}

-- what a contract sees of a permit: the number of its semaphore, and how many it stands for
pub record Permit : Type 0 where
  pub of : ℕ
  pub count : ℕ

-- so many permits of the semaphore with this number
abbrev pub new_permit : ℕ → ℕ → Permit
new_permit number count = record { of = number; count = count }
