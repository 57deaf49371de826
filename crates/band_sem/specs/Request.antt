use Rattle.std.specs.Prelude.{ℕ}

-- what a request has come to
pub data Stage : Type 0 where
  -- it was not polled yet
  NotPolled : Stage
  -- it has this slot: it waits, it was granted, or it was ended
  Joined : (slot : ℕ) → Stage
  -- it gave its permits, or it answered that the semaphore is closed
  Finished : Stage

-- what a contract sees of a request: the number of its semaphore, how many permits it asks for, and what it has come to
pub record Request : Type 0 where
  pub of : ℕ
  pub size : ℕ
  pub stage : Stage

-- a request for so many permits of the semaphore with this number
abbrev pub new_request : ℕ → ℕ → Request
new_request number size = record { of = number; size = size; stage = NotPolled }
