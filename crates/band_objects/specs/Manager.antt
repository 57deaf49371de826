-- The calls that a pool makes of its manager.
use Rattle.std.specs.Prelude.{◌≡◌, ℕ, ◌+◌, Option, Some, None, Result}
use Rattle.band_base.specs.declared.poll.Poll.{Poll}
use Rattle.band_base.specs.declared.poll.PollError.{PollError}
use Rattle.band_objects.specs.Status.{Status}

-- A call, with what it was handed, what it gave and what it left: of a manager of objects O that fails by E, whose
-- creations are C and whose checks are K.
pub data Call (O E C K : Type 0) : Type 0 where
  -- a creation is begun
  Creates : (creation : C) → Call O E C K
  -- it is polled with this waker
  PollsCreation : (before : C) → (waker : ℕ) → (answer : Result (Poll (Result O E)) PollError) → (after : C)
      → Call O E C K
  -- a check of an object is begun
  Checks : (object : O) → (status : Status) → (check : K) → Call O E C K
  -- it is polled with this waker, and may change the object
  PollsCheck : (before : K) → (object : O) → (status : Status) → (waker : ℕ)
      → (answer : Result (Poll (Result (Unit {0}) E)) PollError) → (after : K) → (left : O) → Call O E C K
  -- an object that has left the pool is handed over, and may be changed
  Detaches : (before after : O) → Call O E C K

-- how many objects a call hands over
abbrev pub handed : {O E C K : Type 0} → Call O E C K → ℕ
handed (Creates creation) = 0
handed (PollsCreation before waker answer after) = 0
handed (Checks object status check) = 0
handed (PollsCheck before object status waker answer after left) = 0
handed (Detaches before after) = 1

-- so many more were handed over, as long as that is told
abbrev pub Tells : ℕ → Option ℕ → Option ℕ → Type 0
Tells n None after = after ≡ None
Tells n (Some before) None = Unit {0}
Tells n (Some before) (Some after) = after ≡ before + n
