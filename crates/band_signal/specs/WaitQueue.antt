-- The waits of a primitive that calls them one by one, in the order of a line.
use Rattle.std.specs.Prelude.{◌≡◌, ◌⊎◌, ℕ, List, [], ◌∷◌, Option, Some, None, IsSome}
use Rattle.band_base.specs.declared.waker.Waker.{Waker}
use Rattle.band_line.specs.WaitList.{WaitListState, empty_list, waiter_at}
use Rattle.band_signal.specs.Waits.{Life, IsOther}

-- the waits that are registered, in line or called, each with what has become of it; the wakers to wake, the oldest first; and
-- for how many more waits there is room for their wake
pub record WaitQueue (Place : Type 0) : Type 0 where
  pub line : WaitListState Place
  pub wakes : List ℕ
  pub room : ℕ

module _ {Place : Type 0} where
  abbrev pub new_queue : WaitQueue Place
  new_queue = record { line = empty_list; wakes = []; room = 0 }

  -- what has become of the wait in a slot
  abbrev pub place_at : ℕ → WaitQueue Place → Option Place
  place_at slot queue = waiter_at slot queue.line

  -- one more wait needs memory, for its place in line or for its wake
  abbrev pub HasNoRoom : WaitQueue Place → Type 0
  HasNoRoom queue = (queue.line.nodes.spare ≡ 0) ⊎ (queue.room ≡ 0)

  -- the same with other room for wakes
  abbrev pub with_wake_room : ℕ → WaitQueue Place → WaitQueue Place
  with_wake_room room queue = record queue { room = room }

  -- each wait but this one is where it was
  abbrev pub LeavesOthers : Life → WaitQueue Place → WaitQueue Place → Type 0
  LeavesOthers life old new =
      (other : ℕ) → IsOther other life → IsSome (place_at other old) → place_at other new ≡ place_at other old

  -- the oldest waker to wake is taken, if there is one
  abbrev pub TakesWake : WaitQueue Place → Option Waker → WaitQueue Place → Type 0
  TakesWake old None new = (old.wakes ≡ []) × (new ≡ old)
  TakesWake old (Some waker) new = (old.wakes ≡ waker.0 ∷ new.wakes) × (new ≡ record old { wakes = new.wakes })
