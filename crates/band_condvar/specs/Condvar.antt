-- A condition variable: who waits for it, in line, chosen or released, and whom to wake.
use Rattle.std.specs.Prelude.{◌≡◌, ℕ, ◌+◌, List, [], ◌∷◌, ◌++◌, flat_map, Bool, true, false, is_some, Option, Some, None}
use Rattle.band_base.specs.declared.waker.Waker.{Waker}
use Rattle.band_line.specs.Arena.{arena_map}
use Rattle.band_line.specs.WaitList.{WaitListState, IsWaitList, waiter_at, is_linked, first_waiter, pushed_back, with_list_room, with_waiter, detached, unlinked, removed_waiter}
use Rattle.band_signal.specs.WaitQueue.{WaitQueue, place_at}
use Rattle.band_condvar.specs.declared.place.Place.{Place}
use Rattle.band_condvar.specs.declared.place.Place.TheVariants.{Queued, Chosen, Released}

-- its waits, each queued in line with its waker, chosen or released
abbrev pub CondvarState : Type 0
CondvarState = WaitQueue Place

abbrev pub is_queued : Option Place → Bool
is_queued (Some (Queued waker)) = true
is_queued (Some Chosen) = false
is_queued (Some Released) = false
is_queued None = false

abbrev pub is_chosen : Option Place → Bool
is_chosen (Some Chosen) = true
is_chosen (Some (Queued waker)) = false
is_chosen (Some Released) = false
is_chosen None = false

-- exactly those in line are queued
abbrev pub AreQueued : WaitListState Place → Type 0
AreQueued line = (slot : ℕ) → is_queued (waiter_at slot line) ≡ is_linked slot line

-- what holds between any two calls
pub record IsCondvar (state : CondvarState) : Type 0 where
  pub queued : AreQueued state.line
  pub list : IsWaitList state.line

-- the waker of one that is queued
abbrev pub wakers_of : Option Place → List ℕ
wakers_of (Some (Queued waker)) = waker.0 ∷ []
wakers_of (Some Chosen) = []
wakers_of (Some Released) = []
wakers_of None = []

-- one in line leaves it for another place, which wakes it
abbrev pub called : Place → ℕ → CondvarState → CondvarState
called place slot state = record state {
  line = unlinked slot place state.line;
  wakes = state.wakes ++ wakers_of (place_at slot state);
}

-- `notify_one`: the first in line is chosen, and where nobody is in line nothing changes
abbrev pub chosen_at : Option ℕ → CondvarState → CondvarState
chosen_at None state = state
chosen_at (Some slot) state = called Chosen slot state

abbrev pub one_notified : CondvarState → CondvarState
one_notified state = chosen_at (first_waiter state.line) state

-- who is queued is released, and who was called before stays as it is
abbrev pub released : Place → Place
released (Queued waker) = Released
released Chosen = Chosen
released Released = Released

-- `notify_all`: all in line are released, in its order
abbrev pub all_notified : CondvarState → CondvarState
all_notified state = record state {
  line = record { nodes = arena_map released state.line.nodes; linked = [] };
  wakes = state.wakes ++ flat_map (λ slot. wakers_of (place_at slot state)) state.line.linked;
}

-- a wait goes to the end of the line. How much room there is after it is told
abbrev pub joined : Waker → ℕ → ℕ → CondvarState → CondvarState
joined waker spare room state = record state {
  line = pushed_back (Queued waker) (with_list_room (spare + 1) state.line);
  room = room;
}

-- one in line leaves another waker
abbrev pub with_waker : ℕ → Waker → CondvarState → CondvarState
with_waker slot waker state = record state { line = with_waiter slot (Queued waker) state.line }

-- one that is not in line any more leaves
abbrev pub gone : ℕ → CondvarState → CondvarState
gone slot state = record state { line = removed_waiter slot state.line }

-- room for the wake of one that is queued
abbrev pub room_of : Option Place → ℕ
room_of (Some (Queued waker)) = 1
room_of (Some Chosen) = 0
room_of (Some Released) = 0
room_of None = 0

-- a wait is gone, from the line too
abbrev pub without : ℕ → CondvarState → CondvarState
without slot state = record state {
  line = removed_waiter slot (detached slot state.line);
  room = state.room + room_of (place_at slot state);
}

-- the same with other room
abbrev pub with_room : ℕ → ℕ → CondvarState → CondvarState
with_room spare room state = record state { line = with_list_room spare state.line; room = room }

-- what a slot has is there still, and who was called is where it was
pub record StaysAt (slot : ℕ) (old new : CondvarState) : Type 0 where
  pub here : is_some (place_at slot new) ≡ is_some (place_at slot old)
  pub called : is_queued (place_at slot old) ≡ false → place_at slot new ≡ place_at slot old

-- nobody leaves, and who was called is where it was
abbrev pub AllStay : CondvarState → CondvarState → Type 0
AllStay old new = (slot : ℕ) → StaysAt slot old new
