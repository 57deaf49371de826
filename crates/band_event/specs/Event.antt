-- An event: whether it is set, who waits for it, and whom to wake.
use Rattle.std.specs.Prelude.{◌≡◌, ℕ, ◌+◌, List, [], ◌∷◌, ◌++◌, flat_map, Bool, true, false, is_some, if◌then◌else◌, Option, Some, None, IsSome, Result, Ok, Err}
use Rattle.band_base.specs.declared.poll.Poll.{Poll}
use Rattle.band_base.specs.declared.poll.Poll.TheVariants.{Ready, Pending}
use Rattle.band_base.specs.declared.poll.PollError.{PollError}
use Rattle.band_base.specs.declared.poll.PollError.TheVariants as errors
use Rattle.band_base.specs.declared.waker.Waker.{Waker}
use Rattle.band_line.specs.Arena.{arena_map, next_slot}
use Rattle.band_line.specs.WaitList.{WaitListState, waiter_at, is_linked, first_waiter, pushed_back, with_list_room, with_waiter, detached, unlinked, removed_waiter}
use Rattle.band_line.specs.Visits.{Visits}
use Rattle.band_signal.specs.Waits.{Life, NotPolled, Registered, Finished, IsOther}
use Rattle.band_signal.specs.WaitQueue.{WaitQueue, new_queue, place_at, HasNoRoom, with_wake_room}
use Rattle.band_event.specs.declared.place.Place.{Place}
use Rattle.band_event.specs.declared.place.Place.TheVariants.{Queued, Called}

-- its waits, each queued in line with its waker or called
abbrev pub QueueState : Type 0
QueueState = WaitQueue Place

pub record EventState : Type 0 where
  pub is_set : Bool
  pub queue : QueueState

abbrev pub new_event : Bool → EventState
new_event is_set = record { is_set = is_set; queue = new_queue }

abbrev pub is_queued : Option Place → Bool
is_queued (Some (Queued waker)) = true
is_queued (Some Called) = false
is_queued None = false

-- exactly those in line are queued
abbrev pub AreQueued : WaitListState Place → Type 0
AreQueued line = (slot : ℕ) → is_queued (waiter_at slot line) ≡ is_linked slot line

abbrev pub IsQueue : QueueState → Type 0
IsQueue queue = AreQueued queue.line

-- what holds of every event: one that is set has nobody in line
pub record IsEvent (event : EventState) : Type 0 where
  pub stored : event.is_set ≡ true → event.queue.line.linked ≡ []
  pub queued : IsQueue event.queue

-- the waker of one that is queued
abbrev pub wakers_of : Option Place → List ℕ
wakers_of (Some (Queued waker)) = waker.0 ∷ []
wakers_of (Some Called) = []
wakers_of None = []

-- one in line is called, which wakes it
abbrev pub called : ℕ → QueueState → QueueState
called slot queue = record queue {
  line = unlinked slot Called queue.line;
  wakes = queue.wakes ++ wakers_of (place_at slot queue);
}

-- all in line are called, in its order
abbrev pub all_called : QueueState → QueueState
all_called queue = record queue {
  line = record { nodes = arena_map (λ place. Called) queue.line.nodes; linked = [] };
  wakes = queue.wakes ++ flat_map (λ slot. wakers_of (place_at slot queue)) queue.line.linked;
}

-- room for the wake of one that is queued
abbrev pub room_of : Option Place → ℕ
room_of (Some (Queued waker)) = 1
room_of (Some Called) = 0
room_of None = 0

-- a wait is gone, from the line too
abbrev pub without : ℕ → QueueState → QueueState
without slot queue = record queue {
  line = removed_waiter slot (detached slot queue.line);
  room = queue.room + room_of (place_at slot queue);
}

-- a signal calls the first in line, or else it is stored
abbrev pub signalled_at : Option ℕ → EventState → EventState
signalled_at None event = record event { is_set = true }
signalled_at (Some slot) event = record event { queue = called slot event.queue }

abbrev pub signalled : EventState → EventState
signalled event = signalled_at (first_waiter event.queue.line) event

-- an event that is not set is set, and all in line are called
abbrev pub set_for_all : EventState → EventState
set_for_all event = if event.is_set then event else record { is_set = true; queue = all_called event.queue }

-- a wait that is registered is there still, queued or called
abbrev pub IsHere : Life → QueueState → Type 0
IsHere (Registered slot) queue = IsSome (place_at slot queue)
IsHere NotPolled queue = Unit {0}
IsHere Finished queue = Unit {0}

-- a wait joins the line, or there was no memory, which it needs only where there was no room. How much room there is after
-- it is told
abbrev pub Joins : Waker → QueueState → Result (Poll Unit) PollError → Life → QueueState → Type 0
Joins waker old (Ok Pending) life new =
    (life ≡ Registered (next_slot old.line.nodes))
    × (place_at (next_slot old.line.nodes) old ≡ None)
    × (new ≡ record old {
      line = pushed_back (Queued waker) (with_list_room (new.line.nodes.spare + 1) old.line);
      room = new.room;
    })
Joins waker old (Ok (Ready output)) life new = ⊥
Joins waker old (Err errors.NoMemory) life new =
    HasNoRoom old × (life ≡ NotPolled) × (new ≡ with_wake_room new.room old)
Joins waker old (Err error) life new = ⊥

-- a later poll: one that was called leaves, and one that is queued leaves its new waker
abbrev pub LaterPoll :
    Option Place → ℕ → Waker → QueueState → Result (Poll Unit) PollError → Life → QueueState → Type 0
LaterPoll (Some Called) slot waker old result life new =
    (result ≡ Ok (Ready tt))
    × (life ≡ Finished)
    × (new ≡ record old { line = removed_waiter slot old.line })
LaterPoll (Some (Queued before)) slot waker old result life new =
    (result ≡ Ok Pending)
    × (life ≡ Registered slot)
    × (new ≡ record old { line = with_waiter slot (Queued waker) old.line })
LaterPoll None slot waker old result life new = ⊥

-- a poll of a wait where no signal is stored
abbrev pub PollsQueue : Life → Waker → QueueState → Result (Poll Unit) PollError → Life → QueueState → Type 0
PollsQueue NotPolled waker old result life new = Joins waker old result life new
PollsQueue (Registered slot) waker old result life new =
    LaterPoll (place_at slot old) slot waker old result life new
PollsQueue Finished waker old result life new =
    (result ≡ Err errors.Finished) × (life ≡ Finished) × (new ≡ old)

-- a first poll of an event that is set is served at once. What that leaves of the event is told: `rest`
abbrev pub Polls :
    Bool → Bool → Life → Waker → EventState → Result (Poll Unit) PollError → Life → EventState → Type 0
Polls true rest NotPolled waker old result life new =
    (result ≡ Ok (Ready tt)) × (life ≡ Finished) × (new ≡ record old { is_set = rest })
Polls false rest NotPolled waker old result life new =
    PollsQueue NotPolled waker old.queue result life new.queue × (new.is_set ≡ old.is_set)
Polls is_set rest (Registered slot) waker old result life new =
    PollsQueue (Registered slot) waker old.queue result life new.queue × (new.is_set ≡ old.is_set)
Polls is_set rest Finished waker old result life new =
    PollsQueue Finished waker old.queue result life new.queue × (new.is_set ≡ old.is_set)

-- a first poll takes the signal of an auto-reset event, and leaves a manual-reset event set
abbrev pub PollsAuto : Life → Waker → EventState → Result (Poll Unit) PollError → Life → EventState → Type 0
PollsAuto before waker old result life new = Polls old.is_set false before waker old result life new

abbrev pub PollsManual : Life → Waker → EventState → Result (Poll Unit) PollError → Life → EventState → Type 0
PollsManual before waker old result life new = Polls old.is_set true before waker old result life new

-- what the cancel of a wait leaves of the queue
abbrev pub cancelled : Life → QueueState → QueueState
cancelled (Registered slot) queue = without slot queue
cancelled NotPolled queue = queue
cancelled Finished queue = queue

abbrev pub is_called : Option Place → Bool
is_called (Some Called) = true
is_called (Some (Queued waker)) = false
is_called None = false

abbrev pub was_called : Life → QueueState → Bool
was_called (Registered slot) queue = is_called (place_at slot queue)
was_called NotPolled queue = false
was_called Finished queue = false

-- of an auto-reset event: a wait that had been called hands the signal on, once it is gone
abbrev pub cancelled_auto : Life → EventState → EventState
cancelled_auto life event =
    let gone : EventState = record event { queue = cancelled life event.queue } in
    if was_called life event.queue then signalled gone else gone

-- nobody leaves, in line or called, and who was called stays so
abbrev pub StayHere : QueueState → QueueState → Type 0
StayHere old new = (slot : ℕ)
    → (is_some (place_at slot new) ≡ is_some (place_at slot old))
    × (is_called (place_at slot old) ≡ true → is_called (place_at slot new) ≡ true)

-- each wait but this one is there still, and who was called stays so
abbrev pub OthersStay : Life → QueueState → QueueState → Type 0
OthersStay life old new = (other : ℕ) → IsOther other life → IsSome (place_at other old)
    → IsSome (place_at other new)
    × (is_called (place_at other old) ≡ true → is_called (place_at other new) ≡ true)

-- how many waits a poll visits: the one that joins, or is in the queue
abbrev pub PollVisits : Life → Result (Poll Unit) PollError → ℕ → ℕ → Type 0
PollVisits NotPolled (Ok Pending) before after = Visits 1 2 before after
PollVisits NotPolled (Ok (Ready output)) before after = after ≡ before
PollVisits NotPolled (Err error) before after = after ≡ before
PollVisits (Registered slot) result before after = Visits 1 2 before after
PollVisits Finished result before after = after ≡ before

-- and a cancel: the one that it takes out, its neighbours, and whom it calls. How many those are at most is told
abbrev pub CancelVisits : ℕ → Life → ℕ → ℕ → Type 0
CancelVisits most (Registered slot) before after = Visits 2 most before after
CancelVisits most NotPolled before after = after ≡ before
CancelVisits most Finished before after = after ≡ before
