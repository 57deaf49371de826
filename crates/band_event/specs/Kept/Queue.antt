-- What a queue keeps beside what it shows.
use Rattle.std.specs.Prelude.{◌≡◌, ℕ, ◌+◌, ◌≤◌, length, Bool, true, false, Option, Some, None, Result, Ok, Err}
use Rattle.std.specs.declared.alloc.AllocError.{AllocError}
use Rattle.band_base.specs.declared.waker.Waker.{Waker}
use Rattle.band_line.specs.Arena.{next_slot}
use Rattle.band_line.specs.WaitList.{WaitListState, pushed_back, with_list_room, with_waiter, removed_waiter}
use Rattle.band_event.specs.declared.place.Place.{Place}
use Rattle.band_event.specs.declared.place.Place.TheVariants.{Queued, Called}
use Rattle.band_event.specs.Event.{QueueState, AreQueued, called}
use Rattle.band_signal.specs.WaitQueue.{place_at, HasNoRoom, with_wake_room}

-- those in line are counted, and there is room for the wake of each
pub record IsKept (line : WaitListState Place) (waiting spare : ℕ) : Type 0 where
  pub queued : AreQueued line
  pub counted : waiting ≡ length line.linked
  pub room : waiting ≤ spare

-- the first in line is called, if there is one
abbrev pub CallsFirst : Option ℕ → QueueState → Bool → QueueState → Type 0
CallsFirst None old result new = (result ≡ false) × (new ≡ old)
CallsFirst (Some slot) old result new = (result ≡ true) × (new ≡ called slot old)

-- one that is queued leaves its new waker
abbrev pub with_new_waker : Waker → Place → Place
with_new_waker waker (Queued before) = Queued waker
with_new_waker waker Called = Called

-- a wait goes to the end of the line, or there was no memory
abbrev pub JoinsQueue : Waker → QueueState → Result ℕ AllocError → QueueState → Type 0
JoinsQueue waker old (Ok slot) new =
    (slot ≡ next_slot old.line.nodes)
    × (place_at slot old ≡ None)
    × (new ≡ record old {
      line = pushed_back (Queued waker) (with_list_room (new.line.nodes.spare + 1) old.line);
      room = new.room;
    })
JoinsQueue waker old (Err error) new = HasNoRoom old × (new ≡ with_wake_room new.room old)

-- one that was called leaves, and one that is queued leaves its new waker
abbrev pub PollsPlace : Option Place → ℕ → Waker → QueueState → Bool → QueueState → Type 0
PollsPlace (Some Called) slot waker old result new =
    (result ≡ true) × (new ≡ record old { line = removed_waiter slot old.line })
PollsPlace (Some (Queued before)) slot waker old result new =
    (result ≡ false) × (new ≡ record old { line = with_waiter slot (Queued waker) old.line })
PollsPlace None slot waker old result new = ⊥
