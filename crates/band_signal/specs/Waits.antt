-- The waits of a primitive: whose wakers are registered, whom to wake, and what a poll and a cancel make of them.
use Rattle.std.specs.Prelude.{◌≡◌, ◌≢◌, ℕ, ◌+◌, List, [], ◌∷◌, ◌++◌, map, Bool, true, false, Option, Some, None, IsSome, Result, Ok, Err}
use Rattle.band_base.specs.declared.poll.Poll.{Poll}
use Rattle.band_base.specs.declared.poll.Poll.TheVariants.{Ready, Pending}
use Rattle.band_base.specs.declared.poll.PollError.{PollError}
use Rattle.band_base.specs.declared.poll.PollError.TheVariants as errors
use Rattle.band_base.specs.declared.waker.Waker.{Waker}
use Rattle.band_line.specs.Arena.{ArenaState, empty_arena, value_at, values, next_slot, inserted, with_value, removed, with_room}

-- the waker of each wait that is registered, by its slot, and the wakers to wake, the oldest first
pub record Waits : Type 0 where
  pub set : ArenaState Waker
  pub wakes : List ℕ

abbrev pub no_waits : Waits
no_waits = record { set = empty_arena; wakes = [] }

-- all that are registered are woken, in the order of their slots, and the set is as new
abbrev pub all_woken : Waits → Waits
all_woken waits = record {
  set = empty_arena;
  wakes = waits.wakes ++ map (λ waker. waker.0) (values waits.set);
}

-- all are woken, or nothing changes
abbrev pub woken_if : Bool → Waits → Waits
woken_if true waits = all_woken waits
woken_if false waits = waits

-- the oldest waker to wake is taken, if there is one
abbrev pub TakesWake : Waits → Option Waker → Waits → Type 0
TakesWake old None new = (old.wakes ≡ []) × (new ≡ old)
TakesWake old (Some waker) new = (old.wakes ≡ waker.0 ∷ new.wakes) × (new.set ≡ old.set)

-- what a wait has come to
pub data Life : Type 0 where
  NotPolled : Life
  Registered : (slot : ℕ) → Life
  Finished : Life

-- a wait that is registered has its waker in the set, unless its event has come
abbrev pub IsOwn : Bool → Life → Waits → Type 0
IsOwn false (Registered slot) waits = IsSome (value_at slot waits.set)
IsOwn false life waits = Unit {0}
IsOwn true life waits = Unit {0}

-- a wait is registered in the next slot
abbrev pub with_waker_in : ℕ → Waker → Waits → Waits
with_waker_in slot waker waits = record waits { set = with_value slot waker waits.set }

-- a first poll of a wait whose event has not come: it is registered, or there was no memory
abbrev pub FirstPoll : {T : Type 0} → Waker → Waits → Result (Poll T) PollError → Life → Waits → Type 0
FirstPoll waker old (Ok Pending) life new =
    (life ≡ Registered (next_slot old.set))
    × (value_at (next_slot old.set) old.set ≡ None)
    × (new ≡ record old { set = inserted waker (with_room (new.set.spare + 1) old.set) })
FirstPoll waker old (Ok (Ready output)) life new = ⊥
FirstPoll waker old (Err errors.NoMemory) life new = (life ≡ NotPolled) × (new ≡ old)
FirstPoll waker old (Err error) life new = ⊥

-- a poll of a wait whose event has come, or not. Its output is told
abbrev pub Polls :
    {T : Type 0} → Bool → T → Life → Waker → Waits → Result (Poll T) PollError → Life → Waits → Type 0
Polls over output Finished waker old result life new =
    (result ≡ Err errors.Finished) × (life ≡ Finished) × (new ≡ old)
Polls true output before waker old result life new =
    (result ≡ Ok (Ready output)) × (life ≡ Finished) × (new ≡ old)
Polls false output NotPolled waker old result life new = FirstPoll waker old result life new
Polls false output (Registered slot) waker old result life new =
    (result ≡ Ok Pending) × (life ≡ Registered slot) × (new ≡ with_waker_in slot waker old)

-- what a cancel leaves: only one that is registered, and whose event has not come, is taken out
abbrev pub cancelled : Bool → Life → Waits → Waits
cancelled false (Registered slot) waits = record waits { set = removed slot waits.set }
cancelled false life waits = waits
cancelled true life waits = waits

-- the slot of another wait
abbrev pub IsOther : ℕ → Life → Type 0
IsOther other (Registered slot) = other ≢ slot
IsOther other NotPolled = Unit {0}
IsOther other Finished = Unit {0}

-- each registration but that of this wait is as it was
abbrev pub LeavesOthers : Life → Waits → Waits → Type 0
LeavesOthers life old new =
    (other : ℕ) → IsOther other life → IsSome (value_at other old.set)
    → value_at other new.set ≡ value_at other old.set

-- the life of a wait that only has a token, or none
abbrev pub life_of : Option ℕ → Life
life_of None = NotPolled
life_of (Some slot) = Registered slot

-- the same poll of a wait that has nothing but its token: once its event has come, it has none
abbrev pub PollsToken :
    Bool → Option ℕ → Waker → Waits → Result (Poll Unit) PollError → Option ℕ → Waits → Type 0
PollsToken true before waker old result token new = (result ≡ Ok (Ready tt)) × (token ≡ None) × (new ≡ old)
PollsToken false before waker old result token new =
    Polls false tt (life_of before) waker old result (life_of token) new

-- how many registrations a poll visits: the one that it makes, or finds in the set
abbrev pub visits_of : {T : Type 0} → Result (Poll T) PollError → ℕ
visits_of (Ok Pending) = 1
visits_of (Ok (Ready output)) = 0
visits_of (Err error) = 0

-- and a cancel: the one that it takes out
abbrev pub visits_out : Bool → Life → ℕ
visits_out false (Registered slot) = 1
visits_out false life = 0
visits_out true life = 0
