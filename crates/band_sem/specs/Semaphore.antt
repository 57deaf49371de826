-- What a contract sees of a semaphore, and what each call makes of it.
use Rattle.std.specs.Prelude.{◌≡◌, ℕ, ◌+◌, ◌-◌, ◌<◌, ◌≤◌, Bool, true, false, not, ◌&&◌, ◌==◌, List, ◌∷◌, [], ◌++◌, drop, map, pos, neg_ℤ, ◌+ℤ◌, ◌≤ℤ◌, IsTrue, IsSome, is_some, Option, Some, None, Result, Ok, Err, nat_eq, nat_le, if◌then◌else◌}
use Rattle.std.specs.List.{IsDistinct, AllByRecursion}
use Rattle.std.specs.List.Sorted.{IsPermutation}
use Rattle.band_balance.specs.Line.{Entry, Waiting, Line, AreAlike, entry_of, open_line, requests, total, available, is_served, take_permits, give_back, join, entry_named, without, poll_granted}
use Rattle.band_balance.specs.Line.{poll_waiting, cancel, end_waiting, u64_max}
use Rattle.band_balance.specs.Settled.{HeadWaits}
use Rattle.band_base.specs.declared.poll.Poll.{Poll}
use Rattle.band_base.specs.declared.poll.Poll.TheVariants.{Ready, Pending}
use Rattle.band_base.specs.declared.poll.PollError.{PollError}
use Rattle.band_base.specs.declared.poll.PollError.TheVariants as errors
use Rattle.band_base.specs.declared.waker.Waker.{Waker}
use Rattle.band_sem.specs.Permit.{Permit, new_permit}
use Rattle.band_sem.specs.Request.{Request, Stage, NotPolled, Joined, Finished}

-- its number, its line by slots, how many permits are held, how many debts are not paid yet, whether it is closed, and
-- the requests that it ended and that have not polled since
pub record SemaphoreState : Type 0 where
  pub number : ℕ
  pub line : Line ℕ
  pub held : ℕ
  pub debts : ℕ
  pub closed : Bool
  pub ended : List (Entry ℕ)

-- who has a slot: those that were ended, and those in the line
abbrev pub asked : SemaphoreState → List (Entry ℕ)
asked state = state.ended ++ requests state.line

-- Two are alike where they differ at most in the order of those granted and of those ended, which no call looks at, and
-- in how many debts make up what is owed.
pub record IsLike (one other : SemaphoreState) : Type 0 where
  pub number : other.number ≡ one.number
  pub line : AreAlike one.line other.line
  pub held : other.held ≡ one.held
  pub closed : other.closed ≡ one.closed
  pub ended : IsPermutation one.ended other.ended

-- of an open semaphore nobody is ended, and of a closed one nobody waits
abbrev pub EndsAs : Bool → List (Entry ℕ) → List (Waiting ℕ) → Type 0
EndsAs false ended waiting = ended ≡ []
EndsAs true ended waiting = waiting ≡ []

-- what holds between any two calls
pub record IsLawful (state : SemaphoreState) : Type 0 where
  -- a slot is one request's
  pub one_each : IsDistinct nat_eq (map (λ e. e.name) (asked state))
  -- each request that has one asks for something
  pub each_asks : AllByRecursion (λ e. 0 < e.size) (asked state)
  pub closing : EndsAs state.closed state.ended state.line.waiting
  pub head_waits : HeadWaits state.line.free state.line.waiting
  pub in_hand : total state.line.granted + state.held ≤ u64_max
  pub in_all : (state.line.free +ℤ pos (total state.line.granted + state.held)) ≤ℤ pos u64_max
  pub owed : neg_ℤ (pos u64_max) ≤ℤ state.line.free

abbrev pub is_slot : ℕ → ℕ → Bool
is_slot slot name = slot == name

-- one of n permits, of which nobody has any
abbrev pub new_state : ℕ → ℕ → SemaphoreState
new_state number n =
    record { number = number; line = open_line n; held = 0; debts = 0; closed = false; ended = [] }

-- a request is served at once: it is open, and so much may be taken without waiting
abbrev pub serves : ℕ → SemaphoreState → Bool
serves n state = not state.closed && is_served n state.line

-- n of the free permits are held from now on
abbrev pub taken : ℕ → SemaphoreState → SemaphoreState
taken n old = record old { line = take_permits n old.line; held = old.held + n }

-- n that were held come back, and the line settles
abbrev pub given_back : ℕ → SemaphoreState → SemaphoreState
given_back n old = record old { line = give_back n old.line; held = old.held - n }

-- n that were held are gone
abbrev pub forgotten : ℕ → SemaphoreState → SemaphoreState
forgotten n old = record old { held = old.held - n }

-- n are added, and the line settles
abbrev pub released : ℕ → SemaphoreState → SemaphoreState
released n old = record old { line = give_back n old.line }

-- what is not available of n makes one debt
abbrev pub new_debts : ℕ → Line ℕ → ℕ
new_debts n line = if nat_le n (available line) then 0 else 1

-- n of the free ones are gone; what is not there is owed
abbrev pub reduced : ℕ → SemaphoreState → SemaphoreState
reduced n old = record old { line = take_permits n old.line; debts = old.debts + new_debts n old.line }

-- a request goes to the end of the line under this slot
abbrev pub joined : ℕ → ℕ → ℕ → SemaphoreState → SemaphoreState
joined slot size waker old = record old { line = join slot size waker old.line }

-- the n that were granted under this slot are held from now on
abbrev pub received : ℕ → ℕ → SemaphoreState → SemaphoreState
received slot n old = record old { line = poll_granted (is_slot slot) old.line; held = old.held + n }

-- the one that waits under this slot leaves this waker
abbrev pub with_waker : ℕ → ℕ → SemaphoreState → SemaphoreState
with_waker slot waker old = record old { line = poll_waiting (is_slot slot) waker old.line }

-- the one that was ended under this slot has heard of it
abbrev pub told : ℕ → SemaphoreState → SemaphoreState
told slot old = record old { ended = without (is_slot slot) old.ended }

-- the request under this slot leaves, and the line settles
abbrev pub without_request : ℕ → SemaphoreState → SemaphoreState
without_request slot old =
    record old { line = cancel (is_slot slot) old.line; ended = without (is_slot slot) old.ended }

-- it is closed: all that wait are ended, and are to be woken in their order
abbrev pub shut : SemaphoreState → SemaphoreState
shut old = record old {
  line = end_waiting old.line;
  closed = true;
  ended = old.ended ++ map entry_of old.line.waiting;
}

-- the oldest waker to wake is taken
abbrev pub woken : SemaphoreState → SemaphoreState
woken old = record old { line = record old.line { wakes = drop 1 old.line.wakes } }

-- the oldest waker to wake, if there is one
abbrev pub TakesWake : SemaphoreState → Option Waker → SemaphoreState → Type 0
TakesWake old None new = (old.line.wakes ≡ []) × (new ≡ old)
TakesWake old (Some waker) new = (old.line.wakes ≡ waker.0 ∷ new.line.wakes) × (new ≡ woken old)

-- somebody has this slot
abbrev pub HasSlot : ℕ → SemaphoreState → Type 0
HasSlot slot state = IsSome (entry_named (is_slot slot) (asked state))

-- whether the request under this slot was granted
abbrev pub is_granted : ℕ → SemaphoreState → Bool
is_granted slot state = is_some (entry_named (is_slot slot) state.line.granted)

-- whether a request that came to this was granted, and has not taken its permits
abbrev pub was_granted : Stage → SemaphoreState → Bool
was_granted NotPolled state = false
was_granted (Joined slot) state = is_granted slot state
was_granted Finished state = false

-- a request that joined has its slot: it waits, was granted, or was ended
abbrev pub IsOwn : Stage → ℕ → SemaphoreState → Type 0
IsOwn NotPolled size state = Unit {0}
IsOwn (Joined slot) size state =
    entry_named (is_slot slot) (asked state) ≡ Some (record { name = slot; size = size })
IsOwn Finished size state = Unit {0}

-- two requests don't have one slot
abbrev pub SlotsDiffer : Stage → Stage → Type 0
SlotsDiffer (Joined mine) (Joined other) = (mine == other) ≡ false
SlotsDiffer mine other = Unit {0}

abbrev pub finished : Request → Request
finished request = record request { stage = Finished }

abbrev pub permit_for : Request → Permit
permit_for request = new_permit request.of request.size

-- a first poll: it is served at once, or it joins under a slot that nobody has; on a closed semaphore it is finished
abbrev pub FirstPoll : Request → ℕ → SemaphoreState → Result (Poll Permit) PollError
    → Request → SemaphoreState → Type 0
FirstPoll request waker old (Ok (Ready permit)) request' new =
    (old.closed ≡ false)
    × IsTrue (is_served request.size old.line)
    × (permit ≡ permit_for request)
    × (new ≡ taken request.size old)
    × (request' ≡ finished request)
FirstPoll request waker old (Ok Pending) request' new =
    (old.closed ≡ false)
    × (is_served request.size old.line ≡ false)
    × ((slot : ℕ)
    × (entry_named (is_slot slot) (asked old) ≡ None)
    × (new ≡ joined slot request.size waker old)
    × (request' ≡ record request { stage = Joined slot }))
FirstPoll request waker old (Err errors.NoMemory) request' new =
    (old.closed ≡ false) × (is_served request.size old.line ≡ false) × (new ≡ old) × (request' ≡ request)
FirstPoll request waker old (Err errors.Closed) request' new =
    (old.closed ≡ true) × (new ≡ old) × (request' ≡ finished request)
FirstPoll request waker old (Err error) request' new = ⊥

-- a later poll: one that was ended hears of it and is finished, one that was granted takes its permits, and one that
-- waits leaves its new waker
abbrev pub LaterPoll : ℕ → Request → ℕ → SemaphoreState → Result (Poll Permit) PollError
    → Request → SemaphoreState → Type 0
LaterPoll slot request waker old (Ok (Ready permit)) request' new =
    (entry_named (is_slot slot) old.ended ≡ None)
    × (entry_named (is_slot slot) old.line.granted ≡ Some (record { name = slot; size = request.size }))
    × (permit ≡ permit_for request)
    × (new ≡ received slot request.size old)
    × (request' ≡ finished request)
LaterPoll slot request waker old (Ok Pending) request' new =
    (entry_named (is_slot slot) old.ended ≡ None)
    × (entry_named (is_slot slot) old.line.granted ≡ None)
    × (new ≡ with_waker slot waker old)
    × (request' ≡ request)
LaterPoll slot request waker old (Err errors.Closed) request' new =
    IsSome (entry_named (is_slot slot) old.ended) × (new ≡ told slot old) × (request' ≡ finished request)
LaterPoll slot request waker old (Err error) request' new = ⊥

-- a poll of one that is finished changes nothing
abbrev pub RefusedPoll : Request → SemaphoreState → Result (Poll Permit) PollError
    → Request → SemaphoreState → Type 0
RefusedPoll request old result request' new =
    (result ≡ Err errors.Finished) × (new ≡ old) × (request' ≡ request)

abbrev pub PollsAt : Stage → Request → ℕ → SemaphoreState → Result (Poll Permit) PollError
    → Request → SemaphoreState → Type 0
PollsAt NotPolled request waker old result request' new = FirstPoll request waker old result request' new
PollsAt (Joined slot) request waker old result request' new =
    LaterPoll slot request waker old result request' new
PollsAt Finished request waker old result request' new = RefusedPoll request old result request' new

abbrev pub Polls : Request → ℕ → SemaphoreState → Result (Poll Permit) PollError
    → Request → SemaphoreState → Type 0
Polls request waker old result request' new = PollsAt request.stage request waker old result request' new

-- what a cancel leaves: nothing changes where the request has no slot
abbrev pub cancelled : Stage → SemaphoreState → SemaphoreState
cancelled NotPolled old = old
cancelled (Joined slot) old = without_request slot old
cancelled Finished old = old
