-- A call of a cell: it asks for the cell's one permit, and polls the caller's state while it holds it.
use Rattle.std.specs.Prelude.{◌≡◌, ◌≢◌, ℕ, Bool, true, false, Option, Some, None, Result, Ok, Err}
use Rattle.band_base.specs.declared.poll.Poll.{Poll}
use Rattle.band_base.specs.declared.poll.Poll.TheVariants.{Ready, Pending}
use Rattle.band_base.specs.declared.poll.PollError.{PollError}
use Rattle.band_base.specs.declared.poll.PollError.TheVariants as errors
use Rattle.band_sem.specs.Permit.{Permit}
use Rattle.band_sem.specs.Request.{Request, new_request}
use Rattle.band_sem.specs.Request as stages
use Rattle.band_sem.specs.Semaphore.{SemaphoreState, IsLike, Polls, cancelled, given_back}
use Rattle.band_once.specs.declared.call.CallStage.{CallStage}
use Rattle.band_once.specs.declared.call.CallStage.TheVariants.{NotPolled, Waiting, Driving, Finished}
use Rattle.band_once.specs.declared.call.Asked.{Asked}
use Rattle.band_once.specs.declared.call.Asked.TheVariants.{NotNeeded, Waits, Holds}

-- what always holds of a call: its request is for one permit and goes on, and its token stands for one
abbrev pub IsForOne : {P : Type 0} → CallStage P → Type 0
IsForOne (NotPolled init) = Unit {0}
IsForOne (Waiting request init) = (request.size ≡ 1) × (request.stage ≢ stages.Finished)
IsForOne (Driving token init) = token.count ≡ 1
IsForOne Finished = Unit {0}

-- what polling its request makes of a call
abbrev pub Comes : {P : Type 0} → P → Result (Poll Permit) PollError → Request
    → Result (Asked P) PollError → CallStage P → Type 0
Comes init (Ok (Ready token)) request asked call = (asked ≡ Ok (Holds token init)) × (call ≡ Finished)
Comes init (Ok Pending) request asked call = (asked ≡ Ok Waits) × (call ≡ Waiting request init)
Comes init (Err error) request asked call = (asked ≡ Err error) × (call ≡ NotPolled init)

-- a call polls its request for the permit
abbrev pub Requests : {P : Type 0} → Request → P → ℕ → SemaphoreState
    → Result (Asked P) PollError → CallStage P → SemaphoreState → Type 0
Requests request init waker old asked call new =
    (answer : Result (Poll Permit) PollError) × (request' : Request)
    × Polls request waker old answer request' new
    × Comes init answer request' asked call

-- How a poll begins. Where the value is there at a first poll, nothing is asked for. A call that has no permit asks
-- for it, and one that has it goes on at once. Whoever holds it now has its stage taken out.
abbrev pub Asks : {P : Type 0} → Bool → ℕ → CallStage P → SemaphoreState
    → Result (Asked P) PollError → CallStage P → SemaphoreState → Type 0
Asks true waker (NotPolled init) old asked call new =
    (asked ≡ Ok (NotNeeded init)) × (call ≡ Finished) × (new ≡ old)
Asks false waker (NotPolled init) old asked call new =
    Requests (new_request old.number 1) init waker old asked call new
Asks is_there waker (Waiting request init) old asked call new =
    Requests request init waker old asked call new
Asks is_there waker (Driving token init) old asked call new =
    (asked ≡ Ok (Holds token init)) × (call ≡ Finished) × (new ≡ old)
Asks is_there waker Finished old asked call new =
    (asked ≡ Err errors.Finished) × (call ≡ Finished) × (new ≡ old)

-- what a `PollError` of a driven state is told as
abbrev pub told : PollError → PollError
told errors.NoMemory = errors.NoMemory
told error = errors.Driven

-- what a poll of the caller's state hands on: its value, or the answer of a call that goes on with the state as it is
abbrev pub Hands : {P V O : Type 0} → (V → Type 0) → (Result (Poll O) PollError → P → Type 0)
    → Result (Poll V) PollError → P → Type 0
Hands gives stays (Ok (Ready value)) next = gives value
Hands gives stays (Ok Pending) next = stays (Ok Pending) next
Hands gives stays (Err error) next = stays (Err (told error)) next

-- The caller's state is polled once with this waker, as `moves` tells. What it gave is handed on.
abbrev pub Drives : {P V O : Type 0} → (P → ℕ → Result (Poll V) PollError → P → Type 0) → P → ℕ
    → (V → Type 0) → (Result (Poll O) PollError → P → Type 0) → Type 0
Drives moves init waker gives stays =
    (given : Result (Poll _) PollError) × (next : _)
    × moves init waker given next
    × Hands gives stays given next

-- How a poll goes on once it has asked: without the permit it waits, or tells why it can't, and the cell stays.
abbrev pub GoesOn : {P O S : Type 0} → (P → O)
    → (Permit → P → S → Result (Poll O) PollError → CallStage P → S → Type 0)
    → Result (Asked P) PollError → CallStage P → S → Result (Poll O) PollError → CallStage P → S → Type 0
GoesOn over holds (Ok (NotNeeded init)) asking held result call new =
    (result ≡ Ok (Ready (over init))) × (call ≡ Finished) × (new ≡ held)
GoesOn over holds (Ok Waits) asking held result call new =
    (result ≡ Ok Pending) × (call ≡ asking) × (new ≡ held)
GoesOn over holds (Ok (Holds token init)) asking held result call new = holds token init held result call new
GoesOn over holds (Err error) asking held result call new =
    (result ≡ Err error) × (call ≡ asking) × (new ≡ held)

-- the call goes on with the permit and the state as it is, and the cell stays
abbrev pub KeepsOn : {P O S : Type 0} → Permit → S → Result (Poll O) PollError → CallStage P → S
    → Result (Poll O) PollError → P → Type 0
KeepsOn token held result call new answer next =
    (result ≡ answer) × (call ≡ Driving token next) × (new ≡ held)

-- what a cancel leaves of the permit: a request is ended, and a token goes back
abbrev pub Leaves : {P : Type 0} → CallStage P → SemaphoreState → SemaphoreState → Type 0
Leaves (NotPolled init) old new = new ≡ old
Leaves (Waiting request init) old new = IsLike (cancelled request.stage old) new
Leaves (Driving token init) old new = IsLike (given_back 1 old) new
Leaves Finished old new = new ≡ old

-- what it has from the caller
abbrev pub init_of : {P : Type 0} → CallStage P → Option P
init_of (NotPolled init) = Some init
init_of (Waiting request init) = Some init
init_of (Driving token init) = Some init
init_of Finished = None
