-- The waits for a condition variable: what their polls and their cancel make of it and of its mutex.
use Rattle.std.specs.Prelude.{◌≡◌, ℕ, ◌+◌, ◌*◌, ◌≤◌, List, [], ◌&&◌, Bool, true, false, not, if◌then◌else◌, IsTrue, Option, Some, None, IsSome, Result, Ok, Err}
use Rattle.std.specs.Borrow.{MutBor}
use Rattle.std.specs.Option.{option_map_or}
use Rattle.std.specs.Fn.{Mut, Takes, CalledAtMut}
use Rattle.band_balance.specs.Line.{is_served, entry_named}
use Rattle.band_base.specs.declared.poll.Poll.{Poll}
use Rattle.band_base.specs.declared.poll.Poll.TheVariants.{Ready, Pending}
use Rattle.band_base.specs.declared.poll.PollError.{PollError}
use Rattle.band_base.specs.declared.poll.PollError.TheVariants as errors
use Rattle.band_base.specs.declared.waker.Waker.{Waker}
use Rattle.band_line.specs.Arena.{next_slot}
use Rattle.band_line.specs.WaitList.{first_waiter}
use Rattle.band_line.specs.Visits.{Visits}
use Rattle.band_sem.specs.Laws as sem_laws
use Rattle.band_sem.specs.Permit.{Permit, new_permit}
use Rattle.band_sem.specs.Request.{Joined}
use Rattle.band_sem.specs.Semaphore as sem
use Rattle.band_sem.specs.Semaphore.{SemaphoreState, IsLike, IsOwn, is_slot, is_granted, asked, taken, given_back, received, without_request}
use Rattle.band_sem.specs.Visits.{served}
use Rattle.band_condvar.specs.declared.place.Place.{Place}
use Rattle.band_condvar.specs.declared.place.Place.TheVariants.{Queued, Chosen, Released}
use Rattle.band_condvar.specs.Condvar.{CondvarState, is_queued, is_chosen, wakers_of, one_notified, joined, with_waker, gone, without, with_room, StaysAt}
use Rattle.band_signal.specs.Waits as waits
use Rattle.band_signal.specs.Waits.{Life, IsOther}
use Rattle.band_signal.specs.WaitQueue as queue
use Rattle.band_signal.specs.WaitQueue.{place_at, HasNoRoom, with_wake_room}

-- a condition variable with its mutex
pub record Monitor : Type 0 where
  pub condvar : CondvarState
  pub mutex : SemaphoreState

abbrev pub monitor : CondvarState → SemaphoreState → Monitor
monitor condvar mutex = record { condvar = condvar; mutex = mutex }

-- what a wait has come to
pub data Stage : Type 0 where
  -- it has the guard that it was made with
  Enqueue : (guard : Permit) → Stage
  -- it is in the condition variable under this slot: queued, chosen or released
  Registered : (slot : ℕ) → Stage
  -- it left the condition variable, with the baton of `notify_one` or without, and asks for the mutex under this slot of
  -- the mutex's line
  Reacquiring : (baton : Bool) → (slot : ℕ) → Stage
  Finished : Stage

-- the number of its mutex, and what it has come to
pub record Wait : Type 0 where
  pub of : ℕ
  pub stage : Stage

-- what a wait has is counted: its guard is held, its registration is in the condition variable, its request has its slot
-- in the mutex
abbrev pub IsHere : Stage → CondvarState → SemaphoreState → Type 0
IsHere (Enqueue guard) condvar mutex = guard.count ≤ mutex.held
IsHere (Registered slot) condvar mutex = IsSome (place_at slot condvar)
IsHere (Reacquiring baton slot) condvar mutex = IsOwn (Joined slot) 1 mutex
IsHere Finished condvar mutex = Unit {0}

-- a wait that is registered is in the condition variable
abbrev pub IsRegistered : Stage → CondvarState → Type 0
IsRegistered (Registered slot) condvar = IsSome (place_at slot condvar)
IsRegistered (Enqueue guard) condvar = Unit {0}
IsRegistered (Reacquiring baton slot) condvar = Unit {0}
IsRegistered Finished condvar = Unit {0}

-- only for how many more wakes there is room is new
abbrev pub with_wakes_of : Monitor → Monitor → Monitor
with_wakes_of new old = record old { condvar = with_wake_room new.condvar.room old.condvar }

-- a wait is registered in the next slot and gives its guard back, or there was no memory, which it needs only where there
-- was no room
abbrev pub Registers : Permit → Waker → Monitor → Result (Poll Permit) PollError → Stage → Monitor → Type 0
Registers guard waker old (Ok Pending) stage new =
    (stage ≡ Registered (next_slot old.condvar.line.nodes))
    × (place_at (next_slot old.condvar.line.nodes) old.condvar ≡ None)
    × (new.condvar ≡ joined waker new.condvar.line.nodes.spare new.condvar.room old.condvar)
    × IsLike (given_back 1 old.mutex) new.mutex
Registers guard waker old (Ok (Ready given)) stage new = ⊥
Registers guard waker old (Err errors.NoMemory) stage new =
    HasNoRoom old.condvar × (stage ≡ Enqueue guard) × (new ≡ with_wakes_of new old)
Registers guard waker old (Err error) stage new = ⊥

-- one that was called asks for the mutex and leaves, or there was no memory to ask
abbrev pub Leaves :
    Bool → ℕ → ℕ → Waker → Monitor → Result (Poll Permit) PollError → Stage → Monitor → Type 0
Leaves baton slot of waker old (Ok (Ready guard)) stage new =
    IsTrue (is_served 1 old.mutex.line)
    × (guard ≡ new_permit of 1)
    × (stage ≡ Finished)
    × (new ≡ monitor (gone slot old.condvar) (taken 1 old.mutex))
Leaves baton slot of waker old (Ok Pending) stage new =
    (is_served 1 old.mutex.line ≡ false)
    × ((place : ℕ)
    × (entry_named (is_slot place) (asked old.mutex) ≡ None)
    × (stage ≡ Reacquiring baton place)
    × (new ≡ monitor (gone slot old.condvar) (sem.joined place 1 waker.0 old.mutex)))
Leaves baton slot of waker old (Err errors.NoMemory) stage new =
    (is_served 1 old.mutex.line ≡ false) × (stage ≡ Registered slot) × (new ≡ old)
Leaves baton slot of waker old (Err error) stage new = ⊥

-- by its place: one that is queued leaves its new waker
abbrev pub PollsPlace :
    Option Place → ℕ → ℕ → Waker → Monitor → Result (Poll Permit) PollError → Stage → Monitor → Type 0
PollsPlace (Some (Queued before)) slot of waker old result stage new =
    (result ≡ Ok Pending)
    × (stage ≡ Registered slot)
    × (new ≡ monitor (with_waker slot waker old.condvar) old.mutex)
PollsPlace (Some Chosen) slot of waker old result stage new =
    Leaves true slot of waker old result stage new
PollsPlace (Some Released) slot of waker old result stage new =
    Leaves false slot of waker old result stage new
PollsPlace None slot of waker old result stage new = ⊥

-- one that asks for the mutex has it, or leaves its new waker there
abbrev pub Reacquires :
    Bool → ℕ → ℕ → Waker → Monitor → Result (Poll Permit) PollError → Stage → Monitor → Type 0
Reacquires baton slot of waker old (Ok (Ready guard)) stage new =
    (entry_named (is_slot slot) old.mutex.line.granted ≡ Some (record { name = slot; size = 1 }))
    × (guard ≡ new_permit of 1)
    × (stage ≡ Finished)
    × (new ≡ monitor old.condvar (received slot 1 old.mutex))
Reacquires baton slot of waker old (Ok Pending) stage new =
    (entry_named (is_slot slot) old.mutex.line.granted ≡ None)
    × (stage ≡ Reacquiring baton slot)
    × (new ≡ monitor old.condvar (sem.with_waker slot waker.0 old.mutex))
Reacquires baton slot of waker old (Err error) stage new = ⊥

-- a poll of a wait
abbrev pub PollsAt :
    Stage → ℕ → Waker → Monitor → Result (Poll Permit) PollError → Stage → Monitor → Type 0
PollsAt (Enqueue guard) of waker old result stage new = Registers guard waker old result stage new
PollsAt (Registered slot) of waker old result stage new =
    PollsPlace (place_at slot old.condvar) slot of waker old result stage new
PollsAt (Reacquiring baton slot) of waker old result stage new =
    Reacquires baton slot of waker old result stage new
PollsAt Finished of waker old result stage new =
    (result ≡ Err errors.Finished) × (stage ≡ Finished) × (new ≡ old)

-- a guard that is given is of this mutex, and held there
abbrev pub GivesGuard : Result (Poll Permit) PollError → SemaphoreState → Type 0
GivesGuard (Ok (Ready guard)) mutex = (guard.of ≡ mutex.number) × (guard.count ≤ mutex.held)
GivesGuard (Ok Pending) mutex = Unit {0}
GivesGuard (Err error) mutex = Unit {0}

-- a wait has the guard that it was made with
abbrev pub has_guard : Stage → Bool
has_guard (Enqueue guard) = true
has_guard (Registered slot) = false
has_guard (Reacquiring baton slot) = false
has_guard Finished = false

-- what a cancel leaves of the condition variable: the wait is gone, and one that had the baton hands it on to the first
-- that is in line then
abbrev pub uncalled : Stage → CondvarState → CondvarState
uncalled (Registered slot) old = without slot old
uncalled (Enqueue guard) old = old
uncalled (Reacquiring baton slot) old = old
uncalled Finished old = old

abbrev pub has_baton : Stage → CondvarState → Bool
has_baton (Registered slot) old = is_chosen (place_at slot old)
has_baton (Reacquiring baton slot) old = baton
has_baton (Enqueue guard) old = false
has_baton Finished old = false

abbrev pub cancelled : Stage → CondvarState → CondvarState
cancelled stage old = if has_baton stage old then one_notified (uncalled stage old) else uncalled stage old

-- and of the mutex: a guard and a lock request that it has end
abbrev pub LetsGo : Stage → SemaphoreState → SemaphoreState → Type 0
LetsGo (Enqueue guard) old new = IsLike (given_back 1 old) new
LetsGo (Registered slot) old new = new ≡ old
LetsGo (Reacquiring baton slot) old new = IsLike (without_request slot old) new
LetsGo Finished old new = new ≡ old

-- whom a cancel wakes: the first that is in line once the wait is gone, where it had the baton
abbrev pub first_waker : CondvarState → List ℕ
first_waker condvar = option_map_or (λ slot. wakers_of (place_at slot condvar)) (first_waiter condvar.line) []

abbrev pub woken_by : Stage → CondvarState → List ℕ
woken_by stage old = if has_baton stage old then first_waker (uncalled stage old) else []

-- a request for the mutex that ends changes for the others there what it leaves to them
abbrev pub LeavesMutex : Stage → SemaphoreState → SemaphoreState → Type 0
LeavesMutex (Reacquiring baton slot) old new = sem_laws.LeavesOthers slot old new
LeavesMutex (Enqueue guard) old new = Unit {0}
LeavesMutex (Registered slot) old new = Unit {0}
LeavesMutex Finished old new = Unit {0}

-- what a wait has come to in the condition variable
abbrev pub life_of : Stage → Life
life_of (Enqueue guard) = waits.NotPolled
life_of (Registered slot) = waits.Registered slot
life_of (Reacquiring baton slot) = waits.Finished
life_of Finished = waits.Finished

-- each wait but this one is where it was
abbrev pub LeavesOthers : Stage → CondvarState → CondvarState → Type 0
LeavesOthers stage old new = queue.LeavesOthers (life_of stage) old new

-- each wait but this one is there still, and who was called is where it was
abbrev pub OthersStay : Stage → CondvarState → CondvarState → Type 0
OthersStay stage old new =
    (other : ℕ) → IsOther other (life_of stage) → IsSome (place_at other old) → StaysAt other old new

-- a poll of a wait, which stays one for the same mutex
abbrev pub Polls : Wait → Waker → Monitor → Result (Poll Permit) PollError → Wait → Monitor → Type 0
Polls wait waker old result next new =
    PollsAt wait.stage wait.of waker old result next.stage new × (next.of ≡ wait.of)

-- How many waits a poll visits, of the condition variable and of the mutex. Eight of the mutex are counted for each
-- that an unlock serves, and eight more.
abbrev pub unlock_visits : SemaphoreState → SemaphoreState → ℕ
unlock_visits old new = 8 * (served old new + 1)

abbrev pub PollVisits : Stage → SemaphoreState → SemaphoreState → ℕ → ℕ → Type 0
PollVisits (Enqueue guard) old new before after = Visits 0 (unlock_visits old new + 2) before after
PollVisits (Registered slot) old new before after = Visits 1 4 before after
PollVisits (Reacquiring baton slot) old new before after = Visits 1 2 before after
PollVisits Finished old new before after = after ≡ before

-- a cancel
abbrev pub CancelVisits : Stage → SemaphoreState → SemaphoreState → ℕ → ℕ → Type 0
CancelVisits (Enqueue guard) old new before after = Visits 0 (unlock_visits old new) before after
CancelVisits (Registered slot) old new before after = Visits 2 6 before after
CancelVisits (Reacquiring baton slot) old new before after =
    Visits 0 (unlock_visits old new + 3) before after
CancelVisits Finished old new before after = after ≡ before

-- a poll that may come to ask a condition, and to wait again
abbrev pub WhileVisits : SemaphoreState → SemaphoreState → ℕ → ℕ → Type 0
WhileVisits old new before after = Visits 0 (unlock_visits old new + 7) before after

-- what contracts see of a wait that has a condition
pub record WaitWhile (F : Type 0) : Type 0 where
  pub condition : F
  pub wait : Wait

-- one that was called and finds the mutex free has it at once
abbrev pub is_free_for : ℕ → Monitor → Bool
is_free_for slot old = not (is_queued (place_at slot old.condvar)) && is_served 1 old.mutex.line

-- whose turn it is: a poll makes room to wait again, and where it finds memory it has the guard and asks the condition
abbrev pub has_turn : Stage → Monitor → Bool
has_turn (Enqueue guard) old = true
has_turn (Registered slot) old = is_free_for slot old
has_turn (Reacquiring baton slot) old = is_granted slot old.mutex
has_turn Finished old = false

-- one that was called joins the mutex's line, unless it is free
abbrev pub JoinsMutex : Stage → Monitor → Type 0
JoinsMutex (Registered slot) old =
    (is_queued (place_at slot old.condvar) ≡ false) × (is_served 1 old.mutex.line ≡ false)
JoinsMutex (Enqueue guard) old = ⊥
JoinsMutex (Reacquiring baton slot) old = ⊥
JoinsMutex Finished old = ⊥

-- to have the guard: one that has it is finished, and each other is polled
abbrev pub Acquires :
    Stage → ℕ → Waker → Monitor → Result (Poll Permit) PollError → Stage → Monitor → Type 0
Acquires (Enqueue guard) of waker old result stage new =
    (result ≡ Ok (Ready guard)) × (stage ≡ Finished) × (new ≡ old)
Acquires (Registered slot) of waker old result stage new =
    PollsAt (Registered slot) of waker old result stage new
Acquires (Reacquiring baton slot) of waker old result stage new =
    PollsAt (Reacquiring baton slot) of waker old result stage new
Acquires Finished of waker old result stage new = PollsAt Finished of waker old result stage new

-- a condition with the value that it is asked about
pub record Test (F T : Type 0) : Type 0 where
  pub condition : F
  pub value : T

abbrev pub test : {F T : Type 0} → F → T → Test F T
test condition value = record { condition = condition; value = value }

-- nothing but how much room there is
abbrev pub IsRoomier : Monitor → Monitor → Type 0
IsRoomier old new =
    (new.condvar ≡ with_room new.condvar.line.nodes.spare new.condvar.room old.condvar) × (new.mutex ≡ old.mutex)

-- the condition may be asked about this value
abbrev pub TakesAtMut :
    {F T : Type 0} → Mut F (MutBor T × Unit {0}) (Bool × (MutBor T × Unit {0})) → F → T → Type 0
TakesAtMut {F} {T} g condition value = (lent : MutBor T) → lent.now ≡ value → Takes g condition (lent, tt)

module _ {F T : Type 0} (g : Mut F (MutBor T × Unit {0}) (Bool × (MutBor T × Unit {0}))) where
  -- asked about the value, the condition may answer this, and leave itself and the value so
  abbrev pub Answers : Test F T → Bool → Test F T → Type 0
  Answers old answer new = CalledAtMut g old.condition old.value answer new.condition new.value

  -- one that has the guard asks the condition: the guard is given where that is false, and else the wait is registered
  abbrev pub Asks : Permit → Waker → Test F T → Monitor → Result (Poll Permit) PollError
      → Test F T → Stage → Monitor → Type 0
  Asks guard waker before old (Ok (Ready given)) after stage new =
      Answers before false after × (given ≡ guard) × (stage ≡ Finished) × IsRoomier old new
  Asks guard waker before old (Ok Pending) after stage new =
      Answers before true after × Registers guard waker old (Ok Pending) stage new
  Asks guard waker before old (Err error) after stage new = ⊥

  -- A poll in its turn: it has the guard and asks the condition. Where there was no memory to wait again, which it needs
  -- only where there was no room, the condition was not asked.
  abbrev pub AsksInTurn : Stage → ℕ → Waker → Test F T → Monitor → Result (Poll Permit) PollError
      → Test F T → Stage → Monitor → Type 0
  AsksInTurn stage of waker before old (Ok (Ready guard)) after next new =
      (held : Monitor)
      × Acquires stage of waker old (Ok (Ready guard)) Finished held
      × Asks guard waker before held (Ok (Ready guard)) after next new
  AsksInTurn stage of waker before old (Ok Pending) after next new =
      (guard : Permit)
      × (held : Monitor)
      × Acquires stage of waker old (Ok (Ready guard)) Finished held
      × Asks guard waker before held (Ok Pending) after next new
  AsksInTurn stage of waker before old (Err errors.NoMemory) after next new =
      HasNoRoom old.condvar × (after ≡ before) × (next ≡ stage) × (new ≡ with_wakes_of new old)
  AsksInTurn stage of waker before old (Err error) after next new = ⊥

  -- by whose turn it is: each other is polled as a wait, which asks for no room but in the mutex's line
  abbrev pub PollsWhileIf : Bool → Stage → ℕ → Waker → Test F T → Monitor
      → Result (Poll Permit) PollError → Test F T → Stage → Monitor → Type 0
  PollsWhileIf true stage of waker before old result after next new =
      AsksInTurn stage of waker before old result after next new
  PollsWhileIf false stage of waker before old result after next new =
      PollsAt stage of waker old result next new × (after ≡ before)

  -- a poll of `wait_while`
  abbrev pub PollsWhile : Wait → Waker → Test F T → Monitor → Result (Poll Permit) PollError
      → Test F T → Wait → Monitor → Type 0
  PollsWhile wait waker before old result after next new =
      PollsWhileIf (has_turn wait.stage old) wait.stage wait.of waker before old result after next.stage new
      × (next.of ≡ wait.of)
