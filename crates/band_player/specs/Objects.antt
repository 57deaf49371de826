-- What the player has at a place, and what its tokens are: each with the kind of its object, or with the mode
-- of what it asks for.
use Rattle.std.specs.Prelude.{◌≡◌, ℕ, Bool, List, Option}
use Rattle.band_balance.specs.Line.{Entry, Line}
use Rattle.band_balance.specs.Object.{Kind, Semaphore, Mutex, ReaderWriter, Mode}
use Rattle.band_base.specs.declared.waker.Waker.{Waker}
use Rattle.band_sem.specs.Semaphore.{SemaphoreState, IsLike, IsLawful, TakesWake, asked}
use Rattle.band_sem.specs.Permit.{Permit as Held}
use Rattle.band_sem.specs.Request.{Request as Asked}
use Rattle.band_sem.specs.Request.{Stage}
use Rattle.band_sem.specs.Whole.{IsWhole}
use Rattle.band_lock.specs.ReaderWriter.{IsWholeLock}
use Rattle.band_player.specs.declared.object.Primitive.{Primitive}
use Rattle.band_player.specs.declared.object.Primitive.TheVariants as objects

-- its kind, its number, its line by slots, how much of it is held, how many debts are not paid yet, whether it is closed,
-- and who was ended and has not polled since
pub record ObjectState : Type 0 where
  pub kind : Kind
  pub number : ℕ
  pub line : Line ℕ
  pub held : ℕ
  pub debts : ℕ
  pub closed : Bool
  pub ended : List (Entry ℕ)

-- an object of a kind with the figures of a semaphore
abbrev pub of_kind : Kind → SemaphoreState → ObjectState
of_kind kind sem = record {
  kind = kind;
  number = sem.number;
  line = sem.line;
  held = sem.held;
  debts = sem.debts;
  closed = sem.closed;
  ended = sem.ended;
}

abbrev pub state_of : Primitive → ObjectState
state_of (objects.Semaphore sem) = of_kind Semaphore sem
state_of (objects.Mutex mutex) = of_kind Mutex mutex
state_of (objects.ReaderWriter lock) = of_kind (ReaderWriter lock.max) lock.shares

-- the figures alone
abbrev pub shares_of : ObjectState → SemaphoreState
shares_of object = record {
  number = object.number;
  line = object.line;
  held = object.held;
  debts = object.debts;
  closed = object.closed;
  ended = object.ended;
}

-- who has a slot of it
abbrev pub asked_in : ObjectState → List (Entry ℕ)
asked_in object = asked (shares_of object)

-- what a semaphore would become, with the kind that it has
abbrev pub on_semaphore : (SemaphoreState → SemaphoreState) → ObjectState → ObjectState
on_semaphore change object = of_kind object.kind (change (shares_of object))

-- two of a kind that differ at most in the order of those granted and of those ended
pub record IsLikeObject (one other : ObjectState) : Type 0 where
  pub kind : other.kind ≡ one.kind
  pub shares : IsLike (shares_of one) (shares_of other)

-- the oldest waker to wake of its line, if there is one, is taken
pub record TakesWakeOf (old : ObjectState) (result : Option Waker) (new : ObjectState) : Type 0 where
  pub woken : TakesWake (shares_of old) result (shares_of new)
  pub kind : new.kind ≡ old.kind

-- a request with its mode
pub record RequestState : Type 0 where
  pub mode : Mode
  pub of : ℕ
  pub size : ℕ
  pub stage : Stage

abbrev pub in_mode : Mode → Asked → RequestState
in_mode mode request = record { mode = mode; of = request.of; size = request.size; stage = request.stage }

abbrev pub asked_of : RequestState → Asked
asked_of request = record { of = request.of; size = request.size; stage = request.stage }

-- what is held, with its mode
pub record HoldingState : Type 0 where
  pub mode : Mode
  pub of : ℕ
  pub count : ℕ

abbrev pub held_in : Mode → Held → HoldingState
held_in mode permit = record { mode = mode; of = permit.of; count = permit.count }

abbrev pub permit_in : HoldingState → Held
permit_in holding = record { of = holding.of; count = holding.count }

-- a lock stays a lock
abbrev pub IsLockOf : Kind → SemaphoreState → Type 0
IsLockOf Semaphore sem = Unit {0}
IsLockOf Mutex sem = IsWhole 1 sem
IsLockOf (ReaderWriter max) sem = IsWholeLock (record { max = max; shares = sem })

-- what holds of an object between any two calls
abbrev pub IsSteady : ObjectState → Type 0
IsSteady object = IsLawful (shares_of object) × IsLockOf object.kind (shares_of object)
