-- A lazy cell: a value or none, the one attempt at it, and the permit of its calls.
use Rattle.std.specs.Prelude.{◌≡◌, ◌≢◌, ◌⊎◌, ℕ, Bool, true, false, MatchBool, Option, Some, None, is_some, Result, Ok, Err}
use Rattle.band_base.specs.declared.poll.Poll.{Poll}
use Rattle.band_base.specs.declared.poll.Poll.TheVariants.{Ready, Pending}
use Rattle.band_base.specs.declared.poll.PollError.{PollError}
use Rattle.band_base.specs.declared.poll.PollError.TheVariants as errors
use Rattle.band_sem.specs.Permit.{Permit}
use Rattle.band_sem.specs.Semaphore.{SemaphoreState, IsLike, new_state, given_back}
use Rattle.band_once.specs.declared.attempt.Attempt.{Attempt}
use Rattle.band_once.specs.declared.attempt.Attempt.TheVariants.{NotMade, Running, Done}
use Rattle.band_once.specs.declared.call.CallStage.{CallStage}
use Rattle.band_once.specs.declared.call.CallStage.TheVariants.{Driving, Finished}
use Rattle.band_once.specs.declared.call.Asked.{Asked}
use Rattle.band_once.specs.Calls.{Asks, GoesOn, Drives}

pub record LazyState (T P F : Type 0) : Type 0 where
  pub value : Option T
  pub attempt : Attempt F P
  pub permit : SemaphoreState

-- one with this value or attempt, whose permit nobody has
abbrev pub new_lazy : {T P F : Type 0} → Option T → Attempt F P → ℕ → LazyState T P F
new_lazy value attempt number = record { value = value; attempt = attempt; permit = new_state number 1 }

-- what makes the attempt may be called, where it was not made
abbrev pub MayStart : {P F : Type 0} → (F → Type 0) → Attempt F P → Type 0
MayStart pre (NotMade make) = pre make
MayStart pre (Running init) = Unit {0}
MayStart pre Done = Unit {0}

-- where no value is there the attempt isn't done
abbrev pub IsSound : {T P F : Type 0} → Option T → Attempt F P → Type 0
IsSound None attempt = attempt ≢ Done
IsSound (Some value) attempt = Unit {0}

-- the state that is polled: the one that is stored, or, where none was made, one that is made now
abbrev pub Starts : {P F : Type 0} → (F → P → Type 0) → Attempt F P → P → Type 0
Starts post (NotMade make) init = post make init
Starts post (Running stored) init = init ≡ stored
Starts post Done init = ⊥

module _ {T P F : Type 0} (post : F → P → Type 0) (moves : P → ℕ → Result (Poll T) PollError → P → Type 0)
    (waker : ℕ) where
  -- The attempt is polled. Its value is published, and every other answer leaves it stored.
  abbrev pub Attempts : LazyState T P F → Result (Poll Unit) PollError → LazyState T P F → Type 0
  Attempts old result new =
      (init : P) × Starts post old.attempt init
      × Drives moves init waker
      (λ value. (result ≡ Ok (Ready tt)) × (new ≡ record old { value = Some value; attempt = Done }))
      (λ answer next. (result ≡ answer) × (new ≡ record old { attempt = Running next }))

  -- a call that holds the permit is over with the value, gives the permit back then, and keeps it else
  abbrev pub Settles : Permit → LazyState T P F → Result (Poll Unit) PollError → CallStage Unit
      → LazyState T P F → Type 0
  Settles token held (Ok (Ready output)) call new =
      (call ≡ Finished) × (new.value ≡ held.value) × (new.attempt ≡ held.attempt)
      × IsLike (given_back 1 held.permit) new.permit
  Settles token held (Ok Pending) call new = (call ≡ Driving token tt) × (new ≡ held)
  Settles token held (Err error) call new = (call ≡ Driving token tt) × (new ≡ held)

  -- with the permit it is over where the value is there, and else the attempt is polled
  abbrev pub HoldsLazy : Permit → Unit {0} → LazyState T P F → Result (Poll Unit) PollError → CallStage Unit
      → LazyState T P F → Type 0
  HoldsLazy token init held result call new =
      MatchBool (is_some held.value)
      ((result ≡ Ok (Ready tt)) × Settles token held result call new)
      ((attempted : LazyState T P F) × Attempts held result attempted × Settles token attempted result call new)

  -- one poll of a call
  abbrev pub PollsLazy : CallStage Unit → LazyState T P F → Result (Poll Unit) PollError → CallStage Unit
      → LazyState T P F → Type 0
  PollsLazy call old result call' new =
      (asked : Result (Asked Unit) PollError) × (asking : CallStage Unit) × (held : SemaphoreState)
      × Asks (is_some old.value) waker call old.permit asked asking held
      × GoesOn (λ init. tt) HoldsLazy asked asking (record old { permit = held }) result call' new

  -- whether a call is over after this answer
  abbrev pub EndsBy : Result (Poll Unit) PollError → Bool → Type 0
  EndsBy (Ok (Ready output)) is_over = is_over ≡ true
  EndsBy (Ok Pending) is_over = is_over ≡ false
  EndsBy (Err error) is_over = is_over ≡ false

  -- One poll of a call that needs no permit, since nobody else has the cell, and that is over or not.
  abbrev pub PollsLazyMut : Bool → LazyState T P F → Result (Poll Unit) PollError → Bool
      → LazyState T P F → Type 0
  PollsLazyMut true old result is_over new = (result ≡ Err errors.Finished) × (is_over ≡ true) × (new ≡ old)
  PollsLazyMut false old result is_over new =
      MatchBool (is_some old.value)
      ((result ≡ Ok (Ready tt)) × (is_over ≡ true) × (new ≡ old))
      (Attempts old result new × EndsBy result is_over)

-- what a poll makes of an attempt that was made: it is left alone, or polled once, and is what that left of it, or done
abbrev pub IsDriven : {T P F : Type 0} → (P → ℕ → Result (Poll T) PollError → P → Type 0) → ℕ → P → Attempt F P → Type 0
IsDriven moves waker stored new =
    (new ≡ Running stored)
    ⊎ ((given : Result (Poll _) PollError) × (left : _)
    × moves stored waker given left
    × ((new ≡ Running left) ⊎ (new ≡ Done)))
