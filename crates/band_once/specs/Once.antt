-- A once: a countdown of 1 whose waits wait for its completion, and the permit of its calls.
use Rattle.std.specs.Prelude.{◌≡◌, ℕ, List, [], ◌∷◌, Bool, MatchBool, Option, Result, Ok}
use Rattle.band_base.specs.declared.poll.Poll.{Poll}
use Rattle.band_base.specs.declared.poll.Poll.TheVariants.{Ready}
use Rattle.band_base.specs.declared.poll.PollError.{PollError}
use Rattle.band_base.specs.declared.waker.Waker.{Waker}
use Rattle.band_sem.specs.Permit.{Permit}
use Rattle.band_sem.specs.Semaphore.{SemaphoreState, IsLike, new_state, given_back}
use Rattle.band_sem.specs.Semaphore as sem
use Rattle.band_signal.specs.Countdown.{Countdown, new_countdown, is_at_zero, arrived}
use Rattle.band_signal.specs.Waits as waits
use Rattle.band_once.specs.declared.call.CallStage.{CallStage}
use Rattle.band_once.specs.declared.call.CallStage.TheVariants.{Finished}
use Rattle.band_once.specs.declared.call.Asked.{Asked}
use Rattle.band_once.specs.Calls.{Asks, GoesOn, Drives, KeepsOn}

pub record OnceState : Type 0 where
  pub done : Countdown
  pub permit : SemaphoreState

-- one that was not completed, and whose permit nobody has
abbrev pub new_once : ℕ → OnceState
new_once number = record { done = new_countdown 1; permit = new_state number 1 }

abbrev pub is_completed : OnceState → Bool
is_completed once = is_at_zero once.done

-- the permit goes back, and nothing else changes
abbrev pub Passes : OnceState → OnceState → Type 0
Passes held new = (new.done ≡ held.done) × IsLike (given_back 1 held.permit) new.permit

-- it is completed: all its waits are woken, and the permit goes back
abbrev pub Completes : OnceState → OnceState → Type 0
Completes held new = (new.done ≡ arrived 1 held.done) × IsLike (given_back 1 held.permit) new.permit

module _ {P : Type 0} (moves : P → ℕ → Result (Poll Unit) PollError → P → Type 0) (waker : ℕ) where
  -- a call that holds the permit: of a completed once it is over, and else its state is polled
  abbrev pub HoldsOnce : Permit → P → OnceState → Result (Poll Unit) PollError → CallStage P → OnceState → Type 0
  HoldsOnce token init held result call new =
      MatchBool (is_completed held)
      ((result ≡ Ok (Ready tt)) × (call ≡ Finished) × Passes held new)
      (Drives moves init waker
      (λ value. (result ≡ Ok (Ready tt)) × (call ≡ Finished) × Completes held new)
      (KeepsOn token held result call new))

  -- one poll of a call
  abbrev pub PollsOnce : CallStage P → OnceState → Result (Poll Unit) PollError → CallStage P → OnceState → Type 0
  PollsOnce call old result call' new =
      (asked : Result (Asked P) PollError) × (asking : CallStage P) × (held : SemaphoreState)
      × Asks (is_completed old) waker call old.permit asked asking held
      × GoesOn (λ init. tt) HoldsOnce asked asking (record old { permit = held }) result call' new

-- the oldest waker of the waits is taken, or else of the permit
abbrev pub TakesFirstWake : List ℕ → OnceState → Option Waker → OnceState → Type 0
TakesFirstWake (oldest ∷ rest) old result new =
    waits.TakesWake old.done.waits result new.done.waits
    × (new ≡ record old { done = record old.done { waits = new.done.waits } })
TakesFirstWake [] old result new =
    sem.TakesWake old.permit result new.permit × (new ≡ record old { permit = new.permit })
