-- A cell: a value or none, and the permit of its calls.
use Rattle.std.specs.Prelude.{◌≡◌, ℕ, MatchBool, Option, Some, None, is_some, Result, Ok, Err}
use Rattle.band_base.specs.declared.poll.Poll.{Poll}
use Rattle.band_base.specs.declared.poll.Poll.TheVariants.{Ready}
use Rattle.band_base.specs.declared.poll.PollError.{PollError}
use Rattle.band_base.specs.declared.poll.PollError.TheVariants as errors
use Rattle.band_sem.specs.Permit.{Permit}
use Rattle.band_sem.specs.Semaphore.{SemaphoreState, IsLike, new_state, given_back}
use Rattle.band_once.specs.declared.call.CallStage.{CallStage}
use Rattle.band_once.specs.declared.call.CallStage.TheVariants.{Finished}
use Rattle.band_once.specs.declared.call.Asked.{Asked}
use Rattle.band_once.specs.Calls.{Asks, GoesOn, Drives, KeepsOn}

pub record CellState (T : Type 0) : Type 0 where
  pub value : Option T
  pub permit : SemaphoreState

-- one with this value, or none, whose permit nobody has
abbrev pub new_cell : {T : Type 0} → Option T → ℕ → CellState T
new_cell value number = record { value = value; permit = new_state number 1 }

-- a clone of a value, or none of none
abbrev pub IsCloned : {T : Type 0} → (T → T → Type 0) → Option T → Option T → Type 0
IsCloned is_clone None None = Unit {0}
IsCloned is_clone (Some value) (Some copy) = is_clone value copy
IsCloned is_clone value copy = ⊥

-- what an initializer's output leaves as the cell's value, and what its call answers
pub record Outcome (T O : Type 0) : Type 0 where
  pub value : Option T
  pub answer : O

-- a value is published
abbrev pub published : {T : Type 0} → T → Outcome T Unit
published value = record { value = Some value; answer = tt }

-- a value is published, and an error leaves the cell empty
abbrev pub attempted : {T E : Type 0} → Result T E → Outcome T (Result Unit E)
attempted (Ok value) = record { value = Some value; answer = Ok tt }
attempted (Err error) = record { value = None; answer = Err error }

-- a call is over with this answer: the cell's value is this from now on, and the permit goes back
abbrev pub Ends : {T P O : Type 0} → Option T → O → CellState T
    → Result (Poll O) PollError → CallStage P → CellState T → Type 0
Ends value answer held result call new =
    (result ≡ Ok (Ready answer)) × (call ≡ Finished)
    × (new.value ≡ value) × IsLike (given_back 1 held.permit) new.permit

-- A call whose initializer has outputs V. What it answers where the value is there, and what it makes of an output.
module _ {T P V O : Type 0} (there : O) (made : V → Outcome T O)
    (moves : P → ℕ → Result (Poll V) PollError → P → Type 0) (waker : ℕ) where
  -- with the permit it is over where the value is there, and else its initializer is polled
  abbrev pub HoldsCell : Permit → P → CellState T → Result (Poll O) PollError → CallStage P → CellState T → Type 0
  HoldsCell token init held result call new =
      MatchBool (is_some held.value)
      (Ends held.value there held result call new)
      (Drives moves init waker
      (λ output. Ends (made output).value (made output).answer held result call new)
      (KeepsOn token held result call new))

  -- one poll of a call
  abbrev pub PollsCell : CallStage P → CellState T → Result (Poll O) PollError → CallStage P → CellState T → Type 0
  PollsCell call old result call' new =
      (asked : Result (Asked P) PollError) × (asking : CallStage P) × (held : SemaphoreState)
      × Asks (is_some old.value) waker call old.permit asked asking held
      × GoesOn (λ init. there) HoldsCell asked asking (record old { permit = held }) result call' new

  -- One poll of a call that needs no permit, since nobody else has the cell. Its initializer is there until it is over.
  abbrev pub PollsMut : Option P → CellState T → Result (Poll O) PollError → Option P → CellState T → Type 0
  PollsMut None old result call new = (result ≡ Err errors.Finished) × (call ≡ None) × (new ≡ old)
  PollsMut (Some init) old result call new =
      MatchBool (is_some old.value)
      ((result ≡ Ok (Ready there)) × (call ≡ None) × (new ≡ old))
      (Drives moves init waker
      (λ output. (result ≡ Ok (Ready (made output).answer)) × (call ≡ None)
      × (new ≡ record old { value = (made output).value }))
      (λ answer next. (result ≡ answer) × (call ≡ Some next) × (new ≡ old)))

module _ {T : Type 0} where
  -- with the permit a value is put in where none is there, and else it comes back
  abbrev pub HoldsInsert : Permit → T → CellState T
      → Result (Poll (Result Unit T)) PollError → CallStage T → CellState T → Type 0
  HoldsInsert token value held result call new =
      MatchBool (is_some held.value)
      (Ends held.value (Err value) held result call new)
      (Ends (Some value) (Ok tt) held result call new)

  -- one poll of a call that puts a value in
  abbrev pub PollsInsert : ℕ → CallStage T → CellState T
      → Result (Poll (Result Unit T)) PollError → CallStage T → CellState T → Type 0
  PollsInsert waker call old result call' new =
      (asked : Result (Asked T) PollError) × (asking : CallStage T) × (held : SemaphoreState)
      × Asks (is_some old.value) waker call old.permit asked asking held
      × GoesOn (λ value. Err value) HoldsInsert asked asking (record old { permit = held }) result call' new
