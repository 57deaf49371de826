-- A completion: its result, how many observe it, and who waits for it.
use Rattle.std.specs.Prelude.{◌≡◌, ℕ, ◌+◌, ◌-◌, Bool, is_some, Option, Some, None, Result, Ok, Err}
use Rattle.std.specs.Borrow.{Bor}
use Rattle.band_signal.specs.declared.completion.Abandoned.{Abandoned}
use Rattle.band_signal.specs.Waits.{Waits, no_waits, all_woken}

abbrev pub abandoned : Abandoned
abandoned = record {}

module _ (T : Type 0) where
  -- its number, which its tokens carry; the result is there once it was published or abandoned
  pub record CompletionView : Type 0 where
    pub number : ℕ
    pub observers : ℕ
    pub outcome : Option (Result T Abandoned)
    pub waits : Waits

module _ {T : Type 0} where
  -- one with an observer, and no result
  abbrev pub new_completion : ℕ → CompletionView T
  new_completion number = record { number = number; observers = 1; outcome = None; waits = no_waits }

  -- what its waits wait for
  abbrev pub is_complete : CompletionView T → Bool
  is_complete completion = is_some completion.outcome

  -- the result is there, and all are woken
  abbrev pub completed : Result T Abandoned → CompletionView T → CompletionView T
  completed outcome completion = record completion {
    outcome = Some outcome;
    waits = all_woken completion.waits;
  }

  abbrev pub with_observer : CompletionView T → CompletionView T
  with_observer completion = record completion { observers = completion.observers + 1 }

  abbrev pub without_observer : CompletionView T → CompletionView T
  without_observer completion = record completion { observers = completion.observers - 1 }

  abbrev pub told_of : Option (Result T Abandoned) → Result Unit Abandoned
  told_of (Some (Err abandoned)) = Err abandoned
  told_of (Some (Ok value)) = Ok tt
  told_of None = Ok tt

  -- what a wait is told. The value itself is read from the state
  abbrev pub told : CompletionView T → Result Unit Abandoned
  told completion = told_of completion.outcome

  -- the result, by reference
  abbrev pub Shows : CompletionView T → Option (Result (Bor T) Abandoned) → Type 0
  Shows completion (Some (Ok value)) = completion.outcome ≡ Some (Ok value.now)
  Shows completion (Some (Err abandoned)) = completion.outcome ≡ Some (Err abandoned)
  Shows completion None = completion.outcome ≡ None
