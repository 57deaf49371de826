-- The step of an end on the word is the step of the core that has its name.
use Rattle.std.specs.Prelude.{◌≡◌, ℕ, Bool, true, ◌&&◌, ◌==◌, if◌then◌else◌, List, [], ◌∷◌}
use Rattle.band_oneshot.specs.declared.word.TheConstants.{EMPTY, RECEIVING, MESSAGE}
use Rattle.band_oneshot.specs.declared.state.OneshotState.{OneshotState}
use Rattle.band_oneshot.specs.declared.step.OneshotStep.{OneshotStep}
use Rattle.band_oneshot.specs.declared.step.OneshotStep.TheVariants.{Add, ExclusiveOr, TakeWaker, ReceiverLoad, Swap, Store, TakeBack, EmptyToReceiving, ReceivingToEmpty, TakeMessage}
use Rattle.band_oneshot.specs.declared.view.SenderView.{SenderView}
use Rattle.band_oneshot.specs.declared.view.ReceiverView.{ReceiverView}
use Rattle.band_oneshot.specs.Ends.{shown, Took, Agree}
use Rattle.band_oneshot.specs.Step.{needs, after, after_all}

-- A step on the word with what is counted with it: a take counts with the step before it.
abbrev pub counts_as : OneshotStep → ℕ → List OneshotStep
counts_as Add found = Add ∷ (if found == RECEIVING then TakeWaker ∷ [] else [])
counts_as ExclusiveOr found = ExclusiveOr ∷ (if found == RECEIVING then TakeWaker ∷ [] else [])
counts_as Store found = Store ∷ TakeMessage ∷ []
counts_as Swap found = Swap ∷ (if found == MESSAGE then TakeMessage ∷ [] else [])
counts_as (ReceiverLoad true) found = ReceiverLoad true ∷ (if found == MESSAGE then TakeMessage ∷ [] else [])
counts_as EmptyToReceiving found = EmptyToReceiving ∷ (if found == EMPTY then [] else TakeBack ∷ [])
counts_as ReceivingToEmpty found = ReceivingToEmpty ∷ (if found == RECEIVING then TakeBack ∷ [] else [])
counts_as step found = step ∷ []

-- each end is at its step, all through the run
abbrev pub none_refused : List OneshotStep → OneshotState → Bool
none_refused [] c = true
none_refused (s ∷ rest) c = needs s c && none_refused rest (after s c)

-- the core makes these steps, and none is refused
pub record Runs (steps : List OneshotStep) (old new : OneshotState) : Type 0 where
  pub none_refused : none_refused steps old ≡ true
  pub state : new ≡ after_all steps old

-- whatever a receiver knows that can be there with the word that was found
module _ {T : Type 0} where
  abbrev pub SenderRuns : List OneshotStep → ℕ → SenderView T → SenderView T → Type 0
  SenderRuns steps found old new =
      (r : ReceiverView T) → Agree found old r → Took new r
      → Runs steps (shown found old r) (shown new.word new r)

-- whatever a sender knows that can be there with the word that was found
abbrev pub ReceiverRuns : (T : Type 0) → List OneshotStep → ℕ → ReceiverView T → ReceiverView T → Type 0
ReceiverRuns T steps found old new =
    (s : SenderView T) → Agree found s old → Runs steps (shown found s old) (shown new.word s new)
