-- The step of an end on the word is the step of the core that has its name.
use Rattle.std.specs.Prelude.{◌==◌}
use Rattle.std.proofs.Common.{◌≡◌, ℕ, refl, Some, None, true, false, ◌⊎◌, inl, inr, ◌∷◌, arith}
use Rattle.band_base.specs.declared.waker.Waker.{Waker}
use Rattle.band_oneshot.specs.declared.word.TheConstants.{EMPTY, RECEIVING, MESSAGE}
use Rattle.band_oneshot.specs.declared.state.SenderStage.TheVariants as sender
use Rattle.band_oneshot.specs.declared.state.ReceiverStage.TheVariants as receiver
use Rattle.band_oneshot.specs.declared.step.OneshotStep.TheVariants.{SenderLoad, Add, ExclusiveOr, FinalSwap, ReceiverLoad, Swap, Store, PutWaker, EmptyToReceiving, ReceivingToEmpty, AwakingToDisconnected, EmptyToDisconnected}
use Rattle.band_oneshot.specs.declared.view.Sent.TheVariants as sent
use Rattle.band_oneshot.specs.declared.view.WakerSlot.TheVariants as slot
use Rattle.band_oneshot.specs.declared.view.SenderView.{SenderView}
use Rattle.band_oneshot.specs.declared.view.ReceiverView.{ReceiverView}
use Rattle.band_oneshot.specs.Ends.{sender_looked, added, parted, awoken, sent_finally, parted_finally, receiver_looked, poll_looked, cancel_looked, swapped, stored, received, left, fetched, awaking_ended, empty_ended}
use Rattle.band_oneshot.specs.Runs.{counts_as, SenderRuns, ReceiverRuns}

module _ {T : Type 0} where
  pub sender_looks : (found : ℕ) (v : SenderView T) → v.stage ≡ sender.Idle
      → SenderRuns (counts_as SenderLoad found) found v (sender_looked found v)
  sender_looks found v idle r h took = grind arith

  pub adds : (message : T) (found : ℕ) (v : SenderView T) → (found == RECEIVING) ≡ false → v.stage ≡ sender.Idle → v.message ≡ sent.Nothing
      → v.waker ≡ None → SenderRuns (counts_as Add found) found v (added message found v)
  adds message found v not idle nothing none r h took = grind arith

  pub adds_receiving : (w : Waker) (v : SenderView T) → v.stage ≡ sender.Idle → v.message ≡ sent.Nothing → v.waker ≡ None
      → SenderRuns (counts_as Add RECEIVING) RECEIVING v (awoken Add true w v)
  adds_receiving w v idle nothing none r h took = grind (arith, took w refl)

  pub parts : (found : ℕ) (v : SenderView T) → (found == RECEIVING) ≡ false → v.stage ≡ sender.Idle → v.message ≡ sent.Nothing → v.waker ≡ None
      → SenderRuns (counts_as ExclusiveOr found) found v (parted found v)
  parts found v not idle nothing none r h took = grind arith

  pub parts_receiving : (w : Waker) (v : SenderView T) → v.stage ≡ sender.Idle → v.message ≡ sent.Nothing → v.waker ≡ None
      → SenderRuns (counts_as ExclusiveOr RECEIVING) RECEIVING v (awoken ExclusiveOr false w v)
  parts_receiving w v idle nothing none r h took = grind (arith, took w refl)

  pub sends_finally : (message : T) (found : ℕ) (v : SenderView T) (w : Waker) → v.stage ≡ sender.Awaking true → v.message ≡ sent.Nothing
      → v.waker ≡ Some w → SenderRuns (counts_as FinalSwap found) found v (sent_finally message found v)
  sends_finally message found v w awaking nothing has r h took = grind arith

  pub parts_finally : (found : ℕ) (v : SenderView T) (w : Waker) → v.stage ≡ sender.Awaking false → v.message ≡ sent.Nothing → v.waker ≡ Some w
      → SenderRuns (counts_as FinalSwap found) found v (parted_finally found v)
  parts_finally found v w awaking nothing has r h took = grind arith

module _ (T : Type 0) where
  pub receiver_looks : (found : ℕ) (v : ReceiverView T) → (v.stage ≡ receiver.Plain) ⊎ (v.stage ≡ receiver.Waiting)
      → ReceiverRuns T (counts_as (ReceiverLoad false) found) found v (receiver_looked found v)
  receiver_looks found v on s h = grind arith

  pub poll_looks : (found : ℕ) (v : ReceiverView T) → (v.stage ≡ receiver.Plain) ⊎ (v.stage ≡ receiver.Waiting) → (found ≡ EMPTY → v.waker ≡ slot.Unused)
      → ReceiverRuns T (counts_as (ReceiverLoad false) found) found v (poll_looked found v)
  poll_looks found v on s h = grind arith

  cancel_looks_plain : (found : ℕ) (v : ReceiverView T) → (found == MESSAGE) ≡ false → v.stage ≡ receiver.Plain
      → ReceiverRuns T (counts_as (ReceiverLoad true) found) found v (cancel_looked found v)
  cancel_looks_plain found v not on s h = grind arith

  cancel_looks_waiting : (found : ℕ) (v : ReceiverView T) → (found == MESSAGE) ≡ false → v.stage ≡ receiver.Waiting
      → ReceiverRuns T (counts_as (ReceiverLoad true) found) found v (cancel_looked found v)
  cancel_looks_waiting found v not on s h = grind arith

  cancel_looks_again : (found : ℕ) (v : ReceiverView T) → (found == MESSAGE) ≡ false → v.stage ≡ receiver.Cancelling
      → ReceiverRuns T (counts_as (ReceiverLoad true) found) found v (cancel_looked found v)
  cancel_looks_again found v not on s h = grind arith

  pub cancel_looks : (found : ℕ) (v : ReceiverView T) → (found == MESSAGE) ≡ false
      → (v.stage ≡ receiver.Plain) ⊎ ((v.stage ≡ receiver.Waiting) ⊎ (v.stage ≡ receiver.Cancelling))
      → ReceiverRuns T (counts_as (ReceiverLoad true) found) found v (cancel_looked found v)
  cancel_looks found v not on = elim on [
    | inl plain ↦ cancel_looks_plain found v not plain
    | inr (inl waiting) ↦ cancel_looks_waiting found v not waiting
    | inr (inr cancelling) ↦ cancel_looks_again found v not cancelling
  ]

  pub cancel_takes : (message : T) (found : ℕ) (v : ReceiverView T) → found ≡ MESSAGE
      → (v.stage ≡ receiver.Plain) ⊎ ((v.stage ≡ receiver.Waiting) ⊎ (v.stage ≡ receiver.Cancelling))
      → ReceiverRuns T (counts_as (ReceiverLoad true) found) found v (received message (cancel_looked found v))
  cancel_takes message found v is on s h = grind arith

  pub swaps : (found : ℕ) (v : ReceiverView T) → (found == MESSAGE) ≡ false → v.stage ≡ receiver.Plain
      → ReceiverRuns T (counts_as Swap found) found v (swapped found v)
  swaps found v not on s h = grind arith

  pub swap_takes : (message : T) (found : ℕ) (v : ReceiverView T) → found ≡ MESSAGE → v.stage ≡ receiver.Plain
      → ReceiverRuns T (counts_as Swap found) found v (received message (swapped found v))
  swap_takes message found v is on s h = grind arith

  pub store_takes : (message : T) (v : ReceiverView T) → (v.stage ≡ receiver.Plain) ⊎ (v.stage ≡ receiver.Waiting)
      → ReceiverRuns T (counts_as Store MESSAGE) MESSAGE v (received message (stored v))
  store_takes message v on s h = grind arith

  pub leaves : (w : Waker) (found : ℕ) (v : ReceiverView T) → v.stage ≡ receiver.Plain → v.waker ≡ slot.Taken
      → ReceiverRuns T (PutWaker w ∷ counts_as EmptyToReceiving found) found v (left w found v)
  leaves w found v on has s h = grind arith

  pub fetches : (found : ℕ) (v : ReceiverView T) → (v.stage ≡ receiver.Waiting) ⊎ (v.stage ≡ receiver.Cancelling)
      → ReceiverRuns T (counts_as ReceivingToEmpty found) found v (fetched found v)
  fetches found v on s h = grind arith

  pub ends_awaking : (found : ℕ) (v : ReceiverView T) → v.stage ≡ receiver.Cancelling
      → ReceiverRuns T (counts_as AwakingToDisconnected found) found v (awaking_ended found v)
  ends_awaking found v on s h = grind arith

  pub ends_empty : (found : ℕ) (v : ReceiverView T) → v.stage ≡ receiver.Cancelling
      → ReceiverRuns T (counts_as EmptyToDisconnected found) found v (empty_ended found v)
  ends_empty found v on s h = grind arith
