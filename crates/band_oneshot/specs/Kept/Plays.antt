-- What each step on the word tells the end that makes it: of the seat before, the word found and the seat after.

use Rattle.std.specs.Prelude.{◌≡◌, ◌≢◌, ℕ, Bool, true, false, [], ◌∷◌, Some, None}
use Rattle.atomic_table.specs.Table.{rest}
use Rattle.band_base.specs.declared.waker.Waker.{Waker}
use Rattle.band_oneshot.specs.declared.word.TheConstants.{EMPTY, RECEIVING, MESSAGE, DISCONNECTED}
use Rattle.band_oneshot.specs.declared.step.OneshotStep.{OneshotStep}
use Rattle.band_oneshot.specs.declared.step.OneshotStep.TheVariants.{Add, ExclusiveOr}
use Rattle.band_oneshot.specs.declared.view.Held.TheVariants as held
use Rattle.band_oneshot.specs.declared.view.SenderView.{SenderView}
use Rattle.band_oneshot.specs.declared.view.ReceiverView.{ReceiverView}
use Rattle.band_oneshot.specs.declared.view.View.{View}
use Rattle.band_oneshot.specs.declared.view.View.TheVariants as view
use Rattle.band_oneshot.specs.Ends.{new_sender, new_receiver, Agree, sender_looked, added, parted, awoken, sent_finally, parted_finally, receiver_looked, poll_looked, cancel_looked, swapped, stored, received, left, fetched, awaking_ended, empty_ended}
use Rattle.band_oneshot.specs.Kept.Rule.{Seated}
use Rattle.band_oneshot.specs.Words.{sender_makes, receiver_makes}

-- the word that a receiver found can be there, and came of what the receiver left
pub record ReceiverFinds (T : Type 0) (found : ℕ) (v : ReceiverView T) : Type 0 where
  pub sender : SenderView T
  pub agree : Agree found sender v
  pub follows : sender_makes v.word found ≡ true

module _ {T : Type 0} where
  abbrev pub sender_of : View T → SenderView T
  sender_of (view.Sends v) = v
  sender_of other = new_sender

  abbrev pub receiver_of : View T → ReceiverView T
  receiver_of (view.Receives v) = v
  receiver_of other = new_receiver

  -- the seat before the split, without the slot for the message and with it
  abbrev pub Prepares : Seated T → ℕ → Seated T → Type 0
  Prepares m found n = n ≡ (view.Whole true, (0, None) ∷ m.1)

  -- the word that a sender found can be there, and came of what the sender left
  pub record SenderFinds (found : ℕ) (v : SenderView T) : Type 0 where
    pub receiver : ReceiverView T
    pub agree : Agree found v receiver
    pub follows : receiver_makes v.word found ≡ true

  abbrev pub SenderLooks : Seated T → ℕ → Seated T → Type 0
  SenderLooks m found n =
      SenderFinds found (sender_of m.0) × (n ≡ (view.Sends (sender_looked found (sender_of m.0)), m.1))

  -- it has the waker's slot too, with what is in it
  abbrev pub Awakes : OneshotStep → Bool → Seated T → Seated T → Type 0
  Awakes step sending m n =
      (w : Waker) × (n ≡ (view.Sends (awoken step sending w (sender_of m.0)), (1, Some (held.Waker w)) ∷ m.1))

  -- with the message in its slot
  abbrev pub Adds : Seated T → ℕ → Seated T → Type 0
  Adds m found n = (message : T) → m.1 ≡ (0, Some (held.Message message)) ∷ [] →
      SenderFinds found (sender_of m.0)
      × (found ≡ RECEIVING → Awakes Add true m n)
      × (found ≢ RECEIVING → n.0 ≡ view.Sends (added message found (sender_of m.0)))
      × (found ≡ DISCONNECTED → n.1 ≡ m.1)

  abbrev pub Parts : Seated T → ℕ → Seated T → Type 0
  Parts m found n =
      SenderFinds found (sender_of m.0)
      × (found ≡ RECEIVING → Awakes ExclusiveOr false m n)
      × (found ≢ RECEIVING → n.0 ≡ view.Sends (parted found (sender_of m.0)))

  abbrev pub SendsFinally : Seated T → ℕ → Seated T → Type 0
  SendsFinally m found n = (message : T) → m.1 ≡ (0, Some (held.Message message)) ∷ rest m.1 →
      SenderFinds found (sender_of m.0)
      × (n.0 ≡ view.Sends (sent_finally message found (sender_of m.0)))
      × (found ≡ DISCONNECTED → n.1 ≡ m.1)

  abbrev pub PartsFinally : Seated T → ℕ → Seated T → Type 0
  PartsFinally m found n =
      SenderFinds found (sender_of m.0) × (n.0 ≡ view.Sends (parted_finally found (sender_of m.0)))

  abbrev pub ReceiverLooks : Seated T → ℕ → Seated T → Type 0
  ReceiverLooks m found n =
      ReceiverFinds T found (receiver_of m.0)
      × (n ≡ (view.Receives (receiver_looked found (receiver_of m.0)), m.1))

  -- it has the waker's slot, where nothing is there yet
  abbrev pub PollLooks : Seated T → ℕ → Seated T → Type 0
  PollLooks m found n =
      ReceiverFinds T found (receiver_of m.0)
      × (n.0 ≡ view.Receives (poll_looked found (receiver_of m.0)))
      × (found ≡ EMPTY → n.1 ≡ (1, None) ∷ m.1)
      × (found ≢ EMPTY → n.1 ≡ m.1)

  -- it has the message's slot too, where there is one
  abbrev pub TakesMessage : Seated T → ℕ → ReceiverView T → Seated T → Type 0
  TakesMessage m found v n =
      ReceiverFinds T found (receiver_of m.0)
      × (found ≡ MESSAGE → (message : T)
      × (n.0 ≡ view.Receives (received message v)) × (n.1 ≡ (0, Some (held.Message message)) ∷ m.1))
      × (found ≢ MESSAGE → (n.0 ≡ view.Receives v) × (n.1 ≡ m.1))

  abbrev pub CancelLooks : Seated T → ℕ → Seated T → Type 0
  CancelLooks m found n = TakesMessage m found (cancel_looked found (receiver_of m.0)) n

  abbrev pub Swaps : Seated T → ℕ → Seated T → Type 0
  Swaps m found n = TakesMessage m found (swapped found (receiver_of m.0)) n

  abbrev pub Stores : Seated T → ℕ → Seated T → Type 0
  Stores m put n = TakesMessage m MESSAGE (stored (receiver_of m.0)) n

  -- with the waker in its slot
  abbrev pub Leaves : Seated T → ℕ → Seated T → Type 0
  Leaves m found n = (w : Waker) → m.1 ≡ (1, Some (held.Waker w)) ∷ rest m.1 →
      ReceiverFinds T found (receiver_of m.0)
      × (n.0 ≡ view.Receives (left w found (receiver_of m.0)))
      × (found ≡ EMPTY → n.1 ≡ rest m.1)
      × (found ≢ EMPTY → n.1 ≡ m.1)

  abbrev pub Fetches : Seated T → ℕ → Seated T → Type 0
  Fetches m found n =
      ReceiverFinds T found (receiver_of m.0)
      × (n.0 ≡ view.Receives (fetched found (receiver_of m.0)))
      × (found ≡ RECEIVING → (w : Waker) × (n.1 ≡ (1, Some (held.Waker w)) ∷ m.1))
      × (found ≢ RECEIVING → n.1 ≡ m.1)

  abbrev pub EndsAwaking : Seated T → ℕ → Seated T → Type 0
  EndsAwaking m found n =
      ReceiverFinds T found (receiver_of m.0)
      × (n ≡ (view.Receives (awaking_ended found (receiver_of m.0)), m.1))

  abbrev pub EndsEmpty : Seated T → ℕ → Seated T → Type 0
  EndsEmpty m found n =
      ReceiverFinds T found (receiver_of m.0)
      × (n ≡ (view.Receives (empty_ended found (receiver_of m.0)), m.1))
