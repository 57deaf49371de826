-- What holds of a channel between any two steps of its ends.
use Rattle.std.specs.Prelude.{◌≡◌, ◌≢◌, ℕ, Bool, true, false, if◌then◌else◌, List, [], ◌∷◌, Option, Some, None, is_some, ◌⊎◌}
use mathlib.Core.Option.{some, none}
use mathlib.Core.Option.{Option as Home}
use Rattle.atomic_table.specs.Table.{State, Me}
use Rattle.band_oneshot.specs.declared.word.TheConstants.{EMPTY}
use Rattle.band_oneshot.specs.declared.state.SenderStage.TheVariants as sender
use Rattle.band_oneshot.specs.declared.state.ReceiverStage.TheVariants as receiver
use Rattle.band_oneshot.specs.declared.view.Held.{Held}
use Rattle.band_oneshot.specs.declared.view.Held.TheVariants as held
use Rattle.band_oneshot.specs.declared.view.Sent.{Sent}
use Rattle.band_oneshot.specs.declared.view.Sent.TheVariants as sent
use Rattle.band_oneshot.specs.declared.view.WakerSlot.{WakerSlot}
use Rattle.band_oneshot.specs.declared.view.WakerSlot.TheVariants as slot
use Rattle.band_oneshot.specs.declared.view.SenderView.{SenderView}
use Rattle.band_oneshot.specs.declared.view.ReceiverView.{ReceiverView}
use Rattle.band_oneshot.specs.declared.view.View.{View}
use Rattle.band_oneshot.specs.declared.view.View.TheVariants as view
use Rattle.band_oneshot.specs.Ends.{Agree}
use Rattle.band_oneshot.specs.Words.{sender_makes, receiver_makes}

-- what a slot has at home, and what a seat has
abbrev pub Slot : Type 0 → Type 0
Slot T = Option (Held T)

abbrev pub Seated : Type 0 → Type 0
Seated T = Me (Slot T) (View T)

-- a waker that was left is in its slot until the sender takes it
abbrev pub waker_home : {T : Type 0} → WakerSlot → Bool → Home (Slot T)
waker_home slot.Unused taken = some None
waker_home slot.Taken taken = none
waker_home (slot.Left w) false = some (Some (held.Waker w))
waker_home (slot.Left w) true = none

module _ {T : Type 0} where
  -- a message that was sent is in its slot until the receiver takes it. Else the slot is out with an end.
  abbrev pub message_home : Sent T → Bool → Home (Slot T)
  message_home (sent.Message m) false = some (Some (held.Message m))
  message_home other taken = none

  -- the word, what is at home, and what the ends know. The word is what one of the ends left of it.
  pub record Kept (word : ℕ) (h0 h1 : Home (Slot T)) (s : SenderView T) (r : ReceiverView T) : Type 0 where
    pub agree : Agree word s r
    pub message : h0 ≡ message_home s.message (is_some r.message)
    pub waker : h1 ≡ waker_home r.waker (is_some s.waker)
    pub left : (word ≡ s.word) ⊎ (word ≡ r.word)
    pub found_by_sender : s.stage ≢ sender.Ended → receiver_makes s.word word ≡ true
    pub found_by_receiver : r.stage ≢ receiver.Ended → sender_makes r.word word ≡ true

  -- before the split, the slot for the message is taken out
  abbrev pub Holds : List ℕ → List (Home (Slot T)) → List (View T) → Type 0
  Holds (word ∷ []) (h0 ∷ h1 ∷ []) (view.Sends s ∷ view.Receives r ∷ []) = Kept word h0 h1 s r
  Holds (word ∷ []) (h0 ∷ h1 ∷ []) (view.Whole out ∷ []) =
      (word ≡ EMPTY) × (h0 ≡ (if out then none else some None)) × (h1 ≡ some None)
  Holds words homes views = ⊥

  abbrev pub ObeysRule : State (Slot T) (View T) → Type 0
  ObeysRule s = Holds s.words s.homes s.views
