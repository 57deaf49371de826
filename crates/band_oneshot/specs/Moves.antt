-- Where the message and the waker go.
use Rattle.std.specs.Prelude.{◌≡◌, ◌≢◌, ℕ, ◌+◌, Bool, true, false, ◌&&◌, if◌then◌else◌, List, [], ◌∷◌, IsTrue, Option, Some, None, ◌⊎◌}
use Rattle.band_base.specs.declared.waker.Waker.{Waker}
use Rattle.band_oneshot.specs.declared.word.TheConstants.{MESSAGE, DISCONNECTED}
use Rattle.band_oneshot.specs.declared.state.OneshotState.{OneshotState}
use Rattle.band_oneshot.specs.declared.state.Place.{Place}
use Rattle.band_oneshot.specs.declared.state.Place.TheVariants as place
use Rattle.band_oneshot.specs.declared.state.WakerPlace.{WakerPlace}
use Rattle.band_oneshot.specs.declared.state.WakerPlace.TheVariants as waker
use Rattle.band_oneshot.specs.declared.state.SenderStage.TheVariants as sender
use Rattle.band_oneshot.specs.declared.state.ReceiverStage.TheVariants as receiver
use Rattle.band_oneshot.specs.declared.step.OneshotStep.{OneshotStep}
use Rattle.band_oneshot.specs.declared.step.OneshotStep.TheVariants.{FinalSwap, PutWaker}
use Rattle.band_oneshot.specs.Step.{needs, after, after_all}

-- the message stays, or goes from the sender into the channel, back or away, or from the channel to the receiver
abbrev pub MovesMessage : Place → Place → Type 0
MovesMessage place.Sender place.Receiver = ⊥
MovesMessage place.Sender to = Unit {0}
MovesMessage place.Channel place.Receiver = Unit {0}
MovesMessage from to = to ≡ from

abbrev pub is_place : Place → Place → Bool
is_place place.Sender place.Sender = true
is_place place.Channel place.Channel = true
is_place place.Receiver place.Receiver = true
is_place place.HandedBack place.HandedBack = true
is_place place.Gone place.Gone = true
is_place this that = false

-- how often the message goes from one place to another in a run
abbrev pub moves : Place → Place → List OneshotStep → OneshotState → ℕ
moves from to [] c = 0
moves from to (s ∷ rest) c =
    (if is_place from c.message && is_place to (after s c).message then 1 else 0)
    + moves from to rest (after s c)

-- in this run the sender makes its final swap, which finds this word
abbrev pub SwapsFinally : ℕ → List OneshotStep → OneshotState → Type 0
SwapsFinally word [] c = ⊥
SwapsFinally word (s ∷ rest) c =
    ((s ≡ FinalSwap) × IsTrue (needs FinalSwap c) × (c.word ≡ word)) ⊎ SwapsFinally word rest (after s c)

-- The sender added 1, which led to the state c, and these steps followed. A message that is with the sender is so until its
-- final swap, and one that is gone went at a final swap that found the receiver gone. Else it was handed back, is in the
-- channel, or was received.
abbrev pub AddedIsAt : Place → List OneshotStep → OneshotState → Type 0
AddedIsAt place.Sender steps c = (after_all steps c).sender ≡ sender.Awaking true
AddedIsAt place.Gone steps c = SwapsFinally DISCONNECTED steps c
AddedIsAt place steps c = Unit {0}

-- the waker stays, or goes from the receiver into the channel or away, or from the channel to either end
abbrev pub MovesWaker : WakerPlace → WakerPlace → Type 0
MovesWaker (waker.Receiver w) (waker.Channel to) = to ≡ w
MovesWaker (waker.Receiver w) waker.Nowhere = Unit {0}
MovesWaker (waker.Channel w) (waker.Receiver to) = to ≡ w
MovesWaker (waker.Channel w) (waker.Sender to) = to ≡ w
MovesWaker from to = to ≡ from

-- but for a put, which gives the receiver a new one
abbrev pub MovesWakerBy : OneshotStep → WakerPlace → WakerPlace → Type 0
MovesWakerBy (PutWaker w) from to = (to ≡ from) ⊎ (to ≡ waker.Receiver w)
MovesWakerBy s from to = MovesWaker from to

-- the waker that is anywhere
abbrev pub waker_in : WakerPlace → Option Waker
waker_in waker.Nowhere = None
waker_in (waker.Channel w) = Some w
waker_in (waker.Sender w) = Some w
waker_in (waker.Receiver w) = Some w

-- this waker is put in the run
abbrev pub Puts : Waker → List OneshotStep → Type 0
Puts w [] = ⊥
Puts w (s ∷ rest) = (s ≡ PutWaker w) ⊎ Puts w rest

-- a word that one end found stays what it is, whatever the other does
pub record KeepsFoundWords (by_sender : Bool) (old new : OneshotState) : Type 0 where
  pub message : by_sender ≡ true → old.word ≡ MESSAGE → new.word ≡ MESSAGE
  pub no_sender : by_sender ≡ true → old.receiver ≢ receiver.Ended → old.word ≡ DISCONNECTED
      → new.word ≡ DISCONNECTED
  pub no_receiver : by_sender ≡ false → old.sender ≡ sender.Idle → old.word ≡ DISCONNECTED
      → new.word ≡ DISCONNECTED
