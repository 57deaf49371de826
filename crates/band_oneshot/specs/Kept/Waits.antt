-- The parts of a poll and of a cancel.
use Rattle.std.specs.Prelude.{◌≡◌, ◌≢◌, ℕ, ◌<◌, ◌==◌, ◌||◌, if◌then◌else◌, Option, Some, None, Ok, Err}
use Rattle.band_base.specs.declared.waker.Waker.{Waker}
use Rattle.band_oneshot.specs.declared.word.TheConstants.{EMPTY, RECEIVING, AWAKING, MESSAGE, DISCONNECTED}
use Rattle.band_oneshot.specs.declared.recv.RecvPoll.{RecvPoll}
use Rattle.band_oneshot.specs.declared.recv.RecvPoll.TheVariants.{Ready, Pending, Again}
use Rattle.band_oneshot.specs.declared.recv.Turn.{Turn}
use Rattle.band_oneshot.specs.declared.recv.Turn.TheVariants.{Ended, Failed}
use Rattle.band_oneshot.specs.declared.state.ReceiverStage.TheVariants as receiver
use Rattle.band_oneshot.specs.declared.view.ReceiverView.{ReceiverView}
use Rattle.band_oneshot.specs.Calls.{TurnEnds, TurnFails}
use Rattle.band_oneshot.specs.Ends.{stored, received, left}

-- how many turns a cancel makes at most after a step that left this word
abbrev pub turns_left : ℕ → ℕ
turns_left word =
    if word == RECEIVING then 3 else if (word == EMPTY) || (word == AWAKING) then 2 else 1

module _ {T : Type 0} where
  -- the word that was found lets nobody wait
  abbrev pub Settles : Waker → ℕ → ReceiverView T → RecvPoll T → ReceiverView T → Type 0
  Settles w found before (Ready (Ok message)) now =
      (found ≡ MESSAGE) × (now ≡ received message (stored before))
  Settles w found before (Ready (Err error)) now = (found ≡ DISCONNECTED) × (now ≡ before)
  Settles w found before (Again waker) now = (waker ≡ w) × (found ≡ AWAKING) × (now ≡ before)
  Settles w found before Pending now = ⊥

  -- the waker was in its slot, and EMPTY was to become RECEIVING
  abbrev pub Registers : Waker → ReceiverView T → RecvPoll T → ReceiverView T → Type 0
  Registers w before (Ready (Ok message)) now =
      now ≡ received message (stored (left w MESSAGE before))
  Registers w before (Ready (Err error)) now = now ≡ left w DISCONNECTED before
  Registers w before (Again waker) now = ⊥
  Registers w before Pending now = now ≡ left w EMPTY before

  -- what a cancel can answer after a step that left this word
  abbrev pub AnswersAfter : ℕ → Option T → Type 0
  AnswersAfter word (Some message) = word ≢ DISCONNECTED
  AnswersAfter word None = word ≢ MESSAGE

  -- what a turn of it can come to
  abbrev pub TurnsAfter : ℕ → Turn T → Type 0
  TurnsAfter word (Ended answer) = AnswersAfter word answer
  TurnsAfter word Failed = (word ≢ MESSAGE) × (word ≢ DISCONNECTED)

  -- a turn of a cancel
  abbrev pub Turns : ReceiverView T → Turn T → ReceiverView T → Type 0
  Turns before (Ended answer) now = TurnEnds before answer now
  Turns before Failed now =
      TurnFails before now × (now.stage ≡ receiver.Cancelling)
      × (turns_left now.word < turns_left before.word)
