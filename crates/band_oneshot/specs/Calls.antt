-- What each call of an end answers, by what its steps on the word found, and what the end knows afterwards.
use Rattle.std.specs.Prelude.{◌≡◌, ◌≢◌, ℕ, zero, suc, true, false, Option, Some, None, Result, Ok, Err, ◌⊎◌}
use Rattle.band_base.specs.declared.waker.Waker.{Waker}
use Rattle.band_oneshot.specs.declared.word.TheConstants.{EMPTY, RECEIVING, AWAKING, MESSAGE, DISCONNECTED}
use Rattle.band_oneshot.specs.declared.step.OneshotStep.TheVariants.{Add, ExclusiveOr}
use Rattle.band_oneshot.specs.declared.receiver.TryRecvError.{TryRecvError}
use Rattle.band_oneshot.specs.declared.receiver.TryRecvError.TheVariants as errors
use Rattle.band_oneshot.specs.declared.recv.RecvPoll.{RecvPoll}
use Rattle.band_oneshot.specs.declared.recv.RecvPoll.TheVariants.{Ready, Pending, Again}
use Rattle.band_oneshot.specs.declared.view.SenderView.{SenderView}
use Rattle.band_oneshot.specs.declared.view.ReceiverView.{ReceiverView}
use Rattle.band_oneshot.specs.declared.view.View.{View}
use Rattle.band_oneshot.specs.declared.view.View.TheVariants as view
use Rattle.band_oneshot.specs.Ends.{added, parted, awoken, sent_finally, parted_finally, receiver_looked, poll_looked, cancel_looked, swapped, stored, received, left, fetched, awaking_ended, empty_ended}

module _ {T : Type 0} where
  -- The last look of a poll found this word, and left the receiver knowing this: it looked at the word, and where it was
  -- RECEIVING tried to have its waker back, and where it was or became EMPTY tried to leave its new one.
  abbrev pub LooksLast : Waker → ℕ → ReceiverView T → ReceiverView T → Type 0
  LooksLast w found before now =
      (now ≡ poll_looked found before)
      ⊎ ((now ≡ fetched found (poll_looked RECEIVING before))
      ⊎ ((now ≡ left w found (poll_looked EMPTY before))
      ⊎ (now ≡ left w found (fetched RECEIVING (poll_looked RECEIVING before)))))

  -- A turn of a cancel that doesn't end it: its exchange found another word than its load, or had the waker back, or tried to.
  abbrev pub TurnFails : ReceiverView T → ReceiverView T → Type 0
  TurnFails before now =
      ((found : ℕ) × (found ≢ EMPTY) × (now ≡ empty_ended found (cancel_looked EMPTY before)))
      ⊎ (((found : ℕ) × (found ≢ AWAKING) × (now ≡ awaking_ended found (cancel_looked AWAKING before)))
      ⊎ ((found : ℕ) × (now ≡ fetched found (cancel_looked RECEIVING before))))

  -- `send` of this message
  abbrev pub Sends : T → SenderView T → Result (Option Waker) T → View T → Type 0
  Sends message before (Ok None) spent =
      (spent ≡ view.Sends (added message EMPTY before))
      ⊎ ((w : Waker) × (spent ≡ view.Sends (sent_finally message DISCONNECTED (awoken Add true w before))))
  Sends message before (Ok (Some w)) spent =
      spent ≡ view.Sends (sent_finally message AWAKING (awoken Add true w before))
  Sends message before (Err back) spent =
      (back ≡ message) × (spent ≡ view.Sends (added message DISCONNECTED before))

  -- `disconnect` of a sender
  abbrev pub DisconnectsSender : SenderView T → Option Waker → View T → Type 0
  DisconnectsSender before None spent =
      (spent ≡ view.Sends (parted EMPTY before))
      ⊎ ((spent ≡ view.Sends (parted DISCONNECTED before))
      ⊎ ((w : Waker)
      × (spent ≡ view.Sends (parted_finally DISCONNECTED (awoken ExclusiveOr false w before)))))
  DisconnectsSender before (Some w) spent =
      spent ≡ view.Sends (parted_finally AWAKING (awoken ExclusiveOr false w before))

  -- `disconnect` of a receiver
  abbrev pub DisconnectsReceiver : ReceiverView T → Option T → View T → Type 0
  DisconnectsReceiver before None spent =
      (spent ≡ view.Receives (swapped EMPTY before)) ⊎ (spent ≡ view.Receives (swapped DISCONNECTED before))
  DisconnectsReceiver before (Some message) spent =
      spent ≡ view.Receives (received message (swapped MESSAGE before))

  -- `try_recv`
  abbrev pub TriesToReceive : ReceiverView T → Result T TryRecvError → ReceiverView T → Type 0
  TriesToReceive before (Ok message) now =
      now ≡ received message (stored (receiver_looked MESSAGE before))
  TriesToReceive before (Err errors.Empty) now = now ≡ receiver_looked EMPTY before
  TriesToReceive before (Err errors.Disconnected) now = now ≡ receiver_looked DISCONNECTED before

  -- `poll` with this waker
  abbrev pub Polls : Waker → ReceiverView T → RecvPoll T → ReceiverView T → Type 0
  Polls w before (Ready (Ok message)) now =
      (last : ReceiverView T) × LooksLast w MESSAGE before last × (now ≡ received message (stored last))
  Polls w before (Ready (Err error)) now = LooksLast w DISCONNECTED before now
  Polls w before (Again waker) now =
      (waker ≡ w)
      × ((now ≡ poll_looked AWAKING before) ⊎ (now ≡ fetched AWAKING (poll_looked RECEIVING before)))
  Polls w before Pending now =
      (now ≡ left w EMPTY (poll_looked EMPTY before))
      ⊎ (now ≡ left w EMPTY (fetched RECEIVING (poll_looked RECEIVING before)))

  -- the message was received, or none will come
  abbrev pub IsMessage : RecvPoll T → Type 0
  IsMessage (Ready (Ok message)) = Unit {0}
  IsMessage answer = ⊥

  abbrev pub IsEnd : RecvPoll T → Type 0
  IsEnd (Ready (Err error)) = Unit {0}
  IsEnd answer = ⊥

  -- a turn of a cancel that ends it
  abbrev pub TurnEnds : ReceiverView T → Option T → ReceiverView T → Type 0
  TurnEnds before (Some message) now = now ≡ received message (cancel_looked MESSAGE before)
  TurnEnds before None now =
      (now ≡ cancel_looked DISCONNECTED before)
      ⊎ ((now ≡ empty_ended EMPTY (cancel_looked EMPTY before))
      ⊎ (now ≡ awaking_ended AWAKING (cancel_looked AWAKING before)))

  -- `cancel` in at most so many turns
  abbrev pub CancelsIn : ℕ → ReceiverView T → Option T → View T → Type 0
  CancelsIn zero before answer spent = ⊥
  CancelsIn (suc turns) before answer spent =
      ((now : ReceiverView T) × TurnEnds before answer now × (spent ≡ view.Receives now))
      ⊎ ((now : ReceiverView T) × TurnFails before now × CancelsIn turns now answer spent)
