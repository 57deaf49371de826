-- How far an end is, as a step of it asks.
use Rattle.std.specs.Prelude.{◌≡◌, ℕ, Bool, true, false, List, ◌∷◌, Some, None, ◌⊎◌}
use Rattle.atomic_table.specs.Table.{rest}
use Rattle.band_base.specs.declared.waker.Waker.{Waker}
use Rattle.band_oneshot.specs.declared.word.TheConstants.{EMPTY, RECEIVING, DISCONNECTED}
use Rattle.band_oneshot.specs.declared.state.SenderStage.TheVariants as sender
use Rattle.band_oneshot.specs.declared.state.ReceiverStage.TheVariants as receiver
use Rattle.band_oneshot.specs.declared.view.Held.TheVariants as held
use Rattle.band_oneshot.specs.declared.view.Sent.TheVariants as sent
use Rattle.band_oneshot.specs.declared.view.WakerSlot.TheVariants as slot
use Rattle.band_oneshot.specs.declared.view.ReceiverView.{ReceiverView}
use Rattle.band_oneshot.specs.declared.view.View.TheVariants as view
use Rattle.band_oneshot.specs.Kept.Plays.{sender_of, receiver_of}
use Rattle.band_oneshot.specs.Kept.Rule.{Seated}
use Rattle.band_oneshot.specs.declared.step.OneshotStep.{OneshotStep}
use Rattle.band_oneshot.specs.Runs.{SenderRuns, ReceiverRuns}
use Rattle.band_oneshot.specs.Words.{sender_makes}

-- what a sender that has not sent can find
abbrev pub IsIdleWord : ℕ → Type 0
IsIdleWord word = (word ≡ EMPTY) ⊎ ((word ≡ RECEIVING) ⊎ (word ≡ DISCONNECTED))

module _ {T : Type 0} where
  -- the receiver doesn't wait, or it waits
  abbrev pub MayWait : ReceiverView T → Type 0
  MayWait v = (v.stage ≡ receiver.Plain) ⊎ (v.stage ≡ receiver.Waiting)

  abbrev pub MayCancel : ReceiverView T → Type 0
  MayCancel v = (v.stage ≡ receiver.Plain) ⊎ ((v.stage ≡ receiver.Waiting) ⊎ (v.stage ≡ receiver.Cancelling))

  -- its waker may be in the channel
  abbrev pub MayFetch : ReceiverView T → Type 0
  MayFetch v = (v.stage ≡ receiver.Waiting) ⊎ (v.stage ≡ receiver.Cancelling)

  -- where it may find EMPTY, it has not used the waker's slot
  abbrev pub IsFresh : ReceiverView T → Type 0
  IsFresh v = v.stage ≡ receiver.Plain → sender_makes v.word EMPTY ≡ true → v.waker ≡ slot.Unused

  -- the sender has not sent
  pub record IsIdle (m : Seated T) : Type 0 where
    pub sends : m.0 ≡ view.Sends (sender_of m.0)
    pub stage : (sender_of m.0).stage ≡ sender.Idle
    pub message : (sender_of m.0).message ≡ sent.Nothing
    pub waker : (sender_of m.0).waker ≡ None

  -- the sender took this waker
  pub record IsAwaking (sending : Bool) (w : Waker) (m : Seated T) : Type 0 where
    pub sends : m.0 ≡ view.Sends (sender_of m.0)
    pub stage : (sender_of m.0).stage ≡ sender.Awaking sending
    pub message : (sender_of m.0).message ≡ sent.Nothing
    pub waker : (sender_of m.0).waker ≡ Some w

  -- in the midst of `send`, with the message in its slot
  pub record IsSending (m : Seated T) : Type 0 where
    pub waker : Waker
    pub awaking : IsAwaking true waker m
    pub message : T
    pub slot : m.1 ≡ (0, Some (held.Message message)) ∷ rest m.1

  -- in the midst of `disconnect`
  pub record IsParting (m : Seated T) : Type 0 where
    pub waker : Waker
    pub awaking : IsAwaking false waker m

  abbrev pub Receives : Seated T → Type 0
  Receives m = m.0 ≡ view.Receives (receiver_of m.0)

  -- a receiver that never waited
  pub record IsPlain (m : Seated T) : Type 0 where
    pub receives : Receives m
    pub stage : (receiver_of m.0).stage ≡ receiver.Plain
    pub waker : (receiver_of m.0).waker ≡ slot.Unused

  -- a receiver between two polls
  pub record IsResting (m : Seated T) : Type 0 where
    pub receives : Receives m
    pub stage : MayWait (receiver_of m.0)
    pub fresh : IsFresh (receiver_of m.0)

  -- the core makes these steps, by what the end knows before and after
  abbrev pub SenderSteps : List OneshotStep → ℕ → Seated T → Seated T → Type 0
  SenderSteps steps found m n = SenderRuns steps found (sender_of m.0) (sender_of n.0)

  abbrev pub ReceiverSteps : List OneshotStep → ℕ → Seated T → Seated T → Type 0
  ReceiverSteps steps found m n = ReceiverRuns T steps found (receiver_of m.0) (receiver_of n.0)
