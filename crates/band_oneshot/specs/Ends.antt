-- What an end knows, and what a step on the word makes of that.
use Rattle.std.specs.Prelude.{◌≡◌, ℕ, Bool, true, false, ◌||◌, ◌==◌, if◌then◌else◌, [], ◌∷◌, ◌++◌, Some, None, is_some}
use Rattle.band_base.specs.declared.waker.Waker.{Waker}
use Rattle.band_oneshot.specs.declared.word.TheConstants.{EMPTY, RECEIVING, AWAKING, MESSAGE, DISCONNECTED, UNREAD}
use Rattle.band_oneshot.specs.declared.state.OneshotState.{OneshotState}
use Rattle.band_oneshot.specs.declared.state.Place.{Place}
use Rattle.band_oneshot.specs.declared.state.Place.TheVariants as place
use Rattle.band_oneshot.specs.declared.state.WakerPlace.{WakerPlace}
use Rattle.band_oneshot.specs.declared.state.WakerPlace.TheVariants as waker
use Rattle.band_oneshot.specs.declared.state.SenderStage.TheVariants as sender
use Rattle.band_oneshot.specs.declared.state.ReceiverStage.TheVariants as receiver
use Rattle.band_oneshot.specs.declared.step.OneshotStep.{OneshotStep}
use Rattle.band_oneshot.specs.declared.step.OneshotStep.TheVariants.{SenderLoad, Add, ExclusiveOr, FinalSwap, ReceiverLoad, Swap, Store, EmptyToReceiving, ReceivingToEmpty, AwakingToDisconnected, EmptyToDisconnected}
use Rattle.band_oneshot.specs.declared.view.Made.{Made}
use Rattle.band_oneshot.specs.declared.view.Sent.{Sent}
use Rattle.band_oneshot.specs.declared.view.Sent.TheVariants as sent
use Rattle.band_oneshot.specs.declared.view.WakerSlot.{WakerSlot}
use Rattle.band_oneshot.specs.declared.view.WakerSlot.TheVariants as slot
use Rattle.band_oneshot.specs.declared.view.SenderView.{SenderView}
use Rattle.band_oneshot.specs.declared.view.ReceiverView.{ReceiverView}
use Rattle.band_oneshot.specs.Stages.{is_idle, is_waiting}
use Rattle.band_oneshot.specs.Sound.{IsSound}

abbrev pub made : OneshotStep → ℕ → Made
made step found = record { step = step; found = found }

-- where the waker is
abbrev pub waker_at : WakerSlot → Bool → WakerPlace
waker_at (slot.Left w) true = waker.Sender w
waker_at (slot.Left w) false = waker.Channel w
waker_at other taken = waker.Nowhere

module _ {T : Type 0} where
  abbrev pub new_receiver : ReceiverView T
  new_receiver = record {
    stage = receiver.Plain;
    message = None;
    waker = slot.Unused;
    word = EMPTY;
    made = [];
  }

  -- the receiver made this step, which found one word and left another
  abbrev pub receiver_made : OneshotStep → ℕ → ℕ → ReceiverView T → ReceiverView T
  receiver_made step found left v = record v { word = left; made = v.made ++ made step found ∷ [] }

  -- the receiver looked at the word
  abbrev pub receiver_looked : ℕ → ReceiverView T → ReceiverView T
  receiver_looked found v = receiver_made (ReceiverLoad false) found found v

  -- the receiver looked at the word for a poll: where it is EMPTY, it takes the slot for the waker to itself
  abbrev pub poll_looked : ℕ → ReceiverView T → ReceiverView T
  poll_looked found v =
      if found == EMPTY then record (receiver_looked found v) { waker = slot.Taken }
      else receiver_looked found v

  -- the receiver looked at the word to cancel
  abbrev pub cancel_looked : ℕ → ReceiverView T → ReceiverView T
  cancel_looked found v =
      let looked = receiver_made (ReceiverLoad true) found found v in
      if (found == MESSAGE) || (found == DISCONNECTED) then record looked { stage = receiver.Ended }
      else record looked { stage = receiver.Cancelling }

  -- the receiver swapped in DISCONNECTED
  abbrev pub swapped : ℕ → ReceiverView T → ReceiverView T
  swapped found v = record (receiver_made Swap found DISCONNECTED v) { stage = receiver.Ended }

  -- the receiver stored DISCONNECTED in the place of MESSAGE
  abbrev pub stored : ReceiverView T → ReceiverView T
  stored v = record (receiver_made Store MESSAGE DISCONNECTED v) { stage = receiver.Plain }

  -- with the step before, which found MESSAGE, the receiver took this message out of its slot
  abbrev pub received : T → ReceiverView T → ReceiverView T
  received message v = record v { message = Some message }

  -- the receiver tried to leave this waker
  abbrev pub left : Waker → ℕ → ReceiverView T → ReceiverView T
  left w found v =
      if found == EMPTY then
      record (receiver_made EmptyToReceiving found RECEIVING v) {
        stage = receiver.Waiting;
        waker = slot.Left w;
      }
      else receiver_made EmptyToReceiving found found v

  -- the receiver tried to have its waker back
  abbrev pub fetched : ℕ → ReceiverView T → ReceiverView T
  fetched found v =
      if found == RECEIVING then record (receiver_made ReceivingToEmpty found EMPTY v) {
        stage = if is_waiting v.stage then receiver.Plain else v.stage;
        waker = slot.Taken;
      } else receiver_made ReceivingToEmpty found found v

  -- the receiver tried to end while the sender has the waker
  abbrev pub awaking_ended : ℕ → ReceiverView T → ReceiverView T
  awaking_ended found v =
      if found == AWAKING then
      record (receiver_made AwakingToDisconnected found DISCONNECTED v) { stage = receiver.Ended }
      else receiver_made AwakingToDisconnected found found v

  -- the receiver tried to end while nothing is there
  abbrev pub empty_ended : ℕ → ReceiverView T → ReceiverView T
  empty_ended found v =
      if found == EMPTY then
      record (receiver_made EmptyToDisconnected found DISCONNECTED v) { stage = receiver.Ended }
      else receiver_made EmptyToDisconnected found found v

  abbrev pub new_sender : SenderView T
  new_sender = record {
    stage = sender.Idle;
    message = sent.Nothing;
    waker = None;
    word = EMPTY;
    made = [];
  }

  -- the sender made this step, which found one word and left another
  abbrev pub sender_made : OneshotStep → ℕ → ℕ → SenderView T → SenderView T
  sender_made step found left v = record v { word = left; made = v.made ++ made step found ∷ [] }

  -- the sender looked at the word
  abbrev pub sender_looked : ℕ → SenderView T → SenderView T
  sender_looked found v = sender_made SenderLoad found found v

  -- the sender added 1 to the word, to send this message, where it didn't find RECEIVING
  abbrev pub added : T → ℕ → SenderView T → SenderView T
  added message found v =
      if found == EMPTY then
      record (sender_made Add found MESSAGE v) { stage = sender.Ended; message = sent.Message message }
      else record (sender_made Add found UNREAD v) { stage = sender.Ended; message = sent.HandedBack }

  -- the sender changed the lowest bit of the word, where it didn't find RECEIVING
  abbrev pub parted : ℕ → SenderView T → SenderView T
  parted found v =
      let left = if found == EMPTY then DISCONNECTED else UNREAD in
      record (sender_made ExclusiveOr found left v) { stage = sender.Ended; message = sent.Gone }

  -- the sender added 1 or changed the lowest bit, found RECEIVING, and took this waker
  abbrev pub awoken : OneshotStep → Bool → Waker → SenderView T → SenderView T
  awoken step sending w v =
      record (sender_made step RECEIVING AWAKING v) { stage = sender.Awaking sending; waker = Some w }

  -- the sender swapped in MESSAGE, to send this message
  abbrev pub sent_finally : T → ℕ → SenderView T → SenderView T
  sent_finally message found v = record (sender_made FinalSwap found MESSAGE v) {
    stage = sender.Ended;
    message = if found == AWAKING then sent.Message message else sent.Gone;
  }

  -- the sender swapped in DISCONNECTED
  abbrev pub parted_finally : ℕ → SenderView T → SenderView T
  parted_finally found v =
      record (sender_made FinalSwap found DISCONNECTED v) { stage = sender.Ended; message = sent.Gone }

  -- where the message is
  abbrev pub message_at : Sent T → Bool → Place
  message_at message true = place.Receiver
  message_at (sent.Message m) false = place.Channel
  message_at sent.Nothing false = place.Sender
  message_at sent.HandedBack false = place.HandedBack
  message_at sent.Gone false = place.Gone

  -- the state of the core that a word and the two ends show
  abbrev pub shown : ℕ → SenderView T → ReceiverView T → OneshotState
  shown word s r = record {
    word = word;
    message = message_at s.message (is_some r.message);
    waker = waker_at r.waker (is_some s.waker);
    sender = s.stage;
    receiver = r.stage;
  }

  -- a waker that the sender took is the one that the receiver left
  abbrev pub Took : SenderView T → ReceiverView T → Type 0
  Took s r = (w : Waker) → s.waker ≡ Some w → r.waker ≡ slot.Left w

  -- a message that the receiver took is the one that the sender put into the channel
  abbrev pub Passed : SenderView T → ReceiverView T → Type 0
  Passed s r = (message : T) → r.message ≡ Some message → s.message ≡ sent.Message message

  -- a word and two ends that can be together
  pub record Agree (word : ℕ) (s : SenderView T) (r : ReceiverView T) : Type 0 where
    pub sound : IsSound (shown word s r)
    pub took : Took s r
    pub passed : Passed s r
    pub idle : is_idle s.stage ≡ true → s.waker ≡ None
