-- What holds of a channel after any run of steps.
use Rattle.std.specs.Prelude.{◌≡◌, ◌≢◌, ℕ, ◌==◌, ◌||◌, IsTrue, ◌⊎◌}
use Rattle.band_oneshot.specs.declared.word.TheConstants.{EMPTY, RECEIVING, AWAKING, MESSAGE, DISCONNECTED}
use Rattle.band_oneshot.specs.declared.state.OneshotState.{OneshotState}
use Rattle.band_oneshot.specs.declared.state.Place.TheVariants as place
use Rattle.band_oneshot.specs.declared.state.SenderStage.TheVariants as sender
use Rattle.band_oneshot.specs.declared.state.ReceiverStage.TheVariants as receiver
use Rattle.band_oneshot.specs.Stages.{is_idle, is_awaking, is_plain, is_waiting, is_registering, is_cancelling, is_left, is_with_sender, is_with_receiver}

-- the word has one of its five values
abbrev pub IsWord : ℕ → Type 0
IsWord word =
    IsTrue ((word == EMPTY) || (word == RECEIVING) || (word == AWAKING) || (word == MESSAGE)
    || (word == DISCONNECTED))

abbrev pub BothEnded : OneshotState → Type 0
BothEnded c = (c.sender ≡ sender.Ended) × (c.receiver ≡ receiver.Ended)

pub record IsSound (c : OneshotState) : Type 0 where
  pub word : IsWord c.word
  -- the word tells where the ends are
  pub receiving : c.word ≡ RECEIVING
      → IsTrue (is_idle c.sender) × IsTrue (is_waiting c.receiver || is_cancelling c.receiver)
      × IsTrue (is_left c.waker)
  pub awaking : c.word ≡ AWAKING
      → IsTrue (is_awaking c.sender) × IsTrue (is_waiting c.receiver || is_cancelling c.receiver)
  pub empty : c.word ≡ EMPTY
      → (IsTrue (is_idle c.sender)
      × IsTrue (is_plain c.receiver || is_registering c.receiver || is_cancelling c.receiver))
      ⊎ BothEnded c
  pub message : c.word ≡ MESSAGE
      → (c.sender ≡ sender.Ended) × (c.receiver ≢ receiver.Ended → c.message ≡ place.Channel)
  pub disconnected : c.word ≡ DISCONNECTED
      → ((c.receiver ≡ receiver.Ended) ⊎ (c.sender ≡ sender.Ended))
      × (IsTrue (is_idle c.sender) → c.receiver ≡ receiver.Ended)
  -- an end tells where the message and the waker are
  pub idle : IsTrue (is_idle c.sender) → c.message ≡ place.Sender
  pub awaking_sender : IsTrue (is_awaking c.sender)
      → (c.message ≡ place.Sender) × IsTrue (is_left c.waker || is_with_sender c.waker)
      × (c.word ≢ AWAKING → (c.word ≡ DISCONNECTED) × (c.receiver ≡ receiver.Ended))
  pub registering : IsTrue (is_registering c.receiver) → IsTrue (is_with_receiver c.waker)
  pub waiting : IsTrue (is_waiting c.receiver) → IsTrue (is_idle c.sender) → c.word ≡ RECEIVING
  -- a message that is there
  pub there : c.message ≡ place.Channel
      → (c.sender ≡ sender.Ended) × ((c.word ≡ MESSAGE) ⊎ (c.word ≡ DISCONNECTED))
