-- What the receiver knows after the parts of a poll.
use Rattle.std.proofs.Common.{◌≡◌, ◌≢◌, ℕ, ◌<◌, true, inl, inr, ◌∷◌, Some, Ok, Err, refl, sym, ap, ◌∙◌, subst, arith}
use Rattle.atomic_table.specs.Table.{rest}
use Rattle.band_base.specs.declared.waker.Waker.{Waker}
use Rattle.band_oneshot.specs.declared.word.TheConstants.{EMPTY, RECEIVING, AWAKING, MESSAGE, DISCONNECTED}
use Rattle.band_oneshot.specs.declared.recv.RecvPoll.{RecvPoll}
use Rattle.band_oneshot.specs.declared.recv.RecvPoll.TheVariants.{Ready, Pending, Again}
use Rattle.band_oneshot.specs.declared.state.ReceiverStage.TheVariants as receiver
use Rattle.band_oneshot.specs.declared.view.Held.TheVariants as held
use Rattle.band_oneshot.specs.declared.view.ReceiverView.{ReceiverView}
use Rattle.band_oneshot.specs.declared.view.View.{View}
use Rattle.band_oneshot.specs.declared.view.View.TheVariants as view
use Rattle.band_oneshot.specs.Calls.{Polls, TurnFails}
use Rattle.band_oneshot.specs.Ends.{left, fetched, poll_looked, cancel_looked, stored, received}
use Rattle.band_oneshot.specs.Kept.Plays.{receiver_of, Leaves}
use Rattle.band_oneshot.specs.Kept.Rule.{Seated}
use Rattle.band_oneshot.specs.Kept.Seats.{MayWait, IsFresh, IsResting}
use Rattle.band_oneshot.specs.Kept.Waits.{Settles, Registers, turns_left}
use Rattle.band_oneshot.specs.Sound.{IsWord}
use Rattle.band_oneshot.specs.Words.{sender_makes}

module _ {T : Type 0} where
  -- an attempt to leave a waker, of which the word was not EMPTY
  pub left_in_vain : (w : Waker) (found : ℕ) (v : ReceiverView T) → found ≢ EMPTY → ((left w found v).stage ≡ v.stage) × ((left w found v).word ≡ found)
  left_in_vain w found v not = (grind arith, grind arith)

pub not_awaking : (last found : ℕ) → last ≡ EMPTY → sender_makes last found ≡ true → found ≢ AWAKING
not_awaking last found empty follows e = grind arith

module _ {T : Type 0} where
  pub receives_of : (x : View T) (v : ReceiverView T) → x ≡ view.Receives v → x ≡ view.Receives (receiver_of x)
  receives_of x v e = e ∙ ap view.Receives (sym (ap receiver_of e))

  pub rests : (m : Seated T) (v : ReceiverView T) → m.0 ≡ view.Receives v → MayWait v → IsFresh v → IsResting m
  rests m v e on fresh = record {
    receives = receives_of m.0 v e;
    stage = subst MayWait (sym (ap receiver_of e)) on;
    fresh = subst IsFresh (sym (ap receiver_of e)) fresh;
  }

  pub left_told : (w : Waker) (old put new : Seated T) (found : ℕ) → put ≡ (old.0, (1, Some (held.Waker w)) ∷ rest old.1) → Leaves put found new
      → (new.0 ≡ view.Receives (left w found (receiver_of old.0))) × (found ≢ EMPTY → new.1 ≡ (1, Some (held.Waker w)) ∷ rest old.1)
  left_told w old put new found has play =
      let told = subst (λ (x : Seated T). Leaves x found new) has play w refl in (told.1, told.3)

  pub registers : (w : Waker) (found : ℕ) (before v now : ReceiverView T) (result : RecvPoll T) → found ≢ AWAKING → v ≡ left w found before
      → Settles w found v result now → Registers w before result now
  registers w found before v now (Ready (Ok message)) not is h =
      h.1 ∙ ap (λ (x : ReceiverView T). received message (stored x)) is ∙ ap (λ (x : ℕ). received message (stored (left w x before))) h.0
  registers w found before v now (Ready (Err error)) not is h = h.1 ∙ is ∙ ap (λ (x : ℕ). left w x before) h.0
  registers w found before v now (Again waker) not is h = absurd (not h.1)
  registers w found before v now Pending not is h = absurd h

  pub polls_empty : (w : Waker) (before now : ReceiverView T) (result : RecvPoll T) → Registers w (poll_looked EMPTY before) result now
      → Polls w before result now
  polls_empty w before now (Ready (Ok message)) h = (left w MESSAGE (poll_looked EMPTY before), inr (inr (inl refl)), h)
  polls_empty w before now (Ready (Err error)) h = inr (inr (inl h))
  polls_empty w before now (Again waker) h = absurd h
  polls_empty w before now Pending h = inl h

  pub polls_again : (w : Waker) (before now : ReceiverView T) (result : RecvPoll T)
      → Registers w (fetched RECEIVING (poll_looked RECEIVING before)) result now → Polls w before result now
  polls_again w before now (Ready (Ok message)) h =
      (left w MESSAGE (fetched RECEIVING (poll_looked RECEIVING before)), inr (inr (inr refl)), h)
  polls_again w before now (Ready (Err error)) h = inr (inr (inr h))
  polls_again w before now (Again waker) h = absurd h
  polls_again w before now Pending h = inr h

  -- what the receiver knows after the looks of a poll
  pub looked_at : (found n : ℕ) (v before : ReceiverView T) (x : View T) → x ≡ view.Receives (poll_looked found v) → found ≡ n → v ≡ before
      → receiver_of x ≡ poll_looked n before
  looked_at found n v before x is e same =
      ap receiver_of is ∙ ap (λ (y : ℕ). poll_looked y v) e ∙ ap (λ (y : ReceiverView T). poll_looked n y) same

  pub fetched_at : (found : ℕ) (v before : ReceiverView T) (x : View T) → x ≡ view.Receives (fetched found v) → found ≡ RECEIVING → v ≡ before
      → receiver_of x ≡ fetched RECEIVING before
  fetched_at found v before x is e same =
      ap receiver_of is ∙ ap (λ (y : ℕ). fetched y v) e ∙ ap (λ (y : ReceiverView T). fetched RECEIVING y) same

pub receiving_left : (found : ℕ) → IsWord found → found ≢ MESSAGE → found ≢ DISCONNECTED → found ≢ EMPTY → found ≢ AWAKING → found ≡ RECEIVING
receiving_left found word m d e a = grind arith

module _ {T : Type 0} where
  -- a turn of a cancel that found RECEIVING
  pub fetching_fails : (found : ℕ) (before now : ReceiverView T) → now ≡ fetched found (cancel_looked RECEIVING before)
      → sender_makes before.word RECEIVING ≡ true → sender_makes RECEIVING found ≡ true
      → TurnFails before now × (now.stage ≡ receiver.Cancelling) × (turns_left now.word < turns_left before.word)
  fetching_fails found before now is follows again = (
    inr (inr (found, is)),
    ap (λ x. x.stage) is ∙ cancelling found before,
    subst (λ (x : ReceiverView T). turns_left x.word < turns_left before.word) (sym is) (fewer found before follows again),
  )
    where
      cancelling : (found : ℕ) (before : ReceiverView T) → (fetched found (cancel_looked RECEIVING before)).stage ≡ receiver.Cancelling
      cancelling found before = grind arith

      was_receiving : (last : ℕ) → sender_makes last RECEIVING ≡ true → last ≡ RECEIVING
      was_receiving last follows = grind arith

      fewer_now : (found : ℕ) (before : ReceiverView T) → sender_makes RECEIVING found ≡ true
          → turns_left (fetched found (cancel_looked RECEIVING before)).word < 3
      fewer_now found before again = grind arith

      fewer : (found : ℕ) (before : ReceiverView T) → sender_makes before.word RECEIVING ≡ true → sender_makes RECEIVING found ≡ true
          → turns_left (fetched found (cancel_looked RECEIVING before)).word < turns_left before.word
      fewer found before follows again = rw (was_receiving before.word follows) (fewer_now found before again)
