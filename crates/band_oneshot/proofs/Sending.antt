-- What the sender knows after it added 1.
use Rattle.std.proofs.Common.{◌≡◌, ◌≢◌, ℕ, Bool, true, List, [], ◌∷◌, ◌++◌, Some, None, refl, sym, ap, ◌∙◌, subst, arith}
use Rattle.std.specs.Prelude.{if◌then◌else◌}
use Rattle.atomic_table.specs.Table.{rest}
use Rattle.band_base.specs.declared.waker.Waker.{Waker}
use Rattle.band_oneshot.specs.declared.word.TheConstants.{EMPTY, RECEIVING, AWAKING, DISCONNECTED}
use Rattle.band_oneshot.specs.declared.step.OneshotStep.TheVariants.{Add}
use Rattle.band_oneshot.specs.declared.view.Held.TheVariants as held
use Rattle.band_oneshot.specs.declared.view.Sent.TheVariants as sent
use Rattle.band_oneshot.specs.declared.view.SenderView.{SenderView}
use Rattle.band_oneshot.specs.declared.view.View.{View}
use Rattle.band_oneshot.specs.declared.view.View.TheVariants as view
use Rattle.band_oneshot.specs.Ends.{added, awoken, sent_finally}
use Rattle.band_oneshot.specs.Kept.Plays.{sender_of, Adds}
use Rattle.band_oneshot.specs.Kept.Rule.{Slot, Seated}
use Rattle.band_oneshot.specs.Kept.Seats.{IsIdleWord, IsSending}
use Rattle.band_oneshot.proofs.Slots.{begins_with, same_waker}

pub late : (found : ℕ) → IsIdleWord found → found ≢ EMPTY → found ≢ RECEIVING → found ≡ DISCONNECTED
late found words not_empty not_receiving = grind arith

module _ {T : Type 0} (message : T) (before : SenderView T) (old put new : Seated T) (found : ℕ) (view_is : sender_of old.0 ≡ before)
    (has : put ≡ (old.0, (0, Some (held.Message message)) ∷ [])) (play : Adds put found new) where
  pub added_empty : found ≡ EMPTY → new.0 ≡ view.Sends (added message EMPTY before)
  added_empty e =
      let told = subst (λ (x : Seated T). Adds x found new) has play message refl in
      let not_receiving : found ≢ RECEIVING = λ r. absurd (omega arith) in
      told.2 not_receiving ∙ ap (λ (x : ℕ). view.Sends (added message x (sender_of old.0))) e
      ∙ ap (λ (x : SenderView T). view.Sends (added message EMPTY x)) view_is

  pub added_waiting : found ≡ RECEIVING
      → (w : Waker) × (new ≡ (view.Sends (awoken Add true w before), (1, Some (held.Waker w)) ∷ (0, Some (held.Message message)) ∷ []))
  added_waiting e =
      let told = subst (λ (x : Seated T). Adds x found new) has play message refl in
      let awoke = told.1 e in (
        awoke.0,
        awoke.1
            ∙ ap (λ (x : SenderView T). (view.Sends (awoken Add true awoke.0 x), (1, Some (held.Waker awoke.0)) ∷ (0, Some (held.Message message)) ∷ [])) view_is,
      )

  pub added_late : found ≡ DISCONNECTED
      → (new.0 ≡ view.Sends (added message DISCONNECTED before)) × (new.1 ≡ (0, Some (held.Message message)) ∷ [])
  added_late e =
      let told = subst (λ (x : Seated T). Adds x found new) has play message refl in
      let not_receiving : found ≢ RECEIVING = λ r. absurd (omega arith) in (
        told.2 not_receiving ∙ ap (λ (x : ℕ). view.Sends (added message x (sender_of old.0))) e
            ∙ ap (λ (x : SenderView T). view.Sends (added message DISCONNECTED x)) view_is,
        told.3 e,
      )

module _ {T : Type 0} where
  -- the waker that was taken out of its slot is the one that was there
  pub awoken_after : (f : Waker → View T) (found taken : Waker) (c : List (ℕ × Slot T)) (new after : Seated T)
      → new ≡ (f found, (1, Some (held.Waker found)) ∷ c) → new.1 ≡ (1, Some (held.Waker taken)) ∷ rest new.1
      → after ≡ (new.0, rest new.1 ++ (1, None) ∷ []) → after ≡ (f taken, c ++ (1, None) ∷ [])
  awoken_after f found taken c new after is slot left =
      let same = same_waker new.1 c (rest new.1) found taken (ap (λ x. x.1) is) slot in
      left ∙ ap (λ (x : Seated T). (x.0, rest x.1 ++ (1, None) ∷ [])) is ∙ ap (λ (w : Waker). (f w, c ++ (1, None) ∷ [])) same

  -- a sender that took this waker has its message in the slot
  pub is_sending : (w : Waker) (message : T) (before : SenderView T) (me : Seated T) → before.message ≡ sent.Nothing
      → me ≡ (view.Sends (awoken Add true w before), (0, Some (held.Message message)) ∷ (1, None) ∷ []) → IsSending me
  is_sending w message before me none_yet is = subst IsSending (sym is) (record {
    waker = w;
    awaking = record { sends = refl; stage = refl; message = none_yet; waker = refl };
    message = message;
    slot = refl;
  })

  -- what a sender that took this waker knows after its final swap
  pub sent_last : (message : T) (w : Waker) (before : SenderView T) (me : Seated T) (woken : Bool) (spent : View T)
      → me ≡ (view.Sends (awoken Add true w before), (0, Some (held.Message message)) ∷ (1, None) ∷ [])
      → ((m : T) → me.1 ≡ (0, Some (held.Message m)) ∷ rest me.1
      → spent ≡ view.Sends (sent_finally m (if woken then AWAKING else DISCONNECTED) (sender_of me.0)))
      → spent ≡ view.Sends (sent_finally message (if woken then AWAKING else DISCONNECTED) (awoken Add true w before))
  sent_last message w before me woken spent is told =
      told message (begins_with me.1 _ _ (ap (λ x. x.1) is))
      ∙ ap (λ (x : Seated T). view.Sends (sent_finally message (if woken then AWAKING else DISCONNECTED) (sender_of x.0))) is
