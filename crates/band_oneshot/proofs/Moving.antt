-- Where the message, the waker and the word go in a step and in a run.
use Rattle.std.proofs.Common.{◌≡◌, ◌≢◌, IsTrue, ℕ, ◌+◌, ◌≤◌, true, false, ◌&&◌, ◌⊎◌, inl, inr, List, [], ◌∷◌, Some, sym, ◌∙◌, arith}
use Rattle.std.specs.Prelude.{if◌then◌else◌}
use Rattle.std.specs.List.{AllByRecursion}
use Rattle.band_base.specs.declared.waker.Waker.{Waker}
use Rattle.band_oneshot.specs.declared.state.OneshotState.{OneshotState}
use Rattle.band_oneshot.specs.declared.state.Place.{Place}
use Rattle.band_oneshot.specs.declared.state.Place.TheVariants as place
use Rattle.band_oneshot.specs.declared.state.SenderStage.TheVariants as sender
use Rattle.band_oneshot.specs.declared.state.ReceiverStage.TheVariants as receiver
use Rattle.band_oneshot.specs.declared.step.OneshotStep.{OneshotStep}
use Rattle.band_oneshot.specs.declared.step.OneshotStep.TheVariants.{Add, FinalSwap, ReceiverLoad, Swap, PutWaker, TakeBack, TakeMessage}
use Rattle.band_oneshot.specs.declared.word.TheConstants.{EMPTY, RECEIVING, AWAKING, MESSAGE, DISCONNECTED}
use Rattle.band_oneshot.specs.Moves.{MovesMessage, is_place, moves, AddedIsAt, MovesWakerBy, waker_in, Puts, KeepsFoundWords}
use Rattle.band_oneshot.specs.Sound.{IsSound}
use Rattle.band_oneshot.specs.Step.{needs, does, after, after_all}
use Rattle.band_oneshot.specs.Words.{is_senders, is_receivers, sender_makes, receiver_makes}
use Rattle.band_oneshot.proofs.Sound.{IsSound-after}

pub MovesMessage-after : (s : OneshotStep) (c : OneshotState) → IsSound c → MovesMessage c.message (after s c).message
MovesMessage-after s c h = grind arith

pub MovesWakerBy-after : (s : OneshotStep) (c : OneshotState) → MovesWakerBy s c.waker (after s c).waker
MovesWakerBy-after s c = grind arith

pub KeepsFoundWords-after : (s : OneshotStep) (c : OneshotState) → IsSound c → KeepsFoundWords (is_senders s) c (after s c)
KeepsFoundWords-after s c h = record {
  message = λ own e. grind arith;
  no_sender = λ own on e. grind arith;
  no_receiver = λ own idle e. grind arith;
}

-- whether a message that is here can still go from there
left_to_move : Place → Place → ℕ
left_to_move place.Sender place.Sender = 1
left_to_move place.Channel place.Sender = 1
left_to_move place.Channel place.Channel = 1
left_to_move from here = 0

one_move_less : (from to here next : Place) → is_place from to ≡ false → MovesMessage here next
    → (if is_place from here && is_place to next then 1 else 0) + left_to_move from next ≤ left_to_move from here
unfolding left_to_move
one_move_less from to here next e m = grind arith

moves-left : (from to : Place) (steps : List OneshotStep) (c : OneshotState) → IsSound c → is_place from to ≡ false
    → moves from to steps c ≤ left_to_move from c.message
moves-left from to [] c h e = grind arith
moves-left from to (s ∷ rest) c h e =
    let less : (if is_place from c.message && is_place to (after s c).message then 1 else 0) + left_to_move from (after s c).message ≤ left_to_move from c.message =
    one_move_less from to c.message (after s c).message e (MovesMessage-after s c h) in
    let later = moves-left from to rest (after s c) (IsSound-after s c h) e in
    omega (arith, less, later)

left_to_move-one : (from here : Place) → left_to_move from here ≤ 1
unfolding left_to_move
left_to_move-one from here = grind arith

pub moves-once : (from to : Place) (steps : List OneshotStep) (c : OneshotState) → IsSound c → is_place from to ≡ false
    → moves from to steps c ≤ 1
moves-once from to steps c h e = omega (arith, moves-left from to steps c h e, left_to_move-one from c.message)

pub waker_in-after : (s : OneshotStep) (c : OneshotState) (w : Waker) → waker_in (after s c).waker ≡ Some w
    → (waker_in c.waker ≡ Some w) ⊎ (s ≡ PutWaker w)
waker_in-after s c w e = grind arith

pub waker_in-after_all : (steps : List OneshotStep) (c : OneshotState) (w : Waker) → waker_in (after_all steps c).waker ≡ Some w
    → (waker_in c.waker ≡ Some w) ⊎ Puts w steps
waker_in-after_all [] c w e = inl e
waker_in-after_all (s ∷ rest) c w e =
    elim (waker_in-after_all rest (after s c) w e) [
      | inl here ↦ elim (waker_in-after s c w here) [ inl before ↦ inl before | inr put ↦ inr (inl put) ]
      | inr later ↦ inr (inr later)
    ]

-- gone for good
gone-stays : (steps : List OneshotStep) (c : OneshotState) → IsSound c → c.message ≡ place.Gone
    → (after_all steps c).message ≡ place.Gone
gone-stays [] c h e = e
gone-stays (s ∷ rest) c h e =
    let next : (after s c).message ≡ place.Gone =
    gone_next c.message (after s c).message e (MovesMessage-after s c h) in
    gone-stays rest (after s c) (IsSound-after s c h) next
  where
    gone_next : (here next : Place) → here ≡ place.Gone → MovesMessage here next → next ≡ place.Gone
    gone_next here next e m = grind arith

added-goes : (s : OneshotStep) (c : OneshotState) → IsSound c → c.message ≢ place.Gone
    → (c.message ≡ place.Sender → c.sender ≡ sender.Awaking true) → (after s c).message ≡ place.Gone
    → (s ≡ FinalSwap) × IsTrue (needs FinalSwap c) × (c.word ≡ DISCONNECTED)
added-goes s c h here sending gone = (grind arith, grind arith, grind arith)

added-stays : (s : OneshotStep) (c : OneshotState) → IsSound c
    → (c.message ≡ place.Sender → c.sender ≡ sender.Awaking true)
    → (after s c).message ≡ place.Sender → (after s c).sender ≡ sender.Awaking true
added-stays s c h sending there = grind arith

is_gone : (p : Place) → (p ≡ place.Gone) ⊎ (p ≢ place.Gone)
is_gone p = grind arith

added-before : (p : Place) (s : OneshotStep) (rest : List OneshotStep) (c : OneshotState) → AddedIsAt p rest (after s c)
    → AddedIsAt p (s ∷ rest) c
added-before p s rest c h = grind arith

pub AddedIsAt-after_all : (steps : List OneshotStep) (c : OneshotState) → IsSound c → c.message ≢ place.Gone
    → (c.message ≡ place.Sender → c.sender ≡ sender.Awaking true) → AddedIsAt (after_all steps c).message steps c
AddedIsAt-after_all [] c h here sending = nothing_yet c.message c here sending
  where
    nothing_yet : (p : Place) (c : OneshotState) → p ≢ place.Gone → (p ≡ place.Sender → c.sender ≡ sender.Awaking true)
        → AddedIsAt p [] c
    nothing_yet p c here sending = grind arith
AddedIsAt-after_all (s ∷ rest) c h here sending =
    elim (is_gone (after s c).message) [
      | inl gone ↦ rw (gone-stays rest (after s c) (IsSound-after s c h) gone) (inl (added-goes s c h here sending gone))
      | inr on ↦ added-before _ s rest c
          (AddedIsAt-after_all rest (after s c) (IsSound-after s c h) on (added-stays s c h sending))
    ]

-- right after the sender added 1
added-now : (c : OneshotState) → IsSound c → needs Add c ≡ true
    → IsSound (does Add c) × ((does Add c).message ≢ place.Gone) × ((does Add c).message ≡ place.Sender → (does Add c).sender ≡ sender.Awaking true)
added-now c h n = grind arith

pub added_message : (steps : List OneshotStep) (c : OneshotState) → IsSound c → needs Add c ≡ true
    → AddedIsAt (after_all steps (does Add c)).message steps (does Add c)
added_message steps c h n = let now = added-now c h n in AddedIsAt-after_all steps (does Add c) now.0 now.1 now.2

sender_swap : (c : OneshotState) → IsSound c → c.receiver ≢ receiver.Ended
    → sender_makes c.word (after FinalSwap c).word ≡ true
sender_swap c h on = grind arith

sender_step : (s : OneshotStep) (c : OneshotState) → is_senders s ≡ true → IsSound c → c.receiver ≢ receiver.Ended
    → sender_makes c.word (after s c).word ≡ true
sender_step FinalSwap c own h on = sender_swap c h on
sender_step s c own h on = grind arith

pub sender_makes-same : (x y : ℕ) → y ≡ x → sender_makes x y ≡ true
sender_makes-same x y e = grind arith

sender_only : (s : OneshotStep) (c : OneshotState) → is_senders s ≡ true → (after s c).receiver ≡ c.receiver
sender_only s c own = grind arith

-- the three ways in which the sender makes a word
sender_ways : (x y : ℕ) → sender_makes x y ≡ true
    → (y ≡ x) ⊎ (((x ≡ RECEIVING) × (y ≡ AWAKING)) ⊎ ((y ≡ MESSAGE) ⊎ (y ≡ DISCONNECTED)))
sender_ways x y p = grind arith

sender_keeps : (y z : ℕ) → (y ≡ MESSAGE) ⊎ (y ≡ DISCONNECTED) → sender_makes y z ≡ true → z ≡ y
sender_keeps y z (inl m) q = message_stays z (rw m at q) ∙ sym m
  where
    message_stays : (z : ℕ) → sender_makes MESSAGE z ≡ true → z ≡ MESSAGE
    message_stays z q = grind arith
sender_keeps y z (inr d) q = disconnected_stays z (rw d at q) ∙ sym d
  where
    disconnected_stays : (z : ℕ) → sender_makes DISCONNECTED z ≡ true → z ≡ DISCONNECTED
    disconnected_stays z q = grind arith

pub sender_makes-trans : (x y z : ℕ) → sender_makes x y ≡ true → sender_makes y z ≡ true → sender_makes x z ≡ true
sender_makes-trans x y z p q =
    elim (sender_ways x y p) [
      | inl same ↦ rw same at q
      | inr (inl woken) ↦ rw woken.0 (awaking_next z (rw woken.1 at q))
      | inr (inr last) ↦ rw (sender_keeps y z last q) p
    ]
  where
    awaking_next : (z : ℕ) → sender_makes AWAKING z ≡ true → sender_makes RECEIVING z ≡ true
    awaking_next z q = grind arith

pub sender_makes-after_all : (steps : List OneshotStep) (c : OneshotState) → AllByRecursion (λ s. is_senders s ≡ true) steps
    → IsSound c → c.receiver ≢ receiver.Ended → sender_makes c.word (after_all steps c).word ≡ true
sender_makes-after_all [] c own h on = grind arith
sender_makes-after_all (s ∷ rest) c own h on =
    sender_makes-trans c.word (after s c).word (after_all rest (after s c)).word (sender_step s c own.0 h on)
    (sender_makes-after_all rest (after s c) own.1 (IsSound-after s c h) (λ e. on (sym (sender_only s c own.0) ∙ e)))

pub receiver_makes-same : (x y : ℕ) → y ≡ x → receiver_makes x y ≡ true
receiver_makes-same x y e = grind arith

receiver_step : (s : OneshotStep) (c : OneshotState) → is_receivers s ≡ true → IsSound c → c.sender ≢ sender.Ended
    → receiver_makes c.word (after s c).word ≡ true
receiver_step (ReceiverLoad x) c own h on = receiver_makes-same c.word (after (ReceiverLoad x) c).word (grind arith)
receiver_step (PutWaker w) c own h on = receiver_makes-same c.word (after (PutWaker w) c).word (grind arith)
receiver_step TakeBack c own h on = receiver_makes-same c.word (after TakeBack c).word (grind arith)
receiver_step TakeMessage c own h on = receiver_makes-same c.word (after TakeMessage c).word (grind arith)
receiver_step Swap c own h on = grind arith
receiver_step s c own h on = grind arith

receiver_only : (s : OneshotStep) (c : OneshotState) → is_receivers s ≡ true → (after s c).sender ≡ c.sender
receiver_only s c own = grind arith

-- the four ways in which the receiver makes a word
receiver_ways : (x y : ℕ) → receiver_makes x y ≡ true
    → (y ≡ x) ⊎ (((x ≡ EMPTY) × (y ≡ RECEIVING)) ⊎ (((x ≡ RECEIVING) × (y ≡ EMPTY)) ⊎ (y ≡ DISCONNECTED)))
receiver_ways x y p = grind arith

pub receiver_makes-trans : (x y z : ℕ) → receiver_makes x y ≡ true → receiver_makes y z ≡ true → receiver_makes x z ≡ true
receiver_makes-trans x y z p q =
    elim (receiver_ways x y p) [
      | inl same ↦ rw same at q
      | inr (inl left) ↦ rw left.0 (receiving_next z (rw left.1 at q))
      | inr (inr (inl fetched)) ↦ rw fetched.0 (empty_next z (rw fetched.1 at q))
      | inr (inr (inr last)) ↦ rw (disconnected_stays z (rw last at q) ∙ sym last) p
    ]
  where
    receiving_next : (z : ℕ) → receiver_makes RECEIVING z ≡ true → receiver_makes EMPTY z ≡ true
    receiving_next z q = grind arith

    empty_next : (z : ℕ) → receiver_makes EMPTY z ≡ true → receiver_makes RECEIVING z ≡ true
    empty_next z q = grind arith

    disconnected_stays : (z : ℕ) → receiver_makes DISCONNECTED z ≡ true → z ≡ DISCONNECTED
    disconnected_stays z q = grind arith

pub receiver_makes-after_all : (steps : List OneshotStep) (c : OneshotState) → AllByRecursion (λ s. is_receivers s ≡ true) steps
    → IsSound c → c.sender ≢ sender.Ended → receiver_makes c.word (after_all steps c).word ≡ true
receiver_makes-after_all [] c own h on = grind arith
receiver_makes-after_all (s ∷ rest) c own h on =
    receiver_makes-trans c.word (after s c).word (after_all rest (after s c)).word (receiver_step s c own.0 h on)
    (receiver_makes-after_all rest (after s c) own.1 (IsSound-after s c h) (λ e. on (sym (receiver_only s c own.0) ∙ e)))
