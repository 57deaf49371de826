-- Each step of the sender keeps the rule of its channel, and tells what it tells.
use Rattle.std.proofs.Common.{◌≡◌, ◌≢◌, ℕ, Bool, Option, ◌+◌, ◌%◌, ◌^◌, true, false, ◌⊎◌, inl, inr, List, [], ◌∷◌, Some, None, refl, sym, ap, ◌∙◌, subst, arith}
use Rattle.std.specs.Prelude.{is_some, bit_xor}
use mathlib.Core.Option.{some, none}
use mathlib.Core.Option.{Option as Home}
use Rattle.atomic_table.specs.Table.{keeps, takes, gives, rest, Allows}
use Rattle.band_base.specs.declared.waker.Waker.{Waker}
use Rattle.band_oneshot.specs.declared.word.TheConstants.{EMPTY, RECEIVING, AWAKING, MESSAGE, DISCONNECTED, UNREAD}
use Rattle.band_oneshot.specs.declared.state.SenderStage.TheVariants as sender
use Rattle.band_oneshot.specs.declared.step.OneshotStep.TheVariants.{SenderLoad, Add, ExclusiveOr, FinalSwap}
use Rattle.band_oneshot.specs.declared.view.Held.TheVariants as held
use Rattle.band_oneshot.specs.declared.view.Sent.{Sent}
use Rattle.band_oneshot.specs.declared.view.Sent.TheVariants as sent
use Rattle.band_oneshot.specs.declared.view.WakerSlot.{WakerSlot}
use Rattle.band_oneshot.specs.declared.view.WakerSlot.TheVariants as slot
use Rattle.band_oneshot.specs.declared.view.SenderView.{SenderView}
use Rattle.band_oneshot.specs.declared.view.ReceiverView.{ReceiverView}
use Rattle.band_oneshot.specs.declared.view.View.{View}
use Rattle.band_oneshot.specs.declared.view.View.TheVariants as view
use Rattle.band_oneshot.specs.Ends.{Agree, waker_at, sender_looked, added, parted, awoken, sent_finally, parted_finally}
use Rattle.band_oneshot.specs.Kept.Plays.{sender_of, SenderLooks, Adds, Parts, SendsFinally, PartsFinally, SenderFinds}
use Rattle.band_oneshot.specs.Kept.Rule.{Slot, Seated, message_home, waker_home, Kept, ObeysRule}
use Rattle.band_oneshot.specs.Runs.{counts_as, SenderRuns}
use Rattle.band_oneshot.specs.Kept.Seats.{IsIdleWord, IsIdle, IsAwaking}
use Rattle.band_oneshot.specs.Stages.{is_left}
use Rattle.band_oneshot.proofs.Slots.{same_message}
use Rattle.band_oneshot.proofs.Acting.{equal_or_not, apart, SenderActs, sender_allows, sender_kept}
use Rattle.band_oneshot.proofs.Showing.{sender_looks, adds, adds_receiving, parts, parts_receiving, sends_finally, parts_finally}

pub left_there : (x : WakerSlot) (taken : Bool) → is_left (waker_at x taken) ≡ true → (w : Waker) × (x ≡ slot.Left w) × (taken ≡ false)
left_there (slot.Left w) true e = cc
left_there (slot.Left w) false e = (w, refl, refl)
left_there slot.Unused taken e = cc
left_there slot.Taken taken e = cc

module _ {T : Type 0} where
  -- what a sender that is idle knows
  record Idle (v : SenderView T) : Type 0 where
    pub stage : v.stage ≡ sender.Idle
    pub message : v.message ≡ sent.Nothing
    pub waker : v.waker ≡ None

  idle_in : (m : Seated T) → IsIdle m → Idle (sender_of m.0)
  idle_in m h = record { stage = h.stage; message = h.message; waker = h.waker }

  pub idle_words : (word : ℕ) (v : SenderView T) (r : ReceiverView T) → Agree word v r → v.stage ≡ sender.Idle → IsIdleWord word
  idle_words word v r h idle = grind arith

  not_received : (word : ℕ) (v : SenderView T) (r : ReceiverView T) → Agree word v r → v.stage ≡ sender.Idle → is_some r.message ≡ false
  not_received word v r h idle = grind arith

  waker_left : (v : SenderView T) (r : ReceiverView T) → Agree RECEIVING v r → is_left (waker_at r.waker (is_some v.waker)) ≡ true
  waker_left v r h = grind arith

  finds : (word : ℕ) (h0 h1 : Home (Slot T)) (v : SenderView T) (r : ReceiverView T) → Kept word h0 h1 v r → v.stage ≢ sender.Ended
      → SenderFinds word v
  finds word h0 h1 v r k on = record { receiver = r; agree = k.agree; follows = k.found_by_sender on }

  pub sender_looks_allows : (slots id : ℕ) (m : Seated T) → IsIdle m → Allows ObeysRule slots id m 0 (λ n. n) (SenderLooks m)
  sender_looks_allows slots id m idle =
      subst (λ (x : Seated T). Allows ObeysRule slots id x 0 (λ n. n) (SenderLooks x)) (λ i. (sym idle.sends i, m.1))
      (sender_allows (λ n. n) (SenderLooks (view.Sends v, c)) slots id (view.Sends v, c) v refl acts)
    where
      v : SenderView T
      v = sender_of m.0

      c : List (ℕ × Slot T)
      c = m.1

      acts : (word : ℕ) → SenderActs (λ n. n) (SenderLooks (view.Sends v, c)) v c word
      acts word h0 h1 r k = (
        sender_looked word v,
        keeps,
        tt,
        sender_kept (counts_as SenderLoad word) word word h0 h1 h0 h1 v (sender_looked word v) r (refl, tt) k
            (sender_looks word v idle.stage) refl (inl refl) k.agree.took k.agree.idle k.message k.waker,
        (finds word h0 h1 v r k (λ e. cc), refl),
      )

  -- the seat of a sender that has the message in its slot
  abbrev with_message : T → List (ℕ × Slot T)
  with_message message = (0, Some (held.Message message)) ∷ []

  -- the slot of a waker that was left, and of a message that was not sent
  module _ (h0 h1 : Home (Slot T)) (v : SenderView T) (r : ReceiverView T) (k : Kept RECEIVING h0 h1 v r) (none_yet : v.waker ≡ None) where
    abbrev Left : Type 0
    Left = (w : Waker) × (r.waker ≡ slot.Left w) × (h1 ≡ some (Some (held.Waker w)))

    left : Left
    left = let there = left_there r.waker (is_some v.waker) (waker_left v r k.agree) in
        (there.0, there.1, k.waker ∙ at_home r.waker there.0 v.waker there.1 none_yet)
      where
        at_home : (x : WakerSlot) (w : Waker) (o : Option Waker) → x ≡ slot.Left w → o ≡ None
            → waker_home {T = T} x (is_some o) ≡ some (Some (held.Waker w))
        at_home x w o e n = grind arith

  gone_home : (w : Waker) (x : WakerSlot) → x ≡ slot.Left w → none ≡ waker_home {T = T} x true
  gone_home w x e = grind arith

  module _ (message : T) (v : SenderView T) (idle : Idle v) where
    abbrev AddActs : ℕ → Type 0
    AddActs word = SenderActs (λ n. (n + 1) % 2 ^ 64) (Adds (view.Sends v, with_message message)) v (with_message message) word

    adds_empty : AddActs EMPTY
    adds_empty h0 h1 r k = (
      added message EMPTY v,
      gives,
      tt,
      sender_kept (counts_as Add EMPTY) EMPTY MESSAGE h0 h1 (some (Some (held.Message message))) h1 v (added message EMPTY v) r (refl, tt) k
          (adds message EMPTY v refl idle.stage idle.message idle.waker) refl (inr idle.message) k.agree.took (λ e. cc)
          (rw (not_received EMPTY v r k.agree idle.stage) refl) k.waker,
      (λ m e. let same = same_message _ _ _ message m refl e in (
        finds EMPTY h0 h1 v r k (λ e. cc),
        (λ e. absurd (omega arith)),
        (λ e. ap (λ (x : T). view.Sends (added x EMPTY v)) same),
        (λ e. absurd (omega arith)),
      )),
    )

    adds_waiting : AddActs RECEIVING
    adds_waiting h0 h1 r k = let there = left h0 h1 v r k idle.waker in (
      awoken Add true there.0 v,
      takes 1 (Some (held.Waker there.0)),
      ap some there.2,
      sender_kept (counts_as Add RECEIVING) RECEIVING AWAKING h0 h1 h0 none v (awoken Add true there.0 v) r (refl, (refl, tt)) k
          (adds_receiving there.0 v idle.stage idle.message idle.waker) refl (inr idle.message) (λ w e. let same : there.0 ≡ w = cc in there.1 ∙ ap slot.Left same) (λ e. cc)
          k.message (gone_home there.0 r.waker there.1),
      (λ m e. (
        finds RECEIVING h0 h1 v r k (λ e. cc),
        (λ e. (there.0, refl)),
        (λ not. absurd (not refl)),
        (λ e. absurd (omega arith)),
      )),
    )

    adds_disconnected : AddActs DISCONNECTED
    adds_disconnected h0 h1 r k = (
      added message DISCONNECTED v,
      keeps,
      tt,
      sender_kept (counts_as Add DISCONNECTED) DISCONNECTED UNREAD h0 h1 h0 h1 v (added message DISCONNECTED v) r (refl, tt) k
          (adds message DISCONNECTED v refl idle.stage idle.message idle.waker) refl (inr idle.message) k.agree.took (λ e. cc)
          (k.message ∙ ap (λ (x : Sent T). message_home x (is_some r.message)) idle.message) k.waker,
      (λ m e. (
        finds DISCONNECTED h0 h1 v r k (λ e. cc),
        (λ e. absurd (omega arith)),
        (λ e. refl),
        (λ e. refl),
      )),
    )

    add_acts : (word : ℕ) → AddActs word
    add_acts word h0 h1 r k = elim (idle_words word v r k.agree idle.stage) [
      | inl e ↦ subst AddActs (sym e) adds_empty h0 h1 r k
      | inr (inl e) ↦ subst AddActs (sym e) adds_waiting h0 h1 r k
      | inr (inr e) ↦ subst AddActs (sym e) adds_disconnected h0 h1 r k
    ]

  pub adds_allows : (slots id : ℕ) (m : Seated T) (message : T) → IsIdle m → m.1 ≡ with_message message
      → Allows ObeysRule slots id m 0 (λ n. (n + 1) % 2 ^ 64) (Adds m)
  adds_allows slots id m message idle slot =
      subst (λ (x : Seated T). Allows ObeysRule slots id x 0 (λ n. (n + 1) % 2 ^ 64) (Adds x)) (λ i. (sym idle.sends i, sym slot i))
      (sender_allows (λ n. (n + 1) % 2 ^ 64) (Adds (view.Sends (sender_of m.0), with_message message)) slots id
      (view.Sends (sender_of m.0), with_message message) (sender_of m.0) refl (add_acts message (sender_of m.0) (idle_in m idle)))

  pub adds_core : (m n : Seated T) (found : ℕ) (message : T) → IsIdle m → m.1 ≡ with_message message → Adds m found n
      → SenderRuns (counts_as Add found) found (sender_of m.0) (sender_of n.0)
  adds_core m n found message idle slot play = let told = play message slot in
      elim (equal_or_not found RECEIVING) [
        | inl e ↦ let awoke = told.1 e in
            subst (λ (x : ℕ). SenderRuns (counts_as Add x) x (sender_of m.0) (sender_of n.0)) (sym e)
            (subst (λ (x : Seated T). SenderRuns (counts_as Add RECEIVING) RECEIVING (sender_of m.0) (sender_of x.0)) (sym awoke.1)
            (adds_receiving awoke.0 (sender_of m.0) idle.stage idle.message idle.waker))
        | inr other ↦
            subst (λ (x : View T). SenderRuns (counts_as Add found) found (sender_of m.0) (sender_of x)) (sym (told.2 (apart found RECEIVING other)))
            (adds message found (sender_of m.0) other idle.stage idle.message idle.waker)
      ]

  module _ (v : SenderView T) (c : List (ℕ × Slot T)) (idle : Idle v) where
    abbrev PartActs : ℕ → Type 0
    PartActs word = SenderActs (λ n. bit_xor n 1) (Parts (view.Sends v, c)) v c word

    parts_empty : PartActs EMPTY
    parts_empty h0 h1 r k = (
      parted EMPTY v,
      keeps,
      tt,
      sender_kept (counts_as ExclusiveOr EMPTY) EMPTY DISCONNECTED h0 h1 h0 h1 v (parted EMPTY v) r (refl, tt) k
          (parts EMPTY v refl idle.stage idle.message idle.waker) refl (inr idle.message) k.agree.took (λ e. cc)
          (k.message ∙ ap (λ (x : Sent T). message_home x (is_some r.message)) idle.message) k.waker,
      (finds EMPTY h0 h1 v r k (λ e. cc), (λ e. absurd (omega arith)), (λ e. refl)),
    )

    parts_waiting : PartActs RECEIVING
    parts_waiting h0 h1 r k = let there = left h0 h1 v r k idle.waker in (
      awoken ExclusiveOr false there.0 v,
      takes 1 (Some (held.Waker there.0)),
      ap some there.2,
      sender_kept (counts_as ExclusiveOr RECEIVING) RECEIVING AWAKING h0 h1 h0 none v (awoken ExclusiveOr false there.0 v) r (refl, (refl, tt)) k
          (parts_receiving there.0 v idle.stage idle.message idle.waker) refl (inr idle.message) (λ w e. let same : there.0 ≡ w = cc in there.1 ∙ ap slot.Left same) (λ e. cc)
          k.message (gone_home there.0 r.waker there.1),
      (finds RECEIVING h0 h1 v r k (λ e. cc), (λ e. (there.0, refl)), (λ not. absurd (not refl))),
    )

    parts_disconnected : PartActs DISCONNECTED
    parts_disconnected h0 h1 r k = (
      parted DISCONNECTED v,
      keeps,
      tt,
      sender_kept (counts_as ExclusiveOr DISCONNECTED) DISCONNECTED UNREAD h0 h1 h0 h1 v (parted DISCONNECTED v) r (refl, tt) k
          (parts DISCONNECTED v refl idle.stage idle.message idle.waker) refl (inr idle.message) k.agree.took (λ e. cc)
          (k.message ∙ ap (λ (x : Sent T). message_home x (is_some r.message)) idle.message) k.waker,
      (finds DISCONNECTED h0 h1 v r k (λ e. cc), (λ e. absurd (omega arith)), (λ e. refl)),
    )

    part_acts : (word : ℕ) → PartActs word
    part_acts word h0 h1 r k = elim (idle_words word v r k.agree idle.stage) [
      | inl e ↦ subst PartActs (sym e) parts_empty h0 h1 r k
      | inr (inl e) ↦ subst PartActs (sym e) parts_waiting h0 h1 r k
      | inr (inr e) ↦ subst PartActs (sym e) parts_disconnected h0 h1 r k
    ]

  pub parts_allows : (slots id : ℕ) (m : Seated T) → IsIdle m → Allows ObeysRule slots id m 0 (λ n. bit_xor n 1) (Parts m)
  parts_allows slots id m idle =
      subst (λ (x : Seated T). Allows ObeysRule slots id x 0 (λ n. bit_xor n 1) (Parts x)) (λ i. (sym idle.sends i, m.1))
      (sender_allows (λ n. bit_xor n 1) (Parts (view.Sends (sender_of m.0), m.1)) slots id (view.Sends (sender_of m.0), m.1) (sender_of m.0) refl
      (part_acts (sender_of m.0) m.1 (idle_in m idle)))

  -- what a sender that took this waker knows
  record Awaking (sending : Bool) (w : Waker) (v : SenderView T) : Type 0 where
    pub stage : v.stage ≡ sender.Awaking sending
    pub message : v.message ≡ sent.Nothing
    pub waker : v.waker ≡ Some w

  awaking_in : (sending : Bool) (w : Waker) (m : Seated T) → IsAwaking sending w m → Awaking sending w (sender_of m.0)
  awaking_in sending w m h = record { stage = h.stage; message = h.message; waker = h.waker }

  pub awaking_words : (sending : Bool) (word : ℕ) (v : SenderView T) (r : ReceiverView T) → Agree word v r → v.stage ≡ sender.Awaking sending
      → (word ≡ AWAKING) ⊎ (word ≡ DISCONNECTED)
  awaking_words sending word v r h awaking = grind arith

  not_yet_received : (sending : Bool) (word : ℕ) (v : SenderView T) (r : ReceiverView T) → Agree word v r → v.stage ≡ sender.Awaking sending
      → is_some r.message ≡ false
  not_yet_received sending word v r h awaking = grind arith

  module _ (message : T) (c : List (ℕ × Slot T)) (w : Waker) (v : SenderView T) (awaking : Awaking true w v) where
    abbrev SendActs : ℕ → Type 0
    SendActs word = SenderActs (λ _. MESSAGE) (SendsFinally (view.Sends v, (0, Some (held.Message message)) ∷ c)) v ((0, Some (held.Message message)) ∷ c) word

    sends_to_receiver : SendActs AWAKING
    sends_to_receiver h0 h1 r k = (
      sent_finally message AWAKING v,
      gives,
      tt,
      sender_kept (counts_as FinalSwap AWAKING) AWAKING MESSAGE h0 h1 (some (Some (held.Message message))) h1 v (sent_finally message AWAKING v) r (refl, tt) k
          (sends_finally message AWAKING v w awaking.stage awaking.message awaking.waker) refl (inr awaking.message) k.agree.took (λ e. cc)
          (rw (not_yet_received true AWAKING v r k.agree awaking.stage) refl) k.waker,
      (λ m e. let same = same_message _ _ _ message m refl e in (
        finds AWAKING h0 h1 v r k (λ e. cc),
        ap (λ (x : T). view.Sends (sent_finally x AWAKING v)) same,
        (λ e. absurd (omega arith)),
      )),
    )

    sends_to_nobody : SendActs DISCONNECTED
    sends_to_nobody h0 h1 r k = (
      sent_finally message DISCONNECTED v,
      keeps,
      tt,
      sender_kept (counts_as FinalSwap DISCONNECTED) DISCONNECTED MESSAGE h0 h1 h0 h1 v (sent_finally message DISCONNECTED v) r (refl, tt) k
          (sends_finally message DISCONNECTED v w awaking.stage awaking.message awaking.waker) refl (inr awaking.message) k.agree.took (λ e. cc)
          (k.message ∙ ap (λ (x : Sent T). message_home x (is_some r.message)) awaking.message) k.waker,
      (λ m e. (finds DISCONNECTED h0 h1 v r k (λ e. cc), refl, (λ e. refl))),
    )

    send_acts : (word : ℕ) → SendActs word
    send_acts word h0 h1 r k = elim (awaking_words true word v r k.agree awaking.stage) [
      | inl e ↦ subst SendActs (sym e) sends_to_receiver h0 h1 r k
      | inr e ↦ subst SendActs (sym e) sends_to_nobody h0 h1 r k
    ]

  pub sends_finally_allows : (slots id : ℕ) (m : Seated T) (message : T) (c : List (ℕ × Slot T)) (w : Waker) → IsAwaking true w m
      → m.1 ≡ (0, Some (held.Message message)) ∷ c → Allows ObeysRule slots id m 0 (λ _. MESSAGE) (SendsFinally m)
  sends_finally_allows slots id m message c w awaking slot =
      subst (λ (x : Seated T). Allows ObeysRule slots id x 0 (λ _. MESSAGE) (SendsFinally x)) (λ i. (sym awaking.sends i, sym slot i))
      (sender_allows (λ _. MESSAGE) (SendsFinally (view.Sends (sender_of m.0), (0, Some (held.Message message)) ∷ c)) slots id
      (view.Sends (sender_of m.0), (0, Some (held.Message message)) ∷ c) (sender_of m.0) refl
      (send_acts message c w (sender_of m.0) (awaking_in true w m awaking)))

  pub sends_finally_core : (m n : Seated T) (found : ℕ) (message : T) (w : Waker) → IsAwaking true w m
      → m.1 ≡ (0, Some (held.Message message)) ∷ rest m.1 → SendsFinally m found n
      → SenderRuns (counts_as FinalSwap found) found (sender_of m.0) (sender_of n.0)
  sends_finally_core m n found message w awaking slot play =
      subst (λ (x : View T). SenderRuns (counts_as FinalSwap found) found (sender_of m.0) (sender_of x)) (sym (play message slot).1)
      (sends_finally message found (sender_of m.0) w awaking.stage awaking.message awaking.waker)

  pub parts_finally_allows : (slots id : ℕ) (m : Seated T) (w : Waker) → IsAwaking false w m
      → Allows ObeysRule slots id m 0 (λ _. DISCONNECTED) (PartsFinally m)
  parts_finally_allows slots id m w awaking =
      subst (λ (x : Seated T). Allows ObeysRule slots id x 0 (λ _. DISCONNECTED) (PartsFinally x)) (λ i. (sym awaking.sends i, m.1))
      (sender_allows (λ _. DISCONNECTED) (PartsFinally (view.Sends v, c)) slots id (view.Sends v, c) v refl acts)
    where
      v : SenderView T
      v = sender_of m.0

      c : List (ℕ × Slot T)
      c = m.1

      acts : (word : ℕ) → SenderActs (λ _. DISCONNECTED) (PartsFinally (view.Sends v, c)) v c word
      acts word h0 h1 r k = (
        parted_finally word v,
        keeps,
        tt,
        sender_kept (counts_as FinalSwap word) word DISCONNECTED h0 h1 h0 h1 v (parted_finally word v) r (refl, tt) k
            (parts_finally word v w awaking.stage awaking.message awaking.waker) refl (inr awaking.message) k.agree.took (λ e. cc)
            (k.message ∙ ap (λ (x : Sent T). message_home x (is_some r.message)) awaking.message) k.waker,
        (finds word h0 h1 v r k not_ended, refl),
      )
        where
          not_ended : v.stage ≢ sender.Ended
          not_ended e = let clash : sender.Awaking false ≡ sender.Ended = sym awaking.stage ∙ e in cc
