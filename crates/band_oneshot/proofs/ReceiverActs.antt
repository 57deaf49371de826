-- Each step of the receiver keeps the rule of its channel, and tells what it tells.
use Rattle.std.proofs.Common.{◌≡◌, ◌≢◌, ℕ, Bool, Option, true, false, ◌⊎◌, inl, inr, List, ◌∷◌, Some, None, refl, sym, ap, ◌∙◌, subst, arith}
use Rattle.std.specs.Prelude.{is_some, ◌==◌}
use mathlib.Core.Option.{some, none}
use mathlib.Core.Option.{Option as Home}
use prog.Atomic.{either}
use Rattle.atomic_table.specs.Table.{keeps, takes, gives, rest, Allows}
use Rattle.band_base.specs.declared.waker.Waker.{Waker}
use Rattle.band_oneshot.specs.declared.word.TheConstants.{EMPTY, RECEIVING, AWAKING, MESSAGE, DISCONNECTED}
use Rattle.band_oneshot.specs.declared.state.Place.TheVariants as place
use Rattle.band_oneshot.specs.declared.state.ReceiverStage.TheVariants as receiver
use Rattle.band_oneshot.specs.declared.step.OneshotStep.{OneshotStep}
use Rattle.band_oneshot.specs.declared.step.OneshotStep.TheVariants.{ReceiverLoad, Swap, Store, PutWaker, EmptyToReceiving, ReceivingToEmpty, AwakingToDisconnected, EmptyToDisconnected}
use Rattle.band_oneshot.specs.declared.view.Held.TheVariants as held
use Rattle.band_oneshot.specs.declared.view.Sent.{Sent}
use Rattle.band_oneshot.specs.declared.view.Sent.TheVariants as sent
use Rattle.band_oneshot.specs.declared.view.WakerSlot.{WakerSlot}
use Rattle.band_oneshot.specs.declared.view.WakerSlot.TheVariants as slot
use Rattle.band_oneshot.specs.declared.view.SenderView.{SenderView}
use Rattle.band_oneshot.specs.declared.view.ReceiverView.{ReceiverView}
use Rattle.band_oneshot.specs.declared.view.View.{View}
use Rattle.band_oneshot.specs.declared.view.View.TheVariants as view
use Rattle.band_oneshot.specs.Ends.{Agree, message_at, waker_at, receiver_looked, poll_looked, cancel_looked, swapped, stored, received, left, fetched, awaking_ended, empty_ended}
use Rattle.band_oneshot.specs.Kept.Plays.{receiver_of, ReceiverFinds, TakesMessage, ReceiverLooks, PollLooks, CancelLooks, Swaps, Stores, Leaves, Fetches, EndsAwaking, EndsEmpty}
use Rattle.band_oneshot.specs.Kept.Rule.{Slot, Seated, message_home, waker_home, Kept, ObeysRule}
use Rattle.band_oneshot.specs.Kept.Seats.{MayWait, MayCancel}
use Rattle.band_oneshot.specs.Runs.{counts_as, ReceiverRuns}
use Rattle.band_oneshot.specs.Stages.{is_idle, is_left}
use Rattle.band_oneshot.specs.Words.{sender_makes}
use Rattle.band_oneshot.proofs.Slots.{same_waker}
use Rattle.band_oneshot.proofs.Acting.{equal_or_not, apart, no_such, ReceiverActs, receiver_allows, receiver_kept}
use Rattle.band_oneshot.proofs.SenderActs.{left_there}
use Rattle.band_oneshot.proofs.Showing.{receiver_looks, poll_looks, cancel_looks, cancel_takes, swaps, swap_takes, store_takes, leaves, fetches, ends_awaking, ends_empty}

module _ {T : Type 0} where
  not_ended : (v : ReceiverView T) → (v.stage ≡ receiver.Plain) ⊎ (v.stage ≡ receiver.Waiting) → v.stage ≢ receiver.Ended
  not_ended v on e = grind arith

  cancelling : (v : ReceiverView T) → v.stage ≡ receiver.Cancelling → v.stage ≢ receiver.Ended
  cancelling v on e = grind arith

  finds : (word : ℕ) (h0 h1 : Home (Slot T)) (s : SenderView T) (v : ReceiverView T) → Kept word h0 h1 s v → v.stage ≢ receiver.Ended
      → ReceiverFinds T word v
  finds word h0 h1 s v k on = record { sender = s; agree = k.agree; follows = k.found_by_receiver on }

  -- a message that is there
  message_there : (x : Sent T) (taken : Bool) → message_at x taken ≡ place.Channel → (m : T) × (x ≡ sent.Message m) × (taken ≡ false)
  message_there (sent.Message m) false e = (m, refl, refl)
  message_there (sent.Message m) true e = cc
  message_there sent.Nothing false e = cc
  message_there sent.Nothing true e = cc
  message_there sent.HandedBack false e = cc
  message_there sent.HandedBack true e = cc
  message_there sent.Gone false e = cc
  message_there sent.Gone true e = cc

  abbrev MessageThere : Home (Slot T) → SenderView T → ReceiverView T → Type 0
  MessageThere h0 s v = (m : T) × (s.message ≡ sent.Message m) × (is_some v.message ≡ false) × (h0 ≡ some (Some (held.Message m)))

  message_home_there : (h0 h1 : Home (Slot T)) (s : SenderView T) (v : ReceiverView T) → Kept MESSAGE h0 h1 s v → v.stage ≢ receiver.Ended
      → MessageThere h0 s v
  message_home_there h0 h1 s v k on =
      let there = message_there s.message (is_some v.message) ((k.agree.sound.message refl).1 on) in
      (there.0, there.1, there.2, k.message ∙ at_home s.message (is_some v.message) there.0 there.1 there.2)
    where
      at_home : (x : Sent T) (taken : Bool) (m : T) → x ≡ sent.Message m → taken ≡ false → message_home x taken ≡ some (Some (held.Message m))
      at_home x taken m e n = grind arith

  passed_there : {h0 : Home (Slot T)} (s : SenderView T) (v : ReceiverView T) (there : MessageThere h0 s v) (message : T)
      → Some there.0 ≡ Some message → s.message ≡ sent.Message message
  passed_there s v there message e = let same : there.0 ≡ message = cc in there.1 ∙ ap sent.Message same

  message_home_gone : (x : Sent T) → none ≡ message_home x true
  message_home_gone (sent.Message m) = refl
  message_home_gone sent.Nothing = refl
  message_home_gone sent.HandedBack = refl
  message_home_gone sent.Gone = refl

  pub receiver_looks_allows : (slots id : ℕ) (m : Seated T) (v : ReceiverView T) (c : List (ℕ × Slot T)) → m ≡ (view.Receives v, c)
      → (v.stage ≡ receiver.Plain) ⊎ (v.stage ≡ receiver.Waiting) → Allows ObeysRule slots id m 0 (λ n. n) (ReceiverLooks m)
  receiver_looks_allows slots id m v c is on = subst (λ (x : Seated T). Allows ObeysRule slots id x 0 (λ n. n) (ReceiverLooks x)) (sym is)
      (receiver_allows (λ n. n) (ReceiverLooks (view.Receives v, c)) slots id (view.Receives v, c) v refl acts)
    where
      acts : (word : ℕ) → ReceiverActs (λ n. n) (ReceiverLooks (view.Receives v, c)) v c word
      acts word h0 h1 s k = (
        receiver_looked word v,
        keeps,
        tt,
        receiver_kept (counts_as (ReceiverLoad false) word) word word h0 h1 h0 h1 s v (receiver_looked word v) (refl, tt) k
            (receiver_looks T word v on) refl k.agree.took k.agree.passed k.message k.waker,
        (finds word h0 h1 s v k (not_ended v on), refl),
      )

  -- what a receiver that is about to poll knows of the waker's slot
  module _ (v : ReceiverView T) (c : List (ℕ × Slot T)) (on : (v.stage ≡ receiver.Plain) ⊎ (v.stage ≡ receiver.Waiting))
      (fresh : v.stage ≡ receiver.Plain → sender_makes v.word EMPTY ≡ true → v.waker ≡ slot.Unused) where
    abbrev PollActs : ℕ → Type 0
    PollActs word = ReceiverActs (λ n. n) (PollLooks (view.Receives v, c)) v c word

    unused : (s : SenderView T) → Agree EMPTY s v → sender_makes v.word EMPTY ≡ true → v.waker ≡ slot.Unused
    unused s h follows = fresh (plain s h) follows
      where
        plain : (s : SenderView T) → Agree EMPTY s v → v.stage ≡ receiver.Plain
        plain s h = grind arith

    no_waker : (s : SenderView T) → Agree EMPTY s v → s.waker ≡ None
    no_waker s h = h.idle (idle s h)
      where
        idle : (s : SenderView T) → Agree EMPTY s v → is_idle s.stage ≡ true
        idle s h = grind arith

    polls_empty : PollActs EMPTY
    polls_empty h0 h1 s k = let free = unused s k.agree (k.found_by_receiver (not_ended v on)) in (
      poll_looked EMPTY v,
      takes 1 None,
      ap some (k.waker ∙ ap (λ (x : WakerSlot). waker_home {T = T} x (is_some s.waker)) free),
      receiver_kept (counts_as (ReceiverLoad false) EMPTY) EMPTY EMPTY h0 h1 h0 none s v (poll_looked EMPTY v) (refl, tt) k
          (poll_looks T EMPTY v on (λ e. free)) refl (λ w e. let never : None ≡ Some w = sym (no_waker s k.agree) ∙ e in cc) k.agree.passed k.message refl,
      (finds EMPTY h0 h1 s v k (not_ended v on), refl, (λ e. refl), (λ not. absurd (not refl))),
    )

    polls_other : (word : ℕ) → (word == EMPTY) ≡ false → PollActs word
    polls_other word other h0 h1 s k = (
      poll_looked word v,
      keeps,
      tt,
      receiver_kept (counts_as (ReceiverLoad false) word) word word h0 h1 h0 h1 s v (poll_looked word v) (refl, tt) k
          (poll_looks T word v on (λ e. absurd (apart word EMPTY other e))) (rw other refl) (rw other k.agree.took) (rw other k.agree.passed) (rw other k.message) (rw other k.waker),
      (finds word h0 h1 s v k (not_ended v on), refl, (λ e. absurd (apart word EMPTY other e)), (λ not. refl)),
    )

    poll_acts : (word : ℕ) → PollActs word
    poll_acts word = elim (equal_or_not word EMPTY) [
      | inl e ↦ subst PollActs (sym e) polls_empty
      | inr other ↦ polls_other word other
    ]

  pub poll_looks_allows : (slots id : ℕ) (m : Seated T) (v : ReceiverView T) (c : List (ℕ × Slot T)) → m ≡ (view.Receives v, c)
      → (v.stage ≡ receiver.Plain) ⊎ (v.stage ≡ receiver.Waiting)
      → (v.stage ≡ receiver.Plain → sender_makes v.word EMPTY ≡ true → v.waker ≡ slot.Unused)
      → Allows ObeysRule slots id m 0 (λ n. n) (PollLooks m)
  poll_looks_allows slots id m v c is on fresh = subst (λ (x : Seated T). Allows ObeysRule slots id x 0 (λ n. n) (PollLooks x)) (sym is)
      (receiver_allows (λ n. n) (PollLooks (view.Receives v, c)) slots id (view.Receives v, c) v refl (poll_acts v c on fresh))

  module _ (v : ReceiverView T) (c : List (ℕ × Slot T))
      (on : (v.stage ≡ receiver.Plain) ⊎ ((v.stage ≡ receiver.Waiting) ⊎ (v.stage ≡ receiver.Cancelling))) where
    abbrev CancelActs : ℕ → Type 0
    CancelActs word = ReceiverActs (λ n. n) (CancelLooks (view.Receives v, c)) v c word

    going_on : v.stage ≢ receiver.Ended
    going_on e = grind arith

    cancels_message : CancelActs MESSAGE
    cancels_message h0 h1 s k = let there = message_home_there h0 h1 s v k going_on in (
      received there.0 (cancel_looked MESSAGE v),
      takes 0 (Some (held.Message there.0)),
      ap some there.3,
      receiver_kept (counts_as (ReceiverLoad true) MESSAGE) MESSAGE MESSAGE h0 h1 none h1 s v (received there.0 (cancel_looked MESSAGE v)) (refl, (refl, tt)) k
          (cancel_takes T there.0 MESSAGE v refl on) refl k.agree.took (passed_there s v there) (message_home_gone s.message) k.waker,
      (finds MESSAGE h0 h1 s v k going_on, (λ e. (there.0, refl, refl)), (λ not. absurd (not refl))),
    )

    cancels_disconnected : CancelActs DISCONNECTED
    cancels_disconnected h0 h1 s k = (
      cancel_looked DISCONNECTED v,
      keeps,
      tt,
      receiver_kept (counts_as (ReceiverLoad true) DISCONNECTED) DISCONNECTED DISCONNECTED h0 h1 h0 h1 s v (cancel_looked DISCONNECTED v) (refl, tt) k
          (cancel_looks T DISCONNECTED v refl on) refl k.agree.took k.agree.passed k.message k.waker,
      (finds DISCONNECTED h0 h1 s v k going_on, (λ e. absurd (omega arith)), (λ not. (refl, refl))),
    )

    cancels_other : (word : ℕ) → (word == MESSAGE) ≡ false → (word == DISCONNECTED) ≡ false → CancelActs word
    cancels_other word no_message other h0 h1 s k = (
      cancel_looked word v,
      keeps,
      tt,
      receiver_kept (counts_as (ReceiverLoad true) word) word word h0 h1 h0 h1 s v (cancel_looked word v) (rw no_message (refl, tt)) k
          (cancel_looks T word v no_message on) (rw (no_message, other) refl) (rw (no_message, other) k.agree.took) (rw (no_message, other) k.agree.passed) (rw (no_message, other) k.message)
          (rw (no_message, other) k.waker),
      (finds word h0 h1 s v k going_on, (λ e. absurd (apart word MESSAGE no_message e)), (λ not. (refl, refl))),
    )

    cancel_acts : (word : ℕ) → CancelActs word
    cancel_acts word = elim (equal_or_not word MESSAGE) [
      | inl e ↦ subst CancelActs (sym e) cancels_message
      | inr no_message ↦ elim (equal_or_not word DISCONNECTED) [
        | inl e ↦ subst CancelActs (sym e) cancels_disconnected
        | inr other ↦ cancels_other word no_message other
      ]
    ]

  pub cancel_looks_allows : (slots id : ℕ) (m : Seated T) (v : ReceiverView T) (c : List (ℕ × Slot T)) → m ≡ (view.Receives v, c)
      → (v.stage ≡ receiver.Plain) ⊎ ((v.stage ≡ receiver.Waiting) ⊎ (v.stage ≡ receiver.Cancelling))
      → Allows ObeysRule slots id m 0 (λ n. n) (CancelLooks m)
  cancel_looks_allows slots id m v c is on = subst (λ (x : Seated T). Allows ObeysRule slots id x 0 (λ n. n) (CancelLooks x)) (sym is)
      (receiver_allows (λ n. n) (CancelLooks (view.Receives v, c)) slots id (view.Receives v, c) v refl (cancel_acts v c on))

  module _ (v : ReceiverView T) (c : List (ℕ × Slot T)) (on : v.stage ≡ receiver.Plain) where
    abbrev SwapActs : ℕ → Type 0
    SwapActs word = ReceiverActs (λ _. DISCONNECTED) (Swaps (view.Receives v, c)) v c word

    swaps_message : SwapActs MESSAGE
    swaps_message h0 h1 s k = let there = message_home_there h0 h1 s v k (not_ended v (inl on)) in (
      received there.0 (swapped MESSAGE v),
      takes 0 (Some (held.Message there.0)),
      ap some there.3,
      receiver_kept (counts_as Swap MESSAGE) MESSAGE DISCONNECTED h0 h1 none h1 s v (received there.0 (swapped MESSAGE v)) (refl, (refl, tt)) k
          (swap_takes T there.0 MESSAGE v refl on) refl k.agree.took (passed_there s v there) (message_home_gone s.message) k.waker,
      (finds MESSAGE h0 h1 s v k (not_ended v (inl on)), (λ e. (there.0, refl, refl)), (λ not. absurd (not refl))),
    )

    swaps_other : (word : ℕ) → (word == MESSAGE) ≡ false → SwapActs word
    swaps_other word other h0 h1 s k = (
      swapped word v,
      keeps,
      tt,
      receiver_kept (counts_as Swap word) word DISCONNECTED h0 h1 h0 h1 s v (swapped word v) (rw other (refl, tt)) k
          (swaps T word v other on) refl k.agree.took k.agree.passed k.message k.waker,
      (finds word h0 h1 s v k (not_ended v (inl on)), (λ e. absurd (apart word MESSAGE other e)), (λ not. (refl, refl))),
    )

    swap_acts : (word : ℕ) → SwapActs word
    swap_acts word = elim (equal_or_not word MESSAGE) [
      | inl e ↦ subst SwapActs (sym e) swaps_message
      | inr other ↦ swaps_other word other
    ]

  pub swaps_allows : (slots id : ℕ) (m : Seated T) (v : ReceiverView T) (c : List (ℕ × Slot T)) → m ≡ (view.Receives v, c)
      → v.stage ≡ receiver.Plain → Allows ObeysRule slots id m 0 (λ _. DISCONNECTED) (Swaps m)
  swaps_allows slots id m v c is on = subst (λ (x : Seated T). Allows ObeysRule slots id x 0 (λ _. DISCONNECTED) (Swaps x)) (sym is)
      (receiver_allows (λ _. DISCONNECTED) (Swaps (view.Receives v, c)) slots id (view.Receives v, c) v refl (swap_acts v c on))

  module _ (v : ReceiverView T) (c : List (ℕ × Slot T)) (on : (v.stage ≡ receiver.Plain) ⊎ (v.stage ≡ receiver.Waiting))
      (found : v.word ≡ MESSAGE) where
    abbrev StoreActs : ℕ → Type 0
    StoreActs word = ReceiverActs (λ _. DISCONNECTED) (λ _. Stores (view.Receives v, c) DISCONNECTED) v c word

    still_there : (word : ℕ) → sender_makes v.word word ≡ true → word ≡ MESSAGE
    still_there word follows = still word (rw found at follows)
      where
        still : (word : ℕ) → sender_makes MESSAGE word ≡ true → word ≡ MESSAGE
        still word follows = grind arith

    stores_message : StoreActs MESSAGE
    stores_message h0 h1 s k = let there = message_home_there h0 h1 s v k (not_ended v on) in (
      received there.0 (stored v),
      takes 0 (Some (held.Message there.0)),
      ap some there.3,
      receiver_kept (counts_as Store MESSAGE) MESSAGE DISCONNECTED h0 h1 none h1 s v (received there.0 (stored v)) (refl, (refl, tt)) k
          (store_takes T there.0 v on) refl k.agree.took (passed_there s v there) (message_home_gone s.message) k.waker,
      (finds MESSAGE h0 h1 s v k (not_ended v on), (λ e. (there.0, refl, refl)), (λ not. absurd (not refl))),
    )

    store_acts : (word : ℕ) → StoreActs word
    store_acts word h0 h1 s k =
        subst StoreActs (sym (still_there word (k.found_by_receiver (not_ended v on)))) stores_message h0 h1 s k

  pub stores_allows : (slots id : ℕ) (m : Seated T) (v : ReceiverView T) (c : List (ℕ × Slot T)) → m ≡ (view.Receives v, c)
      → (v.stage ≡ receiver.Plain) ⊎ (v.stage ≡ receiver.Waiting) → v.word ≡ MESSAGE
      → Allows ObeysRule slots id m 0 (λ _. DISCONNECTED) (λ _. Stores m DISCONNECTED)
  stores_allows slots id m v c is on found =
      subst (λ (x : Seated T). Allows ObeysRule slots id x 0 (λ _. DISCONNECTED) (λ _. Stores x DISCONNECTED)) (sym is)
      (receiver_allows (λ _. DISCONNECTED) (λ _. Stores (view.Receives v, c) DISCONNECTED) slots id (view.Receives v, c) v refl
      (store_acts v c on found))

  module _ (w : Waker) (v : ReceiverView T) (c : List (ℕ × Slot T)) (on : v.stage ≡ receiver.Plain) (has : v.waker ≡ slot.Taken) where
    abbrev with_waker : List (ℕ × Slot T)
    with_waker = (1, Some (held.Waker w)) ∷ c

    abbrev LeaveActs : ℕ → Type 0
    LeaveActs word = ReceiverActs (λ n. either (n == EMPTY) RECEIVING n) (Leaves (view.Receives v, with_waker)) v with_waker word

    idle_where_empty : (s : SenderView T) → Agree EMPTY s v → s.waker ≡ None
    idle_where_empty s h = h.idle (idle s h)
      where
        idle : (s : SenderView T) → Agree EMPTY s v → is_idle s.stage ≡ true
        idle s h = grind arith

    leaves_empty : LeaveActs EMPTY
    leaves_empty h0 h1 s k = let nobody = idle_where_empty s k.agree in (
      left w EMPTY v,
      gives,
      tt,
      receiver_kept (PutWaker w ∷ counts_as EmptyToReceiving EMPTY) EMPTY RECEIVING h0 h1 h0 (some (Some (held.Waker w))) s v (left w EMPTY v)
          (refl, (refl, tt)) k (leaves T w EMPTY v on has) refl (λ x e. let never : None ≡ Some x = sym nobody ∙ e in cc) k.agree.passed k.message (rw nobody refl),
      (λ x e. let same = same_waker _ _ _ w x refl e in (
        finds EMPTY h0 h1 s v k (not_ended v (inl on)),
        ap (λ (y : Waker). view.Receives (left y EMPTY v)) same,
        (λ e. refl),
        (λ not. absurd (not refl)),
      )),
    )

    leaves_other : (word : ℕ) → (word == EMPTY) ≡ false → LeaveActs word
    leaves_other word other h0 h1 s k = (
      left w word v,
      keeps,
      tt,
      receiver_kept (PutWaker w ∷ counts_as EmptyToReceiving word) word (either (word == EMPTY) RECEIVING word) h0 h1 h0 h1 s v (left w word v)
          (rw other (refl, (refl, (refl, tt)))) k (leaves T w word v on has) (rw other refl) (rw other k.agree.took) (rw other k.agree.passed) (rw other k.message)
          (rw other k.waker),
      (λ x e. let same = same_waker _ _ _ w x refl e in (
        finds word h0 h1 s v k (not_ended v (inl on)),
        ap (λ (y : Waker). view.Receives (left y word v)) same,
        (λ e. absurd (apart word EMPTY other e)),
        (λ not. refl),
      )),
    )

    leave_acts : (word : ℕ) → LeaveActs word
    leave_acts word = elim (equal_or_not word EMPTY) [
      | inl e ↦ subst LeaveActs (sym e) leaves_empty
      | inr other ↦ leaves_other word other
    ]

  pub leaves_allows : (slots id : ℕ) (m : Seated T) (w : Waker) (v : ReceiverView T) (c : List (ℕ × Slot T))
      → m ≡ (view.Receives v, (1, Some (held.Waker w)) ∷ c) → v.stage ≡ receiver.Plain → v.waker ≡ slot.Taken
      → Allows ObeysRule slots id m 0 (λ n. either (n == EMPTY) RECEIVING n) (Leaves m)
  leaves_allows slots id m w v c is on has =
      subst (λ (x : Seated T). Allows ObeysRule slots id x 0 (λ n. either (n == EMPTY) RECEIVING n) (Leaves x)) (sym is)
      (receiver_allows (λ n. either (n == EMPTY) RECEIVING n) (Leaves (view.Receives v, with_waker w v c on has)) slots id
      (view.Receives v, with_waker w v c on has) v refl (leave_acts w v c on has))

  module _ (v : ReceiverView T) (c : List (ℕ × Slot T)) (on : (v.stage ≡ receiver.Waiting) ⊎ (v.stage ≡ receiver.Cancelling)) where
    abbrev FetchActs : ℕ → Type 0
    FetchActs word = ReceiverActs (λ n. either (n == RECEIVING) EMPTY n) (Fetches (view.Receives v, c)) v c word

    not_over : v.stage ≢ receiver.Ended
    not_over e = grind arith

    idle_where_receiving : (s : SenderView T) → Agree RECEIVING s v → s.waker ≡ None
    idle_where_receiving s h = h.idle (h.sound.receiving refl).0

    fetches_waker : FetchActs RECEIVING
    fetches_waker h0 h1 s k =
        let there = left_there v.waker (is_some s.waker) (h_left s k.agree) in
        let nobody = idle_where_receiving s k.agree in (
          fetched RECEIVING v,
          takes 1 (Some (held.Waker there.0)),
          ap some (k.waker ∙ at_home v.waker there.0 s.waker there.1 nobody),
          receiver_kept (counts_as ReceivingToEmpty RECEIVING) RECEIVING EMPTY h0 h1 h0 none s v (fetched RECEIVING v) (refl, (refl, tt)) k
              (fetches T RECEIVING v on) refl (λ x e. let never : None ≡ Some x = sym nobody ∙ e in cc) k.agree.passed k.message refl,
          (finds RECEIVING h0 h1 s v k not_over, refl, (λ e. (there.0, refl)), (λ not. absurd (not refl))),
        )
      where
        h_left : (s : SenderView T) → Agree RECEIVING s v → is_left (waker_at v.waker (is_some s.waker)) ≡ true
        h_left s h = grind arith

        at_home : (x : WakerSlot) (w : Waker) (o : Option Waker) → x ≡ slot.Left w → o ≡ None
            → waker_home {T = T} x (is_some o) ≡ some (Some (held.Waker w))
        at_home x w o e n = grind arith

    fetches_nothing : (word : ℕ) → (word == RECEIVING) ≡ false → FetchActs word
    fetches_nothing word other h0 h1 s k = (
      fetched word v,
      keeps,
      tt,
      receiver_kept (counts_as ReceivingToEmpty word) word (either (word == RECEIVING) EMPTY word) h0 h1 h0 h1 s v (fetched word v)
          (rw other (refl, tt)) k (fetches T word v on) (rw other refl) (rw other k.agree.took) (rw other k.agree.passed) (rw other k.message) (rw other k.waker),
      (finds word h0 h1 s v k not_over, refl, (λ e. absurd (apart word RECEIVING other e)), (λ not. refl)),
    )

    fetch_acts : (word : ℕ) → FetchActs word
    fetch_acts word = elim (equal_or_not word RECEIVING) [
      | inl e ↦ subst FetchActs (sym e) fetches_waker
      | inr other ↦ fetches_nothing word other
    ]

  pub fetches_allows : (slots id : ℕ) (m : Seated T) (v : ReceiverView T) (c : List (ℕ × Slot T)) → m ≡ (view.Receives v, c)
      → (v.stage ≡ receiver.Waiting) ⊎ (v.stage ≡ receiver.Cancelling)
      → Allows ObeysRule slots id m 0 (λ n. either (n == RECEIVING) EMPTY n) (Fetches m)
  fetches_allows slots id m v c is on =
      subst (λ (x : Seated T). Allows ObeysRule slots id x 0 (λ n. either (n == RECEIVING) EMPTY n) (Fetches x)) (sym is)
      (receiver_allows (λ n. either (n == RECEIVING) EMPTY n) (Fetches (view.Receives v, c)) slots id (view.Receives v, c) v refl
      (fetch_acts v c on))

  pub ends_awaking_allows : (slots id : ℕ) (m : Seated T) (v : ReceiverView T) (c : List (ℕ × Slot T)) → m ≡ (view.Receives v, c)
      → v.stage ≡ receiver.Cancelling → Allows ObeysRule slots id m 0 (λ n. either (n == AWAKING) DISCONNECTED n) (EndsAwaking m)
  ends_awaking_allows slots id m v c is on =
      subst (λ (x : Seated T). Allows ObeysRule slots id x 0 (λ n. either (n == AWAKING) DISCONNECTED n) (EndsAwaking x)) (sym is)
      (receiver_allows (λ n. either (n == AWAKING) DISCONNECTED n) (EndsAwaking (view.Receives v, c)) slots id (view.Receives v, c) v refl acts)
    where
      waker_stays : (word : ℕ) → (awaking_ended word v).waker ≡ v.waker
      waker_stays word = grind arith

      message_stays : (word : ℕ) → (awaking_ended word v).message ≡ v.message
      message_stays word = grind arith

      is_word : (word : ℕ) → either (word == AWAKING) DISCONNECTED word ≡ (awaking_ended word v).word
      is_word word = grind arith

      acts : (word : ℕ) → ReceiverActs (λ n. either (n == AWAKING) DISCONNECTED n) (EndsAwaking (view.Receives v, c)) v c word
      acts word h0 h1 s k = (
        awaking_ended word v,
        keeps,
        tt,
        receiver_kept (counts_as AwakingToDisconnected word) word (either (word == AWAKING) DISCONNECTED word) h0 h1 h0 h1 s v (awaking_ended word v)
            (refl, tt) k (ends_awaking T word v on) (is_word word) (rw (waker_stays word) k.agree.took) (rw (message_stays word) k.agree.passed) (rw (message_stays word) k.message)
            (rw (waker_stays word) k.waker),
        (finds word h0 h1 s v k (cancelling v on), refl),
      )

  pub ends_empty_allows : (slots id : ℕ) (m : Seated T) (v : ReceiverView T) (c : List (ℕ × Slot T)) → m ≡ (view.Receives v, c)
      → v.stage ≡ receiver.Cancelling → Allows ObeysRule slots id m 0 (λ n. either (n == EMPTY) DISCONNECTED n) (EndsEmpty m)
  ends_empty_allows slots id m v c is on =
      subst (λ (x : Seated T). Allows ObeysRule slots id x 0 (λ n. either (n == EMPTY) DISCONNECTED n) (EndsEmpty x)) (sym is)
      (receiver_allows (λ n. either (n == EMPTY) DISCONNECTED n) (EndsEmpty (view.Receives v, c)) slots id (view.Receives v, c) v refl acts)
    where
      waker_stays : (word : ℕ) → (empty_ended word v).waker ≡ v.waker
      waker_stays word = grind arith

      message_stays : (word : ℕ) → (empty_ended word v).message ≡ v.message
      message_stays word = grind arith

      is_word : (word : ℕ) → either (word == EMPTY) DISCONNECTED word ≡ (empty_ended word v).word
      is_word word = grind arith

      acts : (word : ℕ) → ReceiverActs (λ n. either (n == EMPTY) DISCONNECTED n) (EndsEmpty (view.Receives v, c)) v c word
      acts word h0 h1 s k = (
        empty_ended word v,
        keeps,
        tt,
        receiver_kept (counts_as EmptyToDisconnected word) word (either (word == EMPTY) DISCONNECTED word) h0 h1 h0 h1 s v (empty_ended word v)
            (refl, tt) k (ends_empty T word v on) (is_word word) (rw (waker_stays word) k.agree.took) (rw (message_stays word) k.agree.passed) (rw (message_stays word) k.message)
            (rw (waker_stays word) k.waker),
        (finds word h0 h1 s v k (cancelling v on), refl),
      )

  pub leaves_core : (m n : Seated T) (found : ℕ) (w : Waker) → (receiver_of m.0).stage ≡ receiver.Plain → (receiver_of m.0).waker ≡ slot.Taken
      → m.1 ≡ (1, Some (held.Waker w)) ∷ rest m.1 → Leaves m found n
      → ReceiverRuns T (PutWaker w ∷ counts_as EmptyToReceiving found) found (receiver_of m.0) (receiver_of n.0)
  leaves_core m n found w on has slot play =
      subst (λ (x : View T). ReceiverRuns T (PutWaker w ∷ counts_as EmptyToReceiving found) found (receiver_of m.0) (receiver_of x))
      (sym (play w slot).1) (leaves T w found (receiver_of m.0) on has)

  -- a step that takes the message where there is one
  takes_core : (steps : List OneshotStep) (m n : Seated T) (found : ℕ) (v : ReceiverView T) → TakesMessage m found v n
      → (found ≡ MESSAGE → (message : T) → ReceiverRuns T steps found (receiver_of m.0) (received message v))
      → (found ≢ MESSAGE → ReceiverRuns T steps found (receiver_of m.0) v) → ReceiverRuns T steps found (receiver_of m.0) (receiver_of n.0)
  takes_core steps m n found v play taken other = elim (equal_or_not found MESSAGE) [
    | inl e ↦ let told = play.1 e in
        subst (λ (x : View T). ReceiverRuns T steps found (receiver_of m.0) (receiver_of x)) (sym told.1) (taken e told.0)
    | inr not ↦ let no_message = apart found MESSAGE not in
        subst (λ (x : View T). ReceiverRuns T steps found (receiver_of m.0) (receiver_of x)) (sym (play.2 no_message).0) (other no_message)
  ]

  pub swaps_core : (m n : Seated T) (found : ℕ) → (receiver_of m.0).stage ≡ receiver.Plain → Swaps m found n
      → ReceiverRuns T (counts_as Swap found) found (receiver_of m.0) (receiver_of n.0)
  swaps_core m n found on play = takes_core (counts_as Swap found) m n found (swapped found (receiver_of m.0)) play
      (λ e message. swap_takes T message found (receiver_of m.0) e on)
      (λ not. swaps T found (receiver_of m.0) (no_such found MESSAGE not) on)

  pub cancels_core : (m n : Seated T) (found : ℕ) → MayCancel (receiver_of m.0) → CancelLooks m found n
      → ReceiverRuns T (counts_as (ReceiverLoad true) found) found (receiver_of m.0) (receiver_of n.0)
  cancels_core m n found on play =
      takes_core (counts_as (ReceiverLoad true) found) m n found (cancel_looked found (receiver_of m.0)) play
      (λ e message. cancel_takes T message found (receiver_of m.0) e on)
      (λ not. cancel_looks T found (receiver_of m.0) (no_such found MESSAGE not) on)

  pub stores_core : (m n : Seated T) → MayWait (receiver_of m.0) → Stores m DISCONNECTED n
      → ReceiverRuns T (counts_as Store MESSAGE) MESSAGE (receiver_of m.0) (receiver_of n.0)
  stores_core m n on play = let told = play.1 refl in
      subst (λ (x : View T). ReceiverRuns T (counts_as Store MESSAGE) MESSAGE (receiver_of m.0) (receiver_of x)) (sym told.1)
      (store_takes T told.0 (receiver_of m.0) on)
