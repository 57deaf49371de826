-- Each step of an end keeps the rule of its channel.
use Rattle.std.proofs.Common.{◌≡◌, ◌≢◌, ℕ, zero, suc, true, false, ◌⊎◌, inl, inr, List, [], ◌∷◌, None, sym, ap, ◌∙◌, subst, arith}
use Rattle.std.specs.Prelude.{slice_index, slice_set, is_some, ◌==◌}
use Rattle.std.specs.List.{AllByRecursion}
use mathlib.Core.Option.{some}
use mathlib.Core.Option.{Option as Home}
use lib.ListN.{get_elem?}
use Rattle.atomic_table.specs.Table.{Act, Valid, homes_after, carried_after, Allows}
use Rattle.band_oneshot.specs.declared.step.OneshotStep.{OneshotStep}
use Rattle.band_oneshot.specs.declared.view.Sent.TheVariants as sent
use Rattle.band_oneshot.specs.declared.view.SenderView.{SenderView}
use Rattle.band_oneshot.specs.declared.view.ReceiverView.{ReceiverView}
use Rattle.band_oneshot.specs.declared.view.View.{View}
use Rattle.band_oneshot.specs.declared.view.View.TheVariants as view
use Rattle.band_oneshot.specs.Ends.{shown, Took, Passed}
use Rattle.band_oneshot.specs.Kept.Rule.{Slot, Seated, message_home, waker_home, Kept, Holds, ObeysRule}
use Rattle.band_oneshot.specs.Stages.{is_idle}
use Rattle.band_oneshot.specs.Runs.{SenderRuns, ReceiverRuns}
use Rattle.band_oneshot.specs.Step.{after_all}
use Rattle.band_oneshot.specs.Words.{is_senders, is_receivers}
use Rattle.band_oneshot.proofs.Sound.{IsSound-after_all}
use Rattle.band_oneshot.proofs.Moving.{sender_makes-same, receiver_makes-same, sender_makes-trans, sender_makes-after_all, receiver_makes-trans, receiver_makes-after_all}

pub equal_or_not : (x y : ℕ) → (x ≡ y) ⊎ ((x == y) ≡ false)
equal_or_not x y = grind arith

pub no_such : (x y : ℕ) → x ≢ y → (x == y) ≡ false
no_such x y not = grind arith

pub apart : (x y : ℕ) → (x == y) ≡ false → x ≢ y
apart x y n e = grind arith

module _ {T : Type 0} (f : ℕ → ℕ) (then : ℕ → Seated T → Type 0) where
  -- what a step of the sender, or of the receiver, makes of a word that it found
  abbrev pub SenderActs : SenderView T → List (ℕ × Slot T) → ℕ → Type 0
  SenderActs v c word = (h0 h1 : Home (Slot T)) (r : ReceiverView T) → Kept word h0 h1 v r
      → (v' : SenderView T) × (a : Act (Slot T)) × Valid (h0 ∷ h1 ∷ []) c a
      × Holds (f word ∷ []) (homes_after (h0 ∷ h1 ∷ []) c a) (view.Sends v' ∷ view.Receives r ∷ [])
      × then word (view.Sends v', carried_after c a)

  abbrev pub ReceiverActs : ReceiverView T → List (ℕ × Slot T) → ℕ → Type 0
  ReceiverActs v c word = (h0 h1 : Home (Slot T)) (s : SenderView T) → Kept word h0 h1 s v
      → (v' : ReceiverView T) × (a : Act (Slot T)) × Valid (h0 ∷ h1 ∷ []) c a
      × Holds (f word ∷ []) (homes_after (h0 ∷ h1 ∷ []) c a) (view.Sends s ∷ view.Receives v' ∷ [])
      × then word (view.Receives v', carried_after c a)

  abbrev Act_at : List ℕ → List (Home (Slot T)) → List (View T) → ℕ → List (ℕ × Slot T) → Type 0
  Act_at ws hs vs id c = (w : View T) × (a : Act (Slot T)) × Valid hs c a
      × Holds (slice_set ws 0 (f (slice_index ws 0))) (homes_after hs c a) (slice_set vs id w)
      × then (slice_index ws 0) (w, carried_after c a)

  sender_at : (v : SenderView T) (c : List (ℕ × Slot T)) → ((word : ℕ) → SenderActs v c word)
      → (ws : List ℕ) (hs : List (Home (Slot T))) (vs : List (View T)) (id : ℕ) → Holds ws hs vs → get_elem? vs id ≡ some (view.Sends v)
      → Act_at ws hs vs id c
  sender_at v c acts (word ∷ []) (h0 ∷ h1 ∷ []) (view.Sends s ∷ view.Receives r ∷ []) zero k e =
      let mine : s ≡ v = cc in
      let step = acts word h0 h1 r (subst (λ (x : SenderView T). Kept word h0 h1 x r) mine k) in
      (view.Sends step.0, step.1, step.2, step.3, step.4)
  sender_at v c acts (word ∷ []) (h0 ∷ h1 ∷ []) (view.Sends s ∷ view.Receives r ∷ []) (suc zero) k e = cc
  sender_at v c acts (word ∷ []) (h0 ∷ h1 ∷ []) (view.Sends s ∷ view.Receives r ∷ []) (suc (suc id)) k e = cc
  sender_at v c acts (word ∷ []) (h0 ∷ h1 ∷ []) (view.Whole out ∷ []) zero k e = cc
  sender_at v c acts (word ∷ []) (h0 ∷ h1 ∷ []) (view.Whole out ∷ []) (suc id) k e = cc
  sender_at v c acts ws hs vs id k e = absurd k

  pub sender_allows : (slots id : ℕ) (m : Seated T) (v : SenderView T) → m.0 ≡ view.Sends v → ((word : ℕ) → SenderActs v m.1 word)
      → Allows ObeysRule slots id m 0 f then
  sender_allows slots id m v is acts s holds wide at fits =
      sender_at v m.1 acts s.words s.homes s.views id holds (at ∙ ap some is)

  receiver_at : (v : ReceiverView T) (c : List (ℕ × Slot T)) → ((word : ℕ) → ReceiverActs v c word)
      → (ws : List ℕ) (hs : List (Home (Slot T))) (vs : List (View T)) (id : ℕ) → Holds ws hs vs → get_elem? vs id ≡ some (view.Receives v)
      → Act_at ws hs vs id c
  receiver_at v c acts (word ∷ []) (h0 ∷ h1 ∷ []) (view.Sends s ∷ view.Receives r ∷ []) zero k e = cc
  receiver_at v c acts (word ∷ []) (h0 ∷ h1 ∷ []) (view.Sends s ∷ view.Receives r ∷ []) (suc zero) k e =
      let mine : r ≡ v = cc in
      let step = acts word h0 h1 s (subst (λ (x : ReceiverView T). Kept word h0 h1 s x) mine k) in
      (view.Receives step.0, step.1, step.2, step.3, step.4)
  receiver_at v c acts (word ∷ []) (h0 ∷ h1 ∷ []) (view.Sends s ∷ view.Receives r ∷ []) (suc (suc id)) k e = cc
  receiver_at v c acts (word ∷ []) (h0 ∷ h1 ∷ []) (view.Whole out ∷ []) zero k e = cc
  receiver_at v c acts (word ∷ []) (h0 ∷ h1 ∷ []) (view.Whole out ∷ []) (suc id) k e = cc
  receiver_at v c acts ws hs vs id k e = absurd k

  pub receiver_allows : (slots id : ℕ) (m : Seated T) (v : ReceiverView T) → m.0 ≡ view.Receives v
      → ((word : ℕ) → ReceiverActs v m.1 word) → Allows ObeysRule slots id m 0 f then
  receiver_allows slots id m v is acts s holds wide at fits =
      receiver_at v m.1 acts s.words s.homes s.views id holds (at ∙ ap some is)

module _ {T : Type 0} where
  -- a sender that has said what became of its message says it for good, and nobody receives one before
  passed_from : (v v' : SenderView T) (r : ReceiverView T) → Passed v r → (v'.message ≡ v.message) ⊎ (v.message ≡ sent.Nothing)
      → Passed v' r
  passed_from v v' r before (inl same) message e = same ∙ before message e
  passed_from v v' r before (inr nothing) message e =
      let clash : sent.Nothing ≡ sent.Message message = sym nothing ∙ before message e in cc

  pub sender_kept : (steps : List OneshotStep) (word next : ℕ) (h0 h1 h0' h1' : Home (Slot T)) (v v' : SenderView T) (r : ReceiverView T)
      → AllByRecursion (λ s. is_senders s ≡ true) steps → Kept word h0 h1 v r → SenderRuns steps word v v' → next ≡ v'.word
      → (v'.message ≡ v.message) ⊎ (v.message ≡ sent.Nothing) → Took v' r → (is_idle v'.stage ≡ true → v'.waker ≡ None)
      → h0' ≡ message_home v'.message (is_some r.message) → h1' ≡ waker_home r.waker (is_some v'.waker)
      → Kept next h0' h1' v' r
  sender_kept steps word next h0 h1 h0' h1' v v' r own k runs is from took idle m0 m1 =
      let run = runs r k.agree took in
      let same : (after_all steps (shown word v r)).word ≡ next = sym (ap (λ c. c.word) run.state) ∙ sym is in
      record {
        agree = record {
          sound = rw (is, run.state) (IsSound-after_all steps (shown word v r) k.agree.sound);
          took = took;
          passed = passed_from v v' r k.agree.passed from;
          idle = idle;
        };
        message = m0;
        waker = m1;
        left = inl is;
        found_by_sender = λ on. receiver_makes-same v'.word next is;
        found_by_receiver = λ on. sender_makes-trans r.word word next (k.found_by_receiver on)
            (rw same at (sender_makes-after_all steps (shown word v r) own k.agree.sound on));
      }

  pub receiver_kept : (steps : List OneshotStep) (word next : ℕ) (h0 h1 h0' h1' : Home (Slot T)) (s : SenderView T) (v v' : ReceiverView T)
      → AllByRecursion (λ s. is_receivers s ≡ true) steps → Kept word h0 h1 s v → ReceiverRuns T steps word v v' → next ≡ v'.word
      → Took s v' → Passed s v'
      → h0' ≡ message_home s.message (is_some v'.message) → h1' ≡ waker_home v'.waker (is_some s.waker)
      → Kept next h0' h1' s v'
  receiver_kept steps word next h0 h1 h0' h1' s v v' own k runs is took passed m0 m1 =
      let run = runs s k.agree in
      let same : (after_all steps (shown word s v)).word ≡ next = sym (ap (λ c. c.word) run.state) ∙ sym is in
      record {
        agree = record {
          sound = rw (is, run.state) (IsSound-after_all steps (shown word s v) k.agree.sound);
          took = took;
          passed = passed;
          idle = k.agree.idle;
        };
        message = m0;
        waker = m1;
        left = inr is;
        found_by_sender = λ on. receiver_makes-trans s.word word next (k.found_by_sender on)
            (rw same at (receiver_makes-after_all steps (shown word s v) own k.agree.sound on));
        found_by_receiver = λ on. sender_makes-same v'.word next is;
      }
