use Rattle.std.proofs.Common.{◌≡◌, ◌≢◌, ℕ, ◌∷◌, Some, ◌⊎◌, ap, ◌∙◌, subst, arith}
use Rattle.atomic_table.specs.Table.{rest}
use Rattle.band_oneshot.specs.declared.word.TheConstants.{AWAKING, DISCONNECTED}
use Rattle.band_oneshot.specs.declared.view.Held.TheVariants as held
use Rattle.band_oneshot.specs.declared.view.View.{View}
use Rattle.band_oneshot.specs.declared.view.View.TheVariants as view
use Rattle.band_oneshot.specs.Ends.{sent_finally}
use Rattle.band_oneshot.specs.Kept.Plays.{sender_of, SendsFinally}
use Rattle.band_oneshot.specs.Kept.Rule.{Seated}
use Rattle.band_oneshot.proofs.awaking.Sending.finish.Goals as goal

nobody_there : (found : ℕ) → (found ≡ AWAKING) ⊎ (found ≡ DISCONNECTED) → found ≢ AWAKING → found ≡ DISCONNECTED
nobody_there found words not = grind arith

module _ {T : Type 0} where
  -- what a sender with this message knows after its final swap
  finished : (m : T) (old before new : Seated T) (found last : ℕ) (spent : View T) → old ≡ before → SendsFinally old found new
      → before.1 ≡ (0, Some (held.Message m)) ∷ rest before.1 → spent ≡ new.0 → found ≡ last
      → spent ≡ view.Sends (sent_finally m last (sender_of before.0))
  finished m old before new found last spent same play slot is e =
      let told = subst (λ (x : Seated T). SendsFinally x found new) same play m slot in
      is ∙ told.1 ∙ ap (λ (x : ℕ). view.Sends (sent_finally m x (sender_of before.0))) e

pub returns-then-send_finally-eq-AWAKING : goal.returns-then-send_finally-eq-AWAKING
returns-then-send_finally-eq-AWAKING g c = λ m e. finished m _ _ _ _ _ _ c.self.view_is c.send_finally.ensures.play e c.into_spent.ensures
    c.if-send_finally-eq-AWAKING.true

pub take_message-requires : goal.take_message-requires
take_message-requires g c =
    let told = c.send_finally.ensures.play c.self.invariant.message c.self.invariant.slot in
    let same = told.2 (nobody_there _ c.send_finally.ensures.words c.if-send_finally-eq-AWAKING.false) in
    (c.self.invariant.message, rw same c.self.invariant.slot)

pub returns : goal.returns
returns g c = λ m e. finished m _ _ _ _ _ _ c.self.view_is c.send_finally.ensures.play e
    (c.into_spent-2.ensures ∙ ap (λ x. x.0) c.take_message.ensures.seat)
    (nobody_there _ c.send_finally.ensures.words c.if-send_finally-eq-AWAKING.false)
