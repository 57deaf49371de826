-- Permits are kept by each step, and so over any calls.
use Rattle.std.proofs.Common.{◌≡◌, ℕ, ◌+◌, None, true, false, cond, List, [], ◌∷◌, ◌++◌, Option, Some, ℤ, pos, ◌+ℤ◌, refl, sym, ap, ◌∙◌, subst, arith, append-nil}
use Rattle.std.specs.List.{AllByRecursion}
use Rattle.std.specs.Str.{bytes_eq}
use Rattle.std.proofs.lemmas.Int.{ints}
use Rattle.std.proofs.lemmas.Bool.{cond_both, cond-true, cond-false}
use Rattle.band_base.specs.declared.refusal.Refusal.{Refusal}
use Rattle.band_balance.specs.Laws.{HasAShare}
use Rattle.band_balance.specs.Object.{Object}
use Rattle.band_balance.specs.Rule.{Rule, act, brought, removed}
use Rattle.band_balance.proofs.Held.{by_bool}
use Rattle.band_balance.proofs.Rules.{bytes_told, adds_up-act}
use Rattle.band_script.specs.Call.{ForReaders}
use Rattle.band_script.specs.declared.call.Call.{Call}
use Rattle.band_script.specs.declared.call.Call.TheVariants as calls
use Rattle.band_rules.specs.declared.reply.Reply.TheVariants as replies
use Rattle.band_rules.specs.Permits.{object_named, permits_of, brought_by, removed_by, brought_from, removed_from}
use Rattle.band_rules.specs.Plan.{Refuse, Make, Act}
use Rattle.band_rules.specs.Script.{state_from, state_after}
use Rattle.band_rules.specs.State.{State, Named, Tag}
use Rattle.band_rules.specs.Step.{Effect, perform, with_object, step}
use Rattle.band_rules.proofs.Planned.{MayMake, MayAct}
use Rattle.band_rules.specs.Order.{IsInOrder}
use Rattle.band_rules.proofs.Runs.{of_step, in_order-step, lets-step}
use Rattle.band_rules.proofs.States.{IsAt, here, later, all_at, IsAbsent, with_object_here, with_object_later}

-- which object has a name
module _ (name : List ℕ) where
  pub named_first : (first : Named) (rest : State) → bytes_eq name first.name ≡ true → object_named name (first ∷ rest) ≡ Some first.object
  named_first first rest is = cond-true (bytes_eq name first.name) _ _ is

  named_later : (first : Named) (rest : State) → bytes_eq name first.name ≡ false → object_named name (first ∷ rest) ≡ object_named name rest
  named_later first rest apart = cond-false (bytes_eq name first.name) _ _ apart

  pub object_named-absent : (state more : State) → AllByRecursion (IsAbsent name) state → object_named name (state ++ more) ≡ object_named name more
  object_named-absent [] more none = refl
  object_named-absent (first ∷ rest) more none = named_later first (rest ++ more) none.0.apart ∙ object_named-absent rest more none.1

  pub object_named-push_other : (state : State) (new : Named) → bytes_eq name new.name ≡ false → object_named name (state ++ new ∷ []) ≡ object_named name state
  object_named-push_other [] new apart = named_later new [] apart
  object_named-push_other (first ∷ rest) new apart = ap (λ o. cond (bytes_eq name first.name) (Some first.object) o) (object_named-push_other rest new apart)

-- the object at its place, and the one that takes its place
pub object_named-at : {named : Named} {state : State} → IsAt named state → object_named named.name state ≡ Some named.object
object_named-at {named = named} (here {rest = rest}) = named_first named.name named rest (bytes_told.itself named.name)
object_named-at {named = named} (later {first = first} {rest = rest} apart at) = named_later named.name first rest apart ∙ object_named-at at

pub object_named-with_object : (object : Object Tag) {named : Named} {state : State} → IsAt named state → object_named named.name (with_object named.name object state) ≡ Some object
object_named-with_object object {named = named} (here {rest = rest}) =
    ap (object_named named.name) (with_object_here named object rest) ∙ named_first named.name (record named { object = object }) rest (bytes_told.itself named.name)
object_named-with_object object {named = named} (later {first = first} {rest = rest} apart at) =
    ap (object_named named.name) (with_object_later named first object rest apart)
    ∙ named_later named.name first (with_object named.name object rest) apart ∙ object_named-with_object object at

pub object_named-with_other : (name : List ℕ) (object : Object Tag) {named : Named} {state : State} → IsAt named state → bytes_eq name named.name ≡ false
    → object_named name (with_object named.name object state) ≡ object_named name state
object_named-with_other name object {named = named} (here {rest = rest}) apart =
    ap (object_named name) (with_object_here named object rest) ∙ named_later name (record named { object = object }) rest apart ∙ sym (named_later name named rest apart)
object_named-with_other name object {named = named} (later {first = first} {rest = rest} other at) apart =
    ap (object_named name) (with_object_later named first object rest other)
    ∙ ap (λ o. cond (bytes_eq name first.name) (Some first.object) o) (object_named-with_other name object at apart)

-- a refused call counts for nothing
refused_counts : (call : Call) (state : State) (name : List ℕ) (refusal : Refusal) → (brought_by name call (replies.Refused refusal) ≡ 0) × (removed_by name state call (replies.Refused refusal) ≡ 0)
refused_counts (calls.Sem made n) state name refusal = (cond_both (bytes_eq name made) 0 0 (λ m. m ≡ 0) (λ h. refl) (λ h. refl), refl)
refused_counts (calls.Mutex made) state name refusal = (cond_both (bytes_eq name made) 0 0 (λ m. m ≡ 0) (λ h. refl) (λ h. refl), refl)
refused_counts (calls.Rw made n) state name refusal = (cond_both (bytes_eq name made) 0 0 (λ m. m ≡ 0) (λ h. refl) (λ h. refl), refl)
refused_counts (calls.Release of n) state name refusal = (cond_both (bytes_eq name of) 0 0 (λ m. m ≡ 0) (λ h. refl) (λ h. refl), refl)
refused_counts (calls.Reduce of n) state name refusal = (refl, cond_both (bytes_eq name of) 0 0 (λ m. m ≡ 0) (λ h. refl) (λ h. refl))
refused_counts (calls.Drain of n) state name refusal = (refl, cond_both (bytes_eq name of) 0 0 (λ m. m ≡ 0) (λ h. refl) (λ h. refl))
refused_counts call state name refusal = (cc, cc)

-- The sums alone.
chained : (before between after : ℤ) (came gone came' gone' : ℕ) → between +ℤ pos gone ≡ before +ℤ pos came → after +ℤ pos gone' ≡ between +ℤ pos came'
    → after +ℤ pos (gone + gone') ≡ before +ℤ pos (came + came')
chained before between after came gone came' gone' e k = omega (arith, ints)

module _ (name : List ℕ) (state : State) (is : IsInOrder state) (lets : AllByRecursion (λ (named : Named). HasAShare named.object.kind) state) (call : Call) where
  abbrev Balances : Effect → Type 0
  Balances effect =
      permits_of (object_named name effect.state) +ℤ pos (removed_by name state call effect.reply) ≡ permits_of (object_named name state) +ℤ pos (brought_by name call effect.reply)

  balances-refused : (refusal : Refusal) → Balances (perform (Refuse refusal) state)
  balances-refused refusal = let none = refused_counts call state name refusal in rw (none.0, none.1) refl

  -- what is counted where the name is the object's, and where it isn't
  counted : (effect : Effect) (came gone : ℕ) → removed_by name state call effect.reply ≡ gone → brought_by name call effect.reply ≡ came
      → permits_of (object_named name effect.state) +ℤ pos gone ≡ permits_of (object_named name state) +ℤ pos came → Balances effect
  counted effect came gone e f balances = rw (e, f) balances

  balances-made : (made : List ℕ) (object : Object Tag) → MayMake call state made object → Balances (perform (Make made object) state)
  balances-made made object may =
      let new : Named = record { name = made; object = object } in
      by_bool (bytes_eq name made)
      (λ h.
      let same : made ≡ name = sym (bytes_told.equal name made h) in
      let none : AllByRecursion (IsAbsent name) state = subst (λ (n : List ℕ). AllByRecursion (IsAbsent n) state) same may.none in
      let before : object_named name state ≡ None = ap (object_named name) (sym (append-nil state)) ∙ object_named-absent name state [] none in
      let after : object_named name (state ++ new ∷ []) ≡ Some object = object_named-absent name state (new ∷ []) none ∙ named_first name new [] h in
      counted (perform (Make made object) state) may.count 0 (may.counts.removes name ∙ cond-true _ _ _ h) (may.counts.brings name ∙ cond-true _ _ _ h)
      (rw (before, after) (ap (λ (z : ℤ). z +ℤ pos 0) may.made_with ∙ turned may.count)))
      (λ h.
      counted (perform (Make made object) state) 0 0 (may.counts.removes name ∙ cond-false _ _ _ h) (may.counts.brings name ∙ cond-false _ _ _ h)
      (ap (λ (o : Option (Object Tag)). permits_of o +ℤ pos 0) (object_named-push_other name state new h)))
    where
      turned : (n : ℕ) → pos n +ℤ pos 0 ≡ pos 0 +ℤ pos n
      turned n = omega (arith, ints)

  balances-acted : (of : Named) (rule : Rule (List ℕ)) → MayAct call state of rule → Balances (perform (Act of rule) state)
  balances-acted of rule may =
      let object = (act bytes_eq rule of.object).object in
      by_bool (bytes_eq name of.name)
      (λ h.
      let same : name ≡ of.name = bytes_told.equal name of.name h in
      let before : object_named name state ≡ Some of.object = ap (λ (n : List ℕ). object_named n state) same ∙ object_named-at may.at in
      let after : object_named name (with_object of.name object state) ≡ Some object =
      ap (λ (n : List ℕ). object_named n (with_object of.name object state)) same ∙ object_named-with_object object may.at in
      counted (perform (Act of rule) state) (brought rule) (removed bytes_eq rule of.object) (may.counts.removes name ∙ cond-true _ _ _ h) (may.counts.brings name ∙ cond-true _ _ _ h)
      (rw (before, after) (adds_up-act bytes_eq bytes_told rule of.object may.allowed (all_at _ may.at lets))))
      (λ h.
      counted (perform (Act of rule) state) 0 0 (may.counts.removes name ∙ cond-false _ _ _ h) (may.counts.brings name ∙ cond-false _ _ _ h)
      (ap (λ (o : Option (Object Tag)). permits_of o +ℤ pos 0) (object_named-with_other name object may.at h)))

  balances : Balances (step call state)
  balances = of_step state is call (λ plan effect. Balances effect) balances-refused balances-made (λ of rule may sound. balances-acted of rule may)

kept-from : (calls : List Call) → AllByRecursion ForReaders calls → (name : List ℕ) (state : State) → IsInOrder state → AllByRecursion (λ (named : Named). HasAShare named.object.kind) state
    → permits_of (object_named name (state_from state calls)) +ℤ pos (removed_from name state calls) ≡ permits_of (object_named name state) +ℤ pos (brought_from name state calls)
kept-from [] for name state is lets = refl
kept-from (call ∷ calls) for name state is lets =
    let effect = step call state in
    chained (permits_of (object_named name state)) (permits_of (object_named name effect.state)) (permits_of (object_named name (state_from effect.state calls)))
    (brought_by name call effect.reply) (removed_by name state call effect.reply) (brought_from name effect.state calls) (removed_from name effect.state calls)
    (balances name state is lets call)
    (kept-from calls for.1 name effect.state (in_order-step state is call) (lets-step state is call for.0 lets))

pub kept-after : (calls : List Call) → AllByRecursion ForReaders calls → (name : List ℕ)
    → permits_of (object_named name (state_after calls)) +ℤ pos (removed_from name [] calls) ≡ pos (brought_from name [] calls)
kept-after calls for name = kept-from calls for name [] (record { differ = tt; sound = tt }) tt ∙ from_nothing (brought_from name [] calls)
  where
    from_nothing : (n : ℕ) → pos 0 +ℤ pos n ≡ pos n
    from_nothing n = omega (arith, ints)
