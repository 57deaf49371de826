-- What is closed stays closed, and only a close closes: by each step, and so over any calls.
use Rattle.std.proofs.Common.{◌≡◌, ℕ, Bool, true, false, ◌||◌, List, [], ◌∷◌, ◌++◌, Option, Some, None, refl, sym, ap, ◌∙◌, subst, append-nil}
use Rattle.std.specs.List.{AllByRecursion}
use Rattle.std.specs.Option.{option_map_or}
use Rattle.std.specs.Str.{bytes_eq}
use Rattle.std.proofs.lemmas.Bool.{cond-true, cond-false}
use Rattle.band_base.specs.declared.refusal.Refusal.{Refusal}
use Rattle.band_balance.specs.Object.{Object}
use Rattle.band_balance.specs.Rule.{Rule, act, closes}
use Rattle.band_balance.proofs.Held.{by_bool}
use Rattle.band_balance.proofs.Rules.{bytes_told, closed-act}
use Rattle.band_script.specs.declared.call.Call.{Call}
use Rattle.band_script.specs.declared.call.Call.TheVariants as calls
use Rattle.band_rules.specs.Closing.{is_closed, closed_by, closed_from}
use Rattle.band_rules.specs.declared.reply.Reply.TheVariants as replies
use Rattle.band_rules.specs.Order.{IsInOrder}
use Rattle.band_rules.specs.Permits.{object_named}
use Rattle.band_rules.specs.Plan.{Refuse, Make, Act}
use Rattle.band_rules.specs.Script.{state_from, state_after}
use Rattle.band_rules.specs.State.{State, Named, Tag}
use Rattle.band_rules.specs.Step.{Effect, perform, with_object, step}
use Rattle.band_rules.proofs.Keeping.{named_first, object_named-absent, object_named-push_other, object_named-at, object_named-with_object, object_named-with_other}
use Rattle.band_rules.proofs.Planned.{MayMake, MayAct}
use Rattle.band_rules.proofs.Runs.{of_step, in_order-step, in_order-after}
use Rattle.band_rules.proofs.States.{IsAbsent}

-- a refused call closes nothing
refused_closes : (name : List ℕ) (call : Call) (refusal : Refusal) → closed_by name call (replies.Refused refusal) ≡ false
refused_closes name (calls.Close of) refusal = refl
refused_closes name call refusal = refl

-- whether an object that is looked up is there and closed
abbrev shut_in : Option (Object Tag) → Bool
shut_in found = option_map_or (λ object. object.closed) found false

module _ (name : List ℕ) (state : State) (is : IsInOrder state) (call : Call) where
  abbrev Closes : Effect → Type 0
  Closes effect = is_closed name effect.state ≡ closed_by name call effect.reply || is_closed name state

  closes-refused : (refusal : Refusal) → Closes (perform (Refuse refusal) state)
  closes-refused refusal = rw (refused_closes name call refusal) refl

  -- by what the call's plan closes
  closes_as : (effect : Effect) (shut : Bool) → closed_by name call effect.reply ≡ shut → is_closed name effect.state ≡ shut || is_closed name state → Closes effect
  closes_as effect shut by closes = closes ∙ ap (λ (b : Bool). b || is_closed name state) (sym by)

  closes-made : (made : List ℕ) (object : Object Tag) → MayMake call state made object → Closes (perform (Make made object) state)
  closes-made made object may =
      let new : Named = record { name = made; object = object } in
      by_bool (bytes_eq name made)
      (λ h.
      let same : made ≡ name = sym (bytes_told.equal name made h) in
      let none : AllByRecursion (IsAbsent name) state = subst (λ (n : List ℕ). AllByRecursion (IsAbsent n) state) same may.none in
      let before : object_named name state ≡ None = ap (object_named name) (sym (append-nil state)) ∙ object_named-absent name state [] none in
      let after : object_named name (state ++ new ∷ []) ≡ Some object = object_named-absent name state (new ∷ []) none ∙ named_first name new [] h in
      closes_as (perform (Make made object) state) false (may.counts.closes name ∙ cond-true _ _ _ h) (ap shut_in after ∙ may.not_closed ∙ sym (ap shut_in before)))
      (λ h. closes_as (perform (Make made object) state) false (may.counts.closes name ∙ cond-false _ _ _ h) (ap shut_in (object_named-push_other name state new h)))

  closes-acted : (of : Named) (rule : Rule (List ℕ)) → MayAct call state of rule → Closes (perform (Act of rule) state)
  closes-acted of rule may =
      let object = (act bytes_eq rule of.object).object in
      by_bool (bytes_eq name of.name)
      (λ h.
      let same : name ≡ of.name = bytes_told.equal name of.name h in
      let before : object_named name state ≡ Some of.object = ap (λ (n : List ℕ). object_named n state) same ∙ object_named-at may.at in
      let after : object_named name (with_object of.name object state) ≡ Some object =
      ap (λ (n : List ℕ). object_named n (with_object of.name object state)) same ∙ object_named-with_object object may.at in
      closes_as (perform (Act of rule) state) (closes rule) (may.counts.closes name ∙ cond-true _ _ _ h)
      (ap shut_in after ∙ closed-act bytes_eq bytes_told rule of.object may.allowed ∙ ap (λ (b : Bool). closes rule || b) (sym (ap shut_in before))))
      (λ h. closes_as (perform (Act of rule) state) false (may.counts.closes name ∙ cond-false _ _ _ h) (ap shut_in (object_named-with_other name object may.at h)))

  closes-step : Closes (step call state)
  closes-step = of_step state is call (λ plan effect. Closes effect) closes-refused closes-made (λ of rule may sound. closes-acted of rule may)

either_way : (a b c : Bool) → a || (b || c) ≡ (b || a) || c
either_way true true c = refl
either_way true false c = refl
either_way false true c = refl
either_way false false c = refl

or_false : (a : Bool) → a || false ≡ a
or_false true = refl
or_false false = refl

or_true : (a : Bool) → a || true ≡ true
or_true true = refl
or_true false = refl

closed-from : (name : List ℕ) (calls : List Call) (state : State) → IsInOrder state → is_closed name (state_from state calls) ≡ closed_from name state calls || is_closed name state
closed-from name [] state is = refl
closed-from name (call ∷ calls) state is =
    let effect = step call state in
    closed-from name calls effect.state (in_order-step state is call) ∙ ap (λ (b : Bool). closed_from name effect.state calls || b) (closes-step name state is call)
    ∙ either_way (closed_from name effect.state calls) (closed_by name call effect.reply) (is_closed name state)

state_from-append : (state : State) (first second : List Call) → state_from state (first ++ second) ≡ state_from (state_from state first) second
state_from-append state [] second = refl
state_from-append state (call ∷ first) second = state_from-append (step call state).state first second

pub closed-after : (calls : List Call) (name : List ℕ) → is_closed name (state_after calls) ≡ closed_from name [] calls
closed-after calls name = closed-from name calls [] (in_order-after []) ∙ or_false (closed_from name [] calls)

pub stays_closed : (calls more : List Call) (name : List ℕ) → is_closed name (state_after calls) ≡ true → is_closed name (state_after (calls ++ more)) ≡ true
stays_closed calls more name shut =
    let state = state_after calls in
    ap (is_closed name) (state_from-append [] calls more) ∙ closed-from name more state (in_order-after calls)
    ∙ ap (λ (b : Bool). closed_from name state more || b) shut ∙ or_true (closed_from name state more)
