-- A call wakes those that waited before it and are granted or ended after it, and nobody where it gives nothing back. A refused call changes nothing.
use Rattle.std.proofs.Common.{◌≡◌, ℕ, true, false, ◌||◌, List, [], ◌∷◌, ◌++◌, refl, sym, ap, ap₂, ◌∙◌, subst, append-nil}
use Rattle.std.specs.List.{AllByRecursion}
use Rattle.std.proofs.lemmas.Bool.{cond-true, cond-false}
use Rattle.std.specs.Str.{bytes_eq}
use Rattle.band_base.specs.declared.refusal.Refusal.{Refusal}
use Rattle.band_balance.specs.Laws.{told_between, GrantsAFront}
use Rattle.band_balance.specs.Line.{Waiting}
use Rattle.band_balance.specs.Object.{Object, Answer, Done}
use Rattle.band_balance.specs.Rule.{Rule, act, leaver}
use Rattle.band_balance.proofs.Fronts.{told-same, front-same}
use Rattle.band_balance.proofs.Rules.{bytes_told, woken-act, nobody-act, front-act}
use Rattle.band_balance.proofs.Settle.{wakers}
use Rattle.band_script.specs.declared.call.Call.{Call}
use Rattle.band_rules.specs.declared.reply.Reply.TheVariants as replies
use Rattle.band_rules.specs.Plan.{Plan, Refuse, Make, Act, plan}
use Rattle.band_rules.specs.Script.{state_after}
use Rattle.band_rules.specs.State.{State, Named, Tag}
use Rattle.band_rules.specs.Step.{reply_of, perform, with_object, step}
use Rattle.band_rules.specs.Woken.{told_now, WakesWhoIsTold, leaver_by, EachGrantsAFront, RefusesWhole, may_grant, may_wake}
use Rattle.band_rules.specs.Order.{Sound, NamesDiffer, IsInOrder}
use Rattle.band_rules.proofs.Runs.{of_step, in_order-after}
use Rattle.band_rules.proofs.States.{IsAt, here, later, with_object_here, with_object_later}

abbrev AllSound : State → Type 0
AllSound state = AllByRecursion Sound state

-- Nobody is told in a state that stays, to which a new object may come; where one object changes, those are told that it tells.
told_now-push : (state more : State) → AllSound state → told_now state (state ++ more) ≡ []
told_now-push [] more sound = refl
told_now-push (first ∷ rest) more sound =
    ap₂ (λ (xs ys : List (Waiting Tag)). xs ++ ys) (told-same bytes_eq bytes_told first.object sound.0) (told_now-push rest more sound.1)

told_now-same : (state : State) → AllSound state → told_now state state ≡ []
told_now-same state sound = ap (told_now state) (sym (append-nil state)) ∙ told_now-push state [] sound

told_now-with_object : (object : Object Tag) {of : Named} {state : State} → IsAt of state → AllSound state
    → told_now state (with_object of.name object state) ≡ told_between bytes_eq of.object object
told_now-with_object object {of = of} (here {rest = rest}) sound =
    ap (told_now (of ∷ rest)) (with_object_here of object rest)
    ∙ ap (λ (ws : List (Waiting Tag)). told_between bytes_eq of.object object ++ ws) (told_now-same rest sound.1)
    ∙ append-nil (told_between bytes_eq of.object object)
told_now-with_object object {of = of} (later {first = first} {rest = rest} apart at) sound =
    ap (told_now (first ∷ rest)) (with_object_later of first object rest apart)
    ∙ ap₂ (λ (xs ys : List (Waiting Tag)). xs ++ ys) (told-same bytes_eq bytes_told first.object sound.0) (told_now-with_object object at sound.1)

front-push : (plan : Plan) → ((named : Named) → leaver_by plan named ≡ (λ tag. false)) → (state more : State) → AllSound state → EachGrantsAFront plan state (state ++ more)
front-push plan nobody [] more sound = tt
front-push plan nobody (first ∷ rest) more sound = (
  subst (λ left. GrantsAFront bytes_eq left first.object.line first.object.line) (sym (nobody first)) (front-same bytes_eq bytes_told first.object sound.0),
  front-push plan nobody rest more sound.1,
)

-- the others stay
fronts-others : (of : Named) (rule : Rule (List ℕ)) (state : State) → AllByRecursion (λ (named : Named). bytes_eq of.name named.name ≡ false) state → AllSound state
    → EachGrantsAFront (Act of rule) state state
fronts-others of rule [] others sound = tt
fronts-others of rule (first ∷ rest) others sound = (
  subst (λ left. GrantsAFront bytes_eq left first.object.line first.object.line) (sym (cond-false _ _ _ others.0)) (front-same bytes_eq bytes_told first.object sound.0),
  fronts-others of rule rest others.1 sound.1,
)

front-with_object : (rule : Rule (List ℕ)) (object : Object Tag) {of : Named} {state : State} → IsAt of state → NamesDiffer state → AllSound state
    → GrantsAFront bytes_eq (leaver bytes_eq rule of.object) of.object.line object.line → EachGrantsAFront (Act of rule) state (with_object of.name object state)
front-with_object rule object {of = of} (here {rest = rest}) differ sound front =
    subst (EachGrantsAFront (Act of rule) (of ∷ rest)) (sym (with_object_here of object rest))
    (subst (λ left. GrantsAFront bytes_eq left of.object.line object.line) (sym (cond-true _ _ _ (bytes_told.itself of.name))) front, fronts-others of rule rest differ.0 sound.1)
front-with_object rule object {of = of} (later {first = first} {rest = rest} apart at) differ sound front =
    subst (EachGrantsAFront (Act of rule) (first ∷ rest)) (sym (with_object_later of first object rest apart)) (
      subst (λ left. GrantsAFront bytes_eq left first.object.line first.object.line) (sym (cond-false _ _ _ apart)) (front-same bytes_eq bytes_told first.object sound.0),
      front-with_object rule object at differ.1 sound.1 front,
    )

module _ (state : State) (is : IsInOrder state) (call : Call) where
  wakes : WakesWhoIsTold state (step call state)
  wakes =
      of_step state is call (λ plan effect. WakesWhoIsTold state effect)
      (λ refusal. sym (ap wakers (told_now-same state is.sound)))
      (λ made object may. sym (ap wakers (told_now-push state (record { name = made; object = object } ∷ []) is.sound)))
      (λ of rule may sound.
      woken-act bytes_eq bytes_told rule of.object may.allowed sound
      ∙ sym (ap wakers (told_now-with_object (act bytes_eq rule of.object).object may.at is.sound)))

  nobody : may_wake call ≡ false → (step call state).woken ≡ []
  nobody none =
      of_step state is call (λ plan effect. effect.woken ≡ []) (λ refusal. refl) (λ made object may. refl)
      (λ of rule may sound. nobody-act bytes_eq bytes_told rule of.object may.allowed sound (ap₂ (λ a b. a || b) may.gives may.ends ∙ none))

  front : may_grant call ≡ true → EachGrantsAFront (plan call state) state (step call state).state
  front gives =
      of_step state is call (λ plan effect. EachGrantsAFront plan state effect.state)
      (λ refusal. subst (EachGrantsAFront (Refuse refusal) state) (append-nil state) (front-push (Refuse refusal) (λ named. refl) state [] is.sound))
      (λ made object may. front-push (Make made object) (λ named. refl) state (record { name = made; object = object } ∷ []) is.sound)
      (λ of rule may sound.
      front-with_object rule (act bytes_eq rule of.object).object may.at is.differ is.sound (front-act bytes_eq bytes_told rule of.object may.allowed sound (may.gives ∙ gives)))

pub wakes-after : (calls : List Call) (call : Call) → WakesWhoIsTold (state_after calls) (step call (state_after calls))
wakes-after calls call = wakes (state_after calls) (in_order-after calls) call

pub nobody-after : (calls : List Call) (call : Call) → may_wake call ≡ false → (step call (state_after calls)).woken ≡ []
nobody-after calls call = nobody (state_after calls) (in_order-after calls) call

pub front-after : (calls : List Call) (call : Call) → may_grant call ≡ true → EachGrantsAFront (plan call (state_after calls)) (state_after calls) (step call (state_after calls)).state
front-after calls call = front (state_after calls) (in_order-after calls) call

-- no rule of an object refuses
not_refused : (answer : Answer) (refusal : Refusal) → reply_of answer ≡ replies.Refused refusal → ⊥
not_refused Done refusal is = cc
not_refused answer refusal is = cc

pub refuses_whole : (state : State) (call : Call) → RefusesWhole state (step call state)
refuses_whole state call = go (plan call state)
  where
    go : (plan : Plan) → RefusesWhole state (perform plan state)
    go (Refuse refusal) = λ other is. (refl, refl)
    go (Make made object) = λ refusal is. cc
    go (Act of rule) = λ refusal is. absurd (not_refused (act bytes_eq rule of.object).answer refusal is)
