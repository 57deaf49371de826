-- What calls in a row keep of the objects of a state.
use Rattle.std.proofs.Common.{ℕ, List, [], ◌∷◌, sym, subst}
use Rattle.std.specs.List.{AllByRecursion}
use Rattle.std.specs.Str.{bytes_eq}
use Rattle.band_base.specs.declared.refusal.Refusal.{Refusal}
use Rattle.band_balance.specs.Laws.{EndsAs, IsWithin, HasAShare, KeepsShares, IsExclusive}
use Rattle.band_balance.specs.Object.{Object}
use Rattle.band_balance.specs.Rule.{Rule, act}
use Rattle.band_balance.specs.Settled.{HeadWaits}
use Rattle.band_balance.proofs.Rename.{all_of_both}
use Rattle.band_balance.proofs.Requests.{all-weaker}
use Rattle.band_balance.proofs.Rules.{bytes_told, orderly-act, within-act, shares-act, kind-act}
use Rattle.band_balance.proofs.Shares.{both_of_each, exclusive}
use Rattle.band_script.specs.Call.{ForReaders}
use Rattle.band_script.specs.declared.call.Call.{Call}
use Rattle.band_rules.specs.Bounds.{HasNumbers}
use Rattle.band_rules.specs.Order.{Sound, IsInOrder}
use Rattle.band_rules.specs.Plan.{Plan, Refuse, Make, Act, plan}
use Rattle.band_rules.specs.Script.{state_from, state_after}
use Rattle.band_rules.specs.State.{State, Named, Tag}
use Rattle.band_rules.specs.Step.{Effect, perform, step}
use Rattle.band_rules.proofs.Planned.{MayMake, MayAct, IsPlanned, planned}
use Rattle.band_rules.proofs.States.{all_at, all-with_object, names_differ-with_object, names_differ-push}

-- what is so of each plan that a call may have is so of its step
module _ (state : State) (is : IsInOrder state) (call : Call) (P : Plan → Effect → Type 0)
    (refusing : (refusal : Refusal) → P (Refuse refusal) (perform (Refuse refusal) state))
    (making : (made : List ℕ) (object : Object Tag) → MayMake call state made object → P (Make made object) (perform (Make made object) state))
    (acting : (of : Named) (rule : Rule (List ℕ)) → MayAct call state of rule → Sound of → P (Act of rule) (perform (Act of rule) state)) where
  pub of_step : P (plan call state) (step call state)
  of_step = go (plan call state) (planned state is.differ is.sound call)
    where
      go : (plan : Plan) → IsPlanned call state plan → P plan (perform plan state)
      go (Refuse refusal) may = refusing refusal
      go (Make made object) may = making made object may
      go (Act of rule) may = acting of rule may (all_at Sound may.at is.sound)

pub in_order-step : (state : State) → IsInOrder state → (call : Call) → IsInOrder (step call state).state
in_order-step state is call =
    of_step state is call (λ plan effect. IsInOrder effect.state)
    (λ refusal. is)
    (λ made object may. record { differ = names_differ-push state made object is.differ may.none; sound = all_of_both Sound state _ is.sound (may.new.orderly, tt) })
    (λ of rule may sound.
    let object = (act bytes_eq rule of.object).object in
    record {
      differ = names_differ-with_object of.name object state is.differ;
      sound = all-with_object of.name object Sound state is.sound (λ named before. orderly-act bytes_eq bytes_told rule of.object may.allowed sound);
    })

pub in_order-from : (calls : List Call) (state : State) → IsInOrder state → IsInOrder (state_from state calls)
in_order-from [] state is = is
in_order-from (call ∷ calls) state is = in_order-from calls (step call state).state (in_order-step state is call)

pub in_order-after : (calls : List Call) → IsInOrder (state_after calls)
in_order-after calls = in_order-from calls [] (record { differ = tt; sound = tt })

-- what rules keep of an object, and what calls of a kind make objects with
module _ (P : Object Tag → Type 0) (Fine : Call → Type 0)
    (keeps : (call : Call) (state : State) (of : Named) (rule : Rule (List ℕ)) → MayAct call state of rule → P of.object → P (act bytes_eq rule of.object).object)
    (begins : (call : Call) (state : State) (made : List ℕ) (object : Object Tag) → Fine call → MayMake call state made object → P object) where
  abbrev Each : State → Type 0
  Each state = AllByRecursion (λ (named : Named). P named.object) state

  pub each-step : (state : State) → IsInOrder state → (call : Call) → Fine call → Each state → Each (step call state).state
  each-step state is call fine each =
      of_step state is call (λ plan effect. Each effect.state)
      (λ refusal. each)
      (λ made object may. all_of_both _ state _ each (begins call state made object fine may, tt))
      (λ of rule may sound. all-with_object of.name _ _ state each (λ named before. keeps call state of rule may (all_at _ may.at each)))

  each-from : (calls : List Call) → AllByRecursion Fine calls → (state : State) → IsInOrder state → Each state → Each (state_from state calls)
  each-from [] fine state is each = each
  each-from (call ∷ calls) fine state is each = each-from calls fine.1 (step call state).state (in_order-step state is call) (each-step state is call fine.0 each)

  pub each-after : (calls : List Call) → AllByRecursion Fine calls → Each (state_after calls)
  each-after calls fine = each-from calls fine [] (record { differ = tt; sound = tt }) tt

pub heads-after : (calls : List Call) → AllByRecursion (λ (named : Named). HeadWaits named.object.line.free named.object.line.waiting) (state_after calls)
heads-after calls = all-weaker Sound _ (λ named sound. sound.head_waits) (state_after calls) (in_order-after calls).sound

pub closing-after : (calls : List Call) → AllByRecursion (λ (named : Named). EndsAs named.object.closed named.object) (state_after calls)
closing-after calls = all-weaker Sound _ (λ named sound. sound.closing) (state_after calls) (in_order-after calls).sound

-- Locks let one in at least, and have all of their shares.
pub lets-step : (state : State) → IsInOrder state → (call : Call) → ForReaders call → AllByRecursion (λ (named : Named). HasAShare named.object.kind) state
    → AllByRecursion (λ (named : Named). HasAShare named.object.kind) (step call state).state
lets-step =
    each-step (λ object. HasAShare object.kind) ForReaders
    (λ call state of rule may is. subst HasAShare (sym (kind-act bytes_eq bytes_told rule of.object may.allowed)) is)
    (λ call state made object for may. may.lets for)

record Shares (object : Object Tag) : Type 0 where
  lets : HasAShare object.kind
  has : KeepsShares object

shares-after : (calls : List Call) → AllByRecursion ForReaders calls → AllByRecursion (λ (named : Named). Shares named.object) (state_after calls)
shares-after =
    each-after Shares ForReaders
    (λ call state of rule may is. record {
      lets = subst HasAShare (sym (kind-act bytes_eq bytes_told rule of.object may.allowed)) is.lets;
      has = shares-act bytes_eq bytes_told rule of.object may.allowed is.lets is.has;
    })
    (λ call state made object for may. record { lets = may.lets for; has = may.new.keeps_shares })

pub exclusive-after : (calls : List Call) → AllByRecursion ForReaders calls → AllByRecursion (λ (named : Named). IsExclusive named.object) (state_after calls)
exclusive-after calls for =
    both_of_each Sound (λ (named : Named). Shares named.object) _ (λ named sound is. exclusive bytes_eq named.object is.lets is.has sound) (state_after calls)
    (in_order-after calls).sound (shares-after calls for)

-- What is granted and held is within the largest count.
record Bounded (object : Object Tag) : Type 0 where
  lets : HasAShare object.kind
  within : IsWithin object

bounded-after : (calls : List Call) → AllByRecursion (λ (call : Call). ForReaders call × HasNumbers call) calls → AllByRecursion (λ (named : Named). Bounded named.object) (state_after calls)
bounded-after =
    each-after Bounded (λ (call : Call). ForReaders call × HasNumbers call)
    (λ call state of rule may is. record {
      lets = subst HasAShare (sym (kind-act bytes_eq bytes_told rule of.object may.allowed)) is.lets;
      within = within-act bytes_eq bytes_told rule of.object may.allowed is.lets is.within;
    })
    (λ call state made object fine may. record { lets = may.lets fine.0; within = may.within fine.1 })

pub within-after : (calls : List Call) → AllByRecursion ForReaders calls → AllByRecursion HasNumbers calls → AllByRecursion (λ (named : Named). IsWithin named.object) (state_after calls)
within-after calls for small =
    all-weaker _ _ (λ named is. is.within) (state_after calls)
    (bounded-after calls (both_of_each ForReaders HasNumbers _ (λ call a b. (a, b)) calls for small))
