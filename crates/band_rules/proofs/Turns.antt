-- Those in a line stand in the order in which they joined it, those that were granted first.
use Rattle.std.proofs.Common.{◌≡◌, ℕ, ◌+◌, ◌<◌, false, cond, List, [], ◌∷◌, map, Option, Some, None, IfSome, sym, subst, arith}
use Rattle.std.specs.List.{AllByRecursion}
use Rattle.std.specs.Str.{bytes_eq}
use Rattle.std.proofs.lemmas.Bool.{cond-true, cond-false}
use Rattle.band_balance.specs.Laws.{Pairwise}
use Rattle.band_balance.specs.Line.{Entry, requests, entry_of}
use Rattle.band_balance.specs.Object.{Object, asked}
use Rattle.band_balance.specs.Rule.{Rule, has_name, IsFresh, joiner, act}
use Rattle.band_balance.proofs.Fronts.{each_always, pairwise-cross, unmapped}
use Rattle.band_balance.proofs.Held.{other_way}
use Rattle.band_balance.proofs.Orderly.{pairwise-weaker, pairwise-by, all-by}
use Rattle.band_balance.proofs.Rename.{all_of_second, all_of_both}
use Rattle.band_balance.proofs.Requests.{all-weaker, all-not_named}
use Rattle.band_balance.proofs.Rules.{bytes_told, queues-act}
use Rattle.band_balance.proofs.Shares.{both_of_each}
use Rattle.band_script.specs.declared.call.Call.{Call}
use Rattle.band_rules.specs.Joined.{is_joiner, joins, joined_from, joined_at, StandInTurn, GrantedInTurn}
use Rattle.band_rules.specs.Plan.{plan}
use Rattle.band_rules.specs.Script.{state_from, state_after}
use Rattle.band_rules.specs.State.{State, Named, Tag}
use Rattle.band_rules.specs.Step.{step}
use Rattle.band_rules.proofs.Planned.{MayAct}
use Rattle.band_rules.specs.Order.{IsInOrder}
use Rattle.band_rules.proofs.Runs.{of_step, in_order-step}
use Rattle.band_rules.proofs.States.{IsAbsent, all_at, all-with_object}

-- by the numbers of the calls at which names joined, all below `now`
pub record InTurn (number : List ℕ → ℕ) (now : ℕ) (object : Object Tag) : Type 0 where
  pub rising : Pairwise (λ (a b : Entry Tag). number a.name.name < number b.name.name) (requests object.line)
  pub below : AllByRecursion (λ (e : Entry Tag). number e.name.name < now) (requests object.line)

abbrev pub AllInTurn : (List ℕ → ℕ) → ℕ → State → Type 0
AllInTurn number now state = AllByRecursion (λ (named : Named). InTurn number now named.object) state

in_turn-new : (number : List ℕ → ℕ) (now : ℕ) (object : Object Tag) → requests object.line ≡ [] → InTurn number now object
in_turn-new number now object nobody = record {
  rising = subst (Pairwise (λ (a b : Entry Tag). number a.name.name < number b.name.name)) (sym nobody) tt;
  below = subst (AllByRecursion (λ (e : Entry Tag). number e.name.name < now)) (sym nobody) tt;
}

in_turn-later : (number : List ℕ → ℕ) (now : ℕ) (object : Object Tag) → InTurn number now object → InTurn number (now + 1) object
in_turn-later number now object is = record { rising = is.rising; below = all-weaker _ _ (λ e less. later (number e.name.name) less) (requests object.line) is.below }
  where
    later : (n : ℕ) → n < now → n < now + 1
    later n less = omega arith

-- the numbers once a name, if there is one, has joined
abbrev pub renumbered : Option (List ℕ) → ℕ → (List ℕ → ℕ) → List ℕ → ℕ
renumbered who now number name = cond (is_joiner name who) now (number name)

-- who is new changes nothing for the others
in_turn-others : (who : Option (List ℕ)) (number : List ℕ → ℕ) (now : ℕ) (object : Object Tag) → IfSome who (λ name. IsFresh bytes_eq name object) → InTurn number now object
    → InTurn (renumbered who now number) now object
in_turn-others None number now object fresh turn = record { rising = turn.rising; below = turn.below }
in_turn-others (Some name) number now object fresh turn = record {
  rising = pairwise-weaker (λ (e : Entry Tag). bytes_eq e.name.name name ≡ false) _
      (λ (a b : Entry Tag). renumbered (Some name) now number a.name.name < renumbered (Some name) now number b.name.name)
      (λ a b x y less. rw (cond-false _ now (number a.name.name) x, cond-false _ now (number b.name.name) y) less) (requests object.line) others turn.rising;
  below = both_of_each _ _ (λ (e : Entry Tag). renumbered (Some name) now number e.name.name < now) (λ (e : Entry Tag) x less. rw (cond-false _ now (number e.name.name) x) less)
      (requests object.line) others turn.below;
}
  where
    others : AllByRecursion (λ (e : Entry Tag). bytes_eq e.name.name name ≡ false) (requests object.line)
    others = all-weaker _ _ (λ (e : Entry Tag) apart. other_way bytes_eq bytes_told name e.name.name apart) (requests object.line)
        (all_of_second _ object.ended (requests object.line) (all-not_named (has_name bytes_eq name) (asked object) fresh.asked))

-- and it joins after them
in_turn-act : (number : List ℕ → ℕ) (now : ℕ) (call : Call) (state : State) (of : Named) (rule : Rule (List ℕ)) → MayAct call state of rule
    → InTurn (renumbered (joiner rule of.object) now number) now of.object → InTurn (renumbered (joiner rule of.object) now number) (now + 1) (act bytes_eq rule of.object).object
in_turn-act number now call state of rule may is =
    let queues = queues-act bytes_eq bytes_told rule of.object may.allowed in
    let wider = in_turn-later (renumbered (joiner rule of.object) now number) now of.object is in
    record {
      rising = pairwise-by bytes_eq of.object (λ a b. renumbered (joiner rule of.object) now number a < renumbered (joiner rule of.object) now number b) queues is.rising
          (last (joiner rule of.object) is.below);
      below = all-by bytes_eq of.object (λ name. renumbered (joiner rule of.object) now number name < now + 1) queues wider.below (newest (joiner rule of.object));
    }
  where
    own : (name : List ℕ) → renumbered (Some name) now number name ≡ now
    own name = cond-true (bytes_eq name name) _ _ (bytes_told.itself name)

    last : (who : Option (List ℕ)) → AllByRecursion (λ (e : Entry Tag). renumbered who now number e.name.name < now) (requests of.object.line)
        → IfSome who (λ name. AllByRecursion (λ (e : Entry Tag). renumbered who now number e.name.name < renumbered who now number name) (requests of.object.line))
    last None below = tt
    last (Some name) below = all-weaker _ _ (λ (e : Entry Tag) less. rw (own name) less) (requests of.object.line) below

    newest : (who : Option (List ℕ)) → IfSome who (λ name. renumbered who now number name < now + 1)
    newest None = tt
    newest (Some name) = rw (own name) (omega arith)

in_turn-step : (number : List ℕ → ℕ) (now : ℕ) (state : State) → IsInOrder state → (call : Call) → AllInTurn number now state
    → AllInTurn (λ name. cond (joins name (plan call state)) now (number name)) (now + 1) (step call state).state
in_turn-step number now state is call each =
    of_step state is call (λ plan effect. AllInTurn (λ name. cond (joins name plan) now (number name)) (now + 1) effect.state)
    (λ refusal. all-weaker _ _ (λ (named : Named) in_turn. in_turn-later number now named.object in_turn) state each)
    (λ made object may.
    all_of_both _ state _ (all-weaker _ _ (λ (named : Named) in_turn. in_turn-later number now named.object in_turn) state each)
    (in_turn-new number (now + 1) object may.new.nobody, tt))
    (λ of rule may sound.
    let who = joiner rule of.object in
    let renewed : AllInTurn (renumbered who now number) now state =
    both_of_each _ _ _ (λ (named : Named) fresh in_turn. in_turn-others who number now named.object fresh in_turn) state (fresh_each who may.joins) each in
    all-with_object of.name (act bytes_eq rule of.object).object _ state
    (all-weaker _ _ (λ (named : Named) in_turn. in_turn-later (renumbered who now number) now named.object in_turn) state renewed)
    (λ named before. in_turn-act number now call state of rule may (all_at _ may.at renewed)))
  where
    fresh_each : (who : Option (List ℕ)) → IfSome who (λ name. AllByRecursion (IsAbsent name) state) → AllByRecursion (λ (named : Named). IfSome who (λ name. IsFresh bytes_eq name named.object)) state
    fresh_each None none = each_always _ (λ named. tt) state
    fresh_each (Some name) none = all-weaker (IsAbsent name) _ (λ named gone. gone.fresh) state none

in_turn-from : (calls : List Call) (number : List ℕ → ℕ) (now : ℕ) (state : State) → IsInOrder state → AllInTurn number now state
    → (later : ℕ) × AllInTurn (λ name. joined_from name (number name) now state calls) later (state_from state calls)
in_turn-from [] number now state is each = (now, each)
in_turn-from (call ∷ calls) number now state is each =
    in_turn-from calls (λ name. cond (joins name (plan call state)) now (number name)) (now + 1) (step call state).state (in_order-step state is call) (in_turn-step number now state is call each)

in_turn-after : (calls : List Call) → (later : ℕ) × AllInTurn (λ name. joined_at name calls) later (state_after calls)
in_turn-after calls = in_turn-from calls (λ name. 0) 1 [] (record { differ = tt; sound = tt }) tt

pub stand-after : (calls : List Call) → AllByRecursion (λ (named : Named). StandInTurn calls named.object.line) (state_after calls)
stand-after calls = all-weaker _ _ (λ named turn. turn.rising) (state_after calls) (in_turn-after calls).1

pub granted-after : (calls : List Call) → AllByRecursion (λ (named : Named). GrantedInTurn calls named.object.line) (state_after calls)
granted-after calls =
    all-weaker _ _ (λ (named : Named) turn. unmapped entry_of _ named.object.line.waiting (pairwise-cross _ named.object.line.granted (map entry_of named.object.line.waiting) turn))
    (state_after calls)
    (stand-after calls)
