-- What is found under a name in a state, and the state with another object under a name.
use Rattle.std.proofs.Common.{◌≡◌, ℕ, Bool, true, false, List, [], ◌∷◌, ◌++◌, Option, Some, None, refl, sym, ◌∙◌}
use Rattle.std.specs.List.{AllByRecursion}
use Rattle.std.specs.Str.{bytes_eq}
use Rattle.std.proofs.lemmas.Bool.{cond-true, cond-false, cond_both, false≢true}
use Rattle.band_balance.specs.Line.{Entry, entry_named}
use Rattle.band_balance.specs.Object.{Object, asked}
use Rattle.band_balance.specs.Rule.{has_name, IsFresh}
use Rattle.band_balance.proofs.Held.{other_way}
use Rattle.band_balance.proofs.Orderly.{pairwise-push}
use Rattle.band_balance.proofs.Requests.{all-weaker}
use Rattle.band_balance.proofs.Rules.{bytes_told}
use Rattle.band_balance.proofs.Shares.{both_of_each}
use Rattle.band_rules.specs.Order.{NamesDiffer}
use Rattle.band_rules.specs.State.{State, Named, Tag, Standing, Absent, AnObject, ARequest, AHolding, standing_at, standing}
use Rattle.band_rules.specs.Step.{with_object}

-- the first object with its name
pub data IsAt (named : Named) : State → Type 0 where
  here : {rest : State} → IsAt named (named ∷ rest)
  later : {first : Named} {rest : State} → bytes_eq named.name first.name ≡ false → IsAt named rest → IsAt named (first ∷ rest)

pub each_is_at : (state : State) → NamesDiffer state → AllByRecursion (λ (named : Named). IsAt named state) state
each_is_at [] differ = tt
each_is_at (first ∷ rest) differ =
    (here, both_of_each _ _ _ (λ named apart at. later (other_way bytes_eq bytes_told first.name named.name apart) at) rest differ.0 (each_is_at rest differ.1))

pub all_at : (P : Named → Type 0) {named : Named} {state : State} → IsAt named state → AllByRecursion P state → P named
all_at P here each = each.0
all_at P (later apart at) each = all_at P at each.1

-- two objects with one name are one
pub same_named : (a b : Named) {state : State} → IsAt a state → IsAt b state → bytes_eq a.name b.name ≡ true → a ≡ b
same_named a b here here same = refl
same_named a b here (later apart at) same = absurd (false≢true (sym (other_way bytes_eq bytes_told b.name a.name apart) ∙ same))
same_named a b (later apart at) here same = absurd (false≢true (sym apart ∙ same))
same_named a b (later apart at) (later other at_other) same = same_named a b at at_other same

-- what is found has what each has, and is found where it stands
abbrev pub Found : (Named → Type 0) → List ℕ → Standing → Type 0
Found P name Absent = Unit {0}
Found P name (AnObject it) = P it × (bytes_eq name it.name ≡ true)
Found P name (ARequest of entry) = P of × (entry_named (has_name bytes_eq name) (asked of.object) ≡ Some entry)
Found P name (AHolding of entry) = P of × (entry_named (has_name bytes_eq name) of.object.held ≡ Some entry)

pub found : (P : Named → Type 0) (name : List ℕ) (state : State) → AllByRecursion P state → Found P name (standing name state)
found P name [] each = tt
found P name (first ∷ rest) each = go (found P name rest each.1) (bytes_eq name first.name) refl _ refl _ refl
  where
    go : Found P name (standing name rest) → (b : Bool) → bytes_eq name first.name ≡ b → (request : Option (Entry Tag)) → entry_named (has_name bytes_eq name) (asked first.object) ≡ request
        → (holding : Option (Entry Tag)) → entry_named (has_name bytes_eq name) first.object.held ≡ holding → Found P name (standing_at first b request holding (standing name rest))
    go elsewhere true is request there holding also = (each.0, is)
    go elsewhere false is (Some entry) there holding also = (each.0, there)
    go elsewhere false is None there (Some entry) also = (each.0, also)
    go elsewhere false is None there None also = elsewhere

-- a name that is absent is no object's, and no entry's
pub record IsAbsent (name : List ℕ) (named : Named) : Type 0 where
  pub apart : bytes_eq name named.name ≡ false
  pub fresh : IsFresh bytes_eq name named.object

pub absent : (name : List ℕ) (state : State) → standing name state ≡ Absent → AllByRecursion (IsAbsent name) state
absent name [] is = tt
absent name (first ∷ rest) is = go (absent name rest) (bytes_eq name first.name) refl _ refl _ refl is
  where
    go : (standing name rest ≡ Absent → AllByRecursion (IsAbsent name) rest) → (b : Bool) → bytes_eq name first.name ≡ b → (request : Option (Entry Tag))
        → entry_named (has_name bytes_eq name) (asked first.object) ≡ request
        → (holding : Option (Entry Tag)) → entry_named (has_name bytes_eq name) first.object.held ≡ holding → standing_at first b request holding (standing name rest) ≡ Absent
        → AllByRecursion (IsAbsent name) (first ∷ rest)
    go rests false apart None there None also none = (record { apart = apart; fresh = record { asked = there; held = also } }, rests none)
    go rests b apart request there holding also none = cc

-- Another object under a name that one has.
module _ (name : List ℕ) (object : Object Tag) where
  pub all-with_object : (P : Named → Type 0) (state : State) → AllByRecursion P state → ((named : Named) → P named → P (record named { object = object }))
      → AllByRecursion P (with_object name object state)
  all-with_object P [] each changes = tt
  all-with_object P (first ∷ rest) each changes =
      cond_both (bytes_eq name first.name) _ _ (AllByRecursion P) (λ h. (changes first each.0, each.1)) (λ h. (each.0, all-with_object P rest each.1 changes))

  pub names_differ-with_object : (state : State) → NamesDiffer state → NamesDiffer (with_object name object state)
  names_differ-with_object [] differ = tt
  names_differ-with_object (first ∷ rest) differ =
      cond_both (bytes_eq name first.name) _ _ NamesDiffer
      (λ h. (differ.0, differ.1))
      (λ h. (all-with_object (λ (later : Named). bytes_eq first.name later.name ≡ false) rest differ.0 (λ named apart. apart), names_differ-with_object rest differ.1))

-- the first with its name changes, and those before it stay
pub with_object_here : (named : Named) (object : Object Tag) (rest : State) → with_object named.name object (named ∷ rest) ≡ record named { object = object } ∷ rest
with_object_here named object rest = cond-true (bytes_eq named.name named.name) _ _ (bytes_told.itself named.name)

pub with_object_later : (named first : Named) (object : Object Tag) (rest : State) → bytes_eq named.name first.name ≡ false
    → with_object named.name object (first ∷ rest) ≡ first ∷ with_object named.name object rest
with_object_later named first object rest apart = cond-false (bytes_eq named.name first.name) _ _ apart

-- a new object under a name that is absent
pub names_differ-push : (state : State) (made : List ℕ) (object : Object Tag) → NamesDiffer state → AllByRecursion (IsAbsent made) state
    → NamesDiffer (state ++ record { name = made; object = object } ∷ [])
names_differ-push state made object differ none =
    pairwise-push _ state (record { name = made; object = object }) differ
    (all-weaker (IsAbsent made) (λ (named : Named). bytes_eq named.name made ≡ false) (λ named gone. other_way bytes_eq bytes_told made named.name gone.apart) state none)
