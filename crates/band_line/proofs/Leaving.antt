-- Lemmas on who leaves a line, for callers.
use Rattle.std.proofs.Common.{◌≡◌, ◌≢◌, refl, ℕ, ◌+◌, List, [], ◌∷◌, ◌++◌, drop, slice_get, arith, ap, ◌∙◌, subst, Option, Some, None, Bool, true, false, nat_eq}
use Rattle.std.specs.Prelude.{◌==◌, flat_map}
use Rattle.std.specs.List.{IsDistinct, AllByRecursion, list_any}
use Rattle.std.proofs.lemmas.Bool.Decides.{nat_tests}
use Rattle.std.proofs.lemmas.List.{set-set}
use Rattle.std.proofs.lemmas.List.Concat.{flat_map-cons}
use Rattle.band_line.specs.WaitList.{WaitListState, detached, unlinked, removed_waiter}

abbrev pub is_in : ℕ → List ℕ → Bool
is_in id ids = list_any (λ other. other == id) ids

pub in_first : (ids : List ℕ) (id : ℕ) → slice_get ids 0 ≡ Some id → is_in id ids ≡ true
in_first [] id e = absurd (cc)
in_first (x ∷ xs) id e =
    let same : x ≡ id = cc in
    let here : (x == id) ≡ true = grind (arith, nat_tests) in
    rw here refl

out_apart : (id : ℕ) (ids : List ℕ) → AllByRecursion (λ other. nat_eq id other ≡ false) ids → is_in id ids ≡ false
out_apart id [] apart = refl
out_apart id (y ∷ ys) apart =
    let differs = apart.0 in
    let here : (y == id) ≡ false = grind (arith, nat_tests) in
    rw here (out_apart id ys apart.1)

-- two maps that agree off a slot agree on a list off it
agree_off : {A : Type 0} (f g : ℕ → List A) (slot : ℕ) → ((other : ℕ) → other ≢ slot → f other ≡ g other)
    → (ids : List ℕ) → is_in slot ids ≡ false → flat_map f ids ≡ flat_map g ids
agree_off f g slot same [] out = refl
agree_off f g slot same (x ∷ xs) out = by_test (x == slot) refl (agree_off f g slot same xs)
  where
    by_test : (b : Bool) → (x == slot) ≡ b → (is_in slot xs ≡ false → flat_map f xs ≡ flat_map g xs)
        → flat_map f (x ∷ xs) ≡ flat_map g (x ∷ xs)
    by_test true e rest = absurd (let never : true ≡ false = rw e at out in cc)
    by_test false e rest =
        let out_rest : is_in slot xs ≡ false = rw e at out in
        let differs : x ≢ slot = grind (arith, nat_tests) in
        let here = same x differs in
        let others = rest out_rest in
        rw (flat_map-cons f x xs, flat_map-cons g x xs) (rw here (ap (λ ys. g x ++ ys) others))

-- the first of a line and the rest
pub first-split : {A : Type 0} (f g : ℕ → List A) (slot : ℕ) → ((other : ℕ) → other ≢ slot → f other ≡ g other)
    → (ids : List ℕ) → IsDistinct nat_eq ids → slice_get ids 0 ≡ Some slot
    → g slot ++ flat_map f (drop 1 ids) ≡ flat_map g ids
unfolding IsDistinct
first-split f g slot same [] once first = absurd (cc)
first-split f g slot same (x ∷ xs) once first =
    let here : x ≡ slot = cc in
    let out : is_in slot xs ≡ false = subst (λ k. is_in k xs ≡ false) here (out_apart x xs once.0) in
    let others = agree_off f g slot same xs out in
    rw (flat_map-cons g x xs) (rw here (ap (λ ys. g slot ++ ys) others))

-- a slot that is vacated, whatever stood there last
pub vacated : {T : Type 0} (line after before : WaitListState T) (slot : ℕ) (value : T)
    → line ≡ unlinked slot value before → after ≡ removed_waiter slot line
    → after ≡ removed_waiter slot (detached slot before)
vacated line after before slot value is taken =
    taken ∙ ap (removed_waiter slot) is
    ∙ ap (λ slots. record {
      nodes = record { slots = slots; vacated = slot ∷ before.nodes.vacated; spare = before.nodes.spare + 1 };
      linked = (detached slot before).linked;
    }) (set-set before.nodes.slots slot (Some value) None)
