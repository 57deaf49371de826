-- A slot is one request's: who is found among some of them stands nowhere else.
use Rattle.std.proofs.Common.{◌≡◌, ℕ, ◌+◌, ◌≤◌, Bool, true, false, cond, List, [], ◌∷◌, ◌++◌, map, Option, Some, None, nat_eq, refl, ap, ◌∙◌, arith}
use Rattle.std.specs.List.{IsDistinct}
use Rattle.std.specs.Option.{option_or}
use Rattle.band_balance.specs.Line.{Entry, entry_named, without}
use Rattle.band_balance.proofs.Distinct.{once}
use Rattle.band_balance.proofs.Rename.{all_of_first, all_of_second}
use Rattle.band_balance.proofs.Requests.{entry_named-append, count_named, count_named-append, entry_named-none, all-not_named, none-from_all}
use Rattle.band_sem.specs.Semaphore.{is_slot}

-- nobody leaves where nobody is meant
pub without-nobody : (is : ℕ → Bool) (xs : List (Entry ℕ)) → entry_named is xs ≡ None → without is xs ≡ xs
without-nobody is [] h = refl
without-nobody is (x ∷ xs) h = go (is x.name) h (without-nobody is xs)
  where
    go : (b : Bool) → cond b (Some x) (entry_named is xs) ≡ None → (entry_named is xs ≡ None → without is xs ≡ xs) → cond b xs (x ∷ without is xs) ≡ x ∷ xs
    go true e k = cc
    go false e k = ap (λ ys. x ∷ ys) (k e)

-- who is found in front isn't found behind
pub stands_once : (slot : ℕ) (xs ys : List (Entry ℕ)) → IsDistinct nat_eq (map (λ (e : Entry ℕ). e.name) (xs ++ ys)) → (found : Entry ℕ) → entry_named (is_slot slot) xs ≡ Some found
    → entry_named (is_slot slot) ys ≡ None
stands_once slot xs ys distinct found there =
    let at_most = once slot (xs ++ ys) distinct in
    let both = count_named-append (is_slot slot) xs ys in
    entry_named-none (is_slot slot) ys (none_left (count_named (is_slot slot) xs) (count_named (is_slot slot) ys) some (omega (arith, at_most, both)))
  where
    some_is_none : (o : Option (Entry ℕ)) (e : Entry ℕ) → o ≡ None → o ≡ Some e → ⊥
    some_is_none o e p q = cc

    some : count_named (is_slot slot) xs ≡ 0 → ⊥
    some none = some_is_none (entry_named (is_slot slot) xs) found (entry_named-none (is_slot slot) xs none) there

    none_left : (a b : ℕ) → (a ≡ 0 → ⊥) → a + b ≤ 1 → b ≡ 0
    none_left a b p q = grind arith

-- those behind differ too
pub distinct_behind : (xs ys : List (Entry ℕ)) → IsDistinct nat_eq (map (λ (e : Entry ℕ). e.name) (xs ++ ys)) → IsDistinct nat_eq (map (λ (e : Entry ℕ). e.name) ys)
unfolding IsDistinct
distinct_behind [] ys distinct = distinct
distinct_behind (x ∷ xs) ys distinct = distinct_behind xs ys distinct.1
