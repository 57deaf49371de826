-- What holds of a list in any order.
use Rattle.std.proofs.Common.{ℕ, zero, suc, ◌<◌, List, [], ◌∷◌, ◌++◌, length, set, get_or, subst, append_assoc, append-nil, arith}
use Rattle.std.specs.List.{AllByRecursion, swap}
use Rattle.std.specs.List.Sorted.{IsPermutation}
use Rattle.std.proofs.lemmas.List.Edits.{swap_is}
use Rattle.std.proofs.lemmas.List.Sorted.{IsPermutation-keeps, IsPermutation-refl, IsPermutation-append, IsPermutation-append_comm}
use Rattle.band_balance.specs.Laws.{Pairwise}
use Rattle.band_balance.proofs.Rename.{all_of_first}

-- What holds of a list and itself, goes on where one comes before both, where two neighbours change places, and from one step to the
-- next, holds of a list and itself in any order.
module _ {X : Type 0} (R : List X → List X → Type 0) (same : (xs : List X) → R xs xs) (comes : (x : X) (xs ys : List X) → R xs ys → R (x ∷ xs) (x ∷ ys))
    (changes : (x y : X) (xs : List X) → R (x ∷ y ∷ xs) (y ∷ x ∷ xs)) (goes_on : (xs ys zs : List X) → R xs ys → R ys zs → R xs zs) where
  first_changes : (x : X) (xs : List X) (j : ℕ) (d : X) → j < length xs → R (x ∷ xs) (get_or xs j d ∷ set xs j x)
  first_changes x [] j d below = absurd (omega (arith, below))
  first_changes x (y ∷ xs) zero d below = changes x y xs
  first_changes x (y ∷ xs) (suc j) d below =
      goes_on _ _ _ (changes x y xs)
      (goes_on _ _ _ (comes y _ _ (first_changes x xs j d (omega (arith, below)))) (changes y (get_or xs j d) (set xs j x)))

  two_change : (xs : List X) (i j : ℕ) (d : X) → i < length xs → j < length xs → R xs (set (set xs i (get_or xs j d)) j (get_or xs i d))
  two_change [] i j d one other = absurd (omega (arith, one))
  two_change (x ∷ xs) zero zero d one other = same (x ∷ xs)
  two_change (x ∷ xs) zero (suc j) d one other = first_changes x xs j d (omega (arith, other))
  two_change (x ∷ xs) (suc i) zero d one other = first_changes x xs i d (omega (arith, one))
  two_change (x ∷ xs) (suc i) (suc j) d one other = comes x _ _ (two_change xs i j d (omega (arith, one)) (omega (arith, other)))

  pub of_any_order : (xs ys : List X) → IsPermutation xs ys → R xs ys
  of_any_order xs ys any = IsPermutation-keeps xs (R xs) (same xs) (λ l i j one other reached. goes_on xs l _ reached (moved l i j one other)) ys any
    where
      moved : (l : List X) (i j : ℕ) → i < length l → j < length l → R l (swap l i j)
      moved [] i j one other = absurd (omega (arith, one))
      moved (d ∷ l) i j one other = subst (R (d ∷ l)) (swap_is (d ∷ l) i j d one other) (two_change (d ∷ l) i j d one other)

-- what holds pairwise, whichever comes first, holds so in any order
pub pairwise-order : {X : Type 0} (R : X → X → Type 0) → ((x y : X) → R x y → R y x) → (xs ys : List X) → IsPermutation xs ys → Pairwise R xs → Pairwise R ys
pairwise-order {X} R turns xs ys any = (of_any_order Kept itself one_before neighbours then_kept xs ys any).1
  where
    Kept : List X → List X → Type 0
    Kept one other = ((x : X) → AllByRecursion (R x) one → AllByRecursion (R x) other) × (Pairwise R one → Pairwise R other)

    itself : (one : List X) → Kept one one
    itself one = ((λ x each. each), (λ each. each))

    one_before : (x : X) (one other : List X) → Kept one other → Kept (x ∷ one) (x ∷ other)
    one_before x one other kept = ((λ y each. (each.0, kept.0 y each.1)), (λ each. (kept.0 x each.0, kept.1 each.1)))

    neighbours : (x y : X) (one : List X) → Kept (x ∷ y ∷ one) (y ∷ x ∷ one)
    neighbours x y one = ((λ z each. (each.1.0, (each.0, each.1.1))), (λ each. ((turns x y each.0.0, each.1.0), (each.0.1, each.1.1))))

    then_kept : (one mid other : List X) → Kept one mid → Kept mid other → Kept one other
    then_kept one mid other first second = ((λ x each. second.0 x (first.0 x each)), (λ each. second.1 (first.1 each)))

-- of a list in which it holds pairwise, it holds so of a front, and of what comes after one
pub pairwise_front : {X : Type 0} (R : X → X → Type 0) (xs ys : List X) → Pairwise R (xs ++ ys) → Pairwise R xs
pairwise_front R [] ys each = tt
pairwise_front R (x ∷ xs) ys each = (all_of_first (R x) xs ys each.0, pairwise_front R xs ys each.1)

pub pairwise_back : {X : Type 0} (R : X → X → Type 0) (xs ys : List X) → Pairwise R (xs ++ ys) → Pairwise R ys
pairwise_back R [] ys each = each
pairwise_back R (x ∷ xs) ys each = pairwise_back R xs ys each.1

-- who waits goes from behind those granted to behind those ended
pub ended_in_order : {X : Type 0} (ended granted waiting : List X) → IsPermutation (ended ++ (granted ++ waiting)) ((ended ++ waiting) ++ (granted ++ []))
ended_in_order ended granted waiting =
    rw (append-nil, append_assoc)
    (IsPermutation-append ended ended (granted ++ waiting) (waiting ++ granted) (IsPermutation-refl ended) (IsPermutation-append_comm granted waiting))
