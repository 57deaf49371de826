-- Lists by place.
use Rattle.std.proofs.Common.{◌≡◌, ℕ, ◌==◌, ◌<◌, zero, suc, List, [], ◌∷◌, length, Some, refl, sym, ap, ◌∙◌, subst, arith, eqb-true, eq-eqb}
use Rattle.std.specs.List.{AllByRecursion, slice_get, slice_set}
use Rattle.std.proofs.lemmas.Bool.{false≢true}
use Rattle.std.proofs.lemmas.Option.{slice_get_within, none-some, same_Some}
use Rattle.band_balance.proofs.Held.{by_bool}

-- two lists of one length have the same places
pub also_at : {A B : Type 0} (xs : List A) (ys : List B) (k : ℕ) (y : B) → length xs ≡ length ys → slice_get ys k ≡ Some y → (x : A) × (slice_get xs k ≡ Some x)
also_at [] ys k y same at = absurd (omega (arith, slice_get_within ys k y at))
also_at (x ∷ xs) [] k y same at = absurd (none-some y at)
also_at (x ∷ xs) (z ∷ ys) zero y same at = (x, refl)
also_at (x ∷ xs) (z ∷ ys) (suc k) y same at = also_at xs ys k y (omega arith) at

-- what stands at a place after one element was replaced
pub at_set_same : {A : Type 0} (xs : List A) (k : ℕ) (x y : A) → slice_get xs k ≡ Some x → slice_get (slice_set xs k y) k ≡ Some y
at_set_same [] k x y at = absurd (none-some x at)
at_set_same (z ∷ zs) zero x y at = refl
at_set_same (z ∷ zs) (suc k) x y at = at_set_same zs k x y at

pub at_set_other : {A : Type 0} (xs : List A) (k j : ℕ) (y : A) → (j ≡ k → ⊥) → slice_get (slice_set xs k y) j ≡ slice_get xs j
at_set_other [] k j y apart = refl
at_set_other (z ∷ zs) zero zero y apart = absurd (apart refl)
at_set_other (z ∷ zs) zero (suc j) y apart = refl
at_set_other (z ∷ zs) (suc k) zero y apart = refl
at_set_other (z ∷ zs) (suc k) (suc j) y apart = at_set_other zs k j y (λ e. apart (ap suc e))

-- what holds at each place once one element was replaced
pub each_replaced : {A : Type 0} (P : ℕ → A → Type 0) (xs : List A) (k : ℕ) (x y : A) → slice_get xs k ≡ Some x → P k y
    → ((j : ℕ) (z : A) → (j ≡ k → ⊥) → slice_get xs j ≡ Some z → P j z) → (j : ℕ) (z : A) → slice_get (slice_set xs k y) j ≡ Some z → P j z
each_replaced P xs k x y there own others j z at =
    by_bool (k == j)
    (λ h.
    let same = eqb-true k j h in
    subst (λ i. P i z) same (subst (P k) (same_Some y z (sym (at_set_same xs k x y there) ∙ ap (slice_get (slice_set xs k y)) same ∙ at)) own))
    (λ h. let apart : j ≡ k → ⊥ = λ e. false≢true (sym h ∙ eq-eqb k j (sym e)) in others j z apart (sym (at_set_other xs k j y apart) ∙ at))

-- what stands at a place, put there again
pub set_itself : {A : Type 0} (xs : List A) (k : ℕ) (x : A) → slice_get xs k ≡ Some x → slice_set xs k x ≡ xs
set_itself [] k x there = refl
set_itself (y ∷ ys) zero x there = ap (λ (z : _). z ∷ ys) (sym (same_Some y x there))
set_itself (y ∷ ys) (suc k) x there = ap (λ zs. y ∷ zs) (set_itself ys k x there)

-- what holds at each place holds of each
pub each_from_places : {A : Type 0} (P : A → Type 0) (xs : List A) → ((k : ℕ) (x : A) → slice_get xs k ≡ Some x → P x) → AllByRecursion P xs
each_from_places P [] each = tt
each_from_places P (x ∷ xs) each = (each zero x refl, each_from_places P xs (λ k y at. each (suc k) y at))

-- and the other way round
pub all_at_place : {A : Type 0} (P : A → Type 0) (xs : List A) (k : ℕ) (x : A) → AllByRecursion P xs → slice_get xs k ≡ Some x → P x
all_at_place P [] k x each at = absurd (none-some x at)
all_at_place P (y ∷ ys) zero x each at = subst P (same_Some y x at) each.0
all_at_place P (y ∷ ys) (suc k) x each at = all_at_place P ys k x each.1 at

-- each place within a list is one of its
pub some_at : {A : Type 0} (xs : List A) (k : ℕ) → k < length xs → (x : A) × (slice_get xs k ≡ Some x)
some_at [] k within = absurd (omega arith)
some_at (x ∷ xs) zero within = (x, refl)
some_at (x ∷ xs) (suc k) within = some_at xs k (omega arith)
