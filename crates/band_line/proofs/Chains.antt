-- Chains of slots, each of which tells the next.
use Rattle.std.proofs.Common.{◌≡◌, ◌≢◌, refl, ℕ, suc, zero, ◌≤◌, List, [], ◌∷◌, length, arith, ap, ◌∙◌, subst, Option, Some, None}
use Rattle.std.specs.Prelude.{unwrap_or}
use Rattle.std.specs.List.{AllByRecursion}
use Rattle.band_line.specs.Slots.{chain, IsChain}

pub chain-none : (next : ℕ → Option (Option ℕ)) (count : ℕ) → chain next count None ≡ []
chain-none next zero = refl
chain-none next (suc count) = refl

-- a chain is what is found by its links, where enough of them are followed
pub chain-IsChain : (next : ℕ → Option (Option ℕ)) (first : Option ℕ) (ids : List ℕ) (count : ℕ) → IsChain next first ids → length ids ≤ count → chain next count first ≡ ids
chain-IsChain next first [] count h fits = rw h (chain-none next count)
chain-IsChain next first (id ∷ rest) zero h fits = absurd (omega arith)
chain-IsChain next first (id ∷ rest) (suc count) h fits = rw h.0 (ap (λ ids. id ∷ ids) (chain-IsChain next _ rest count h.2 (omega arith)))

-- a chain is as long as any that begins at the same slot
length-IsChain : (next : ℕ → Option (Option ℕ)) (first : Option ℕ) (xs ys : List ℕ) → IsChain next first xs → IsChain next first ys → length xs ≡ length ys
length-IsChain next first [] [] p q = refl
length-IsChain next first [] (y ∷ ys) p q = let a = q.0 in absurd (cc)
length-IsChain next first (x ∷ xs) [] p q = let a = p.0 in absurd (cc)
length-IsChain next first (x ∷ xs) (y ∷ ys) p q =
    let a = p.0 in
    let b = q.0 in
    let same : y ≡ x = cc in
    ap suc (length-IsChain next _ xs ys p.2 (subst (λ z. IsChain next (unwrap_or (next z) None) ys) same q.2))

-- another chain is too short to come to a slot from which the chain is this long
shorter_is_off : (next : ℕ → Option (Option ℕ)) (id : ℕ) (long : List ℕ) → IsChain next (Some id) long → (first : Option ℕ) (ids : List ℕ)
    → IsChain next first ids → suc (length ids) ≤ length long → AllByRecursion (λ other. other ≢ id) ids
shorter_is_off next id long whole first [] h fits = tt
shorter_is_off next id long whole first (x ∷ xs) h fits =
    (λ same. omega (arith, length-IsChain next (Some id) long (x ∷ xs) whole (subst (λ z. IsChain next z (x ∷ xs)) (h.0 ∙ ap Some same) h)), shorter_is_off next id long whole _ xs h.2 (omega arith))

-- the first slot of a chain is not in it again
pub first_is_off : (next : ℕ → Option (Option ℕ)) (id : ℕ) (rest : List ℕ) → IsChain next (Some id) (id ∷ rest) → AllByRecursion (λ other. other ≢ id) rest
first_is_off next id rest h = shorter_is_off next id (id ∷ rest) h _ rest h.2 (omega arith)

-- a slot that tells no next is in no chain
pub end_is_off : (next : ℕ → Option (Option ℕ)) (id : ℕ) (first : Option ℕ) (ids : List ℕ) → next id ≡ None → IsChain next first ids → AllByRecursion (λ other. other ≢ id) ids
end_is_off next id first [] e h = tt
end_is_off next id first (x ∷ xs) e h = (λ same. let there = h.1 in absurd (grind (arith)), end_is_off next id _ xs e h.2)

-- only what the slots of a chain tell matters to it
pub IsChain-same : (next after : ℕ → Option (Option ℕ)) (id : ℕ) → ((other : ℕ) → other ≢ id → after other ≡ next other)
    → (first : Option ℕ) (ids : List ℕ) → AllByRecursion (λ other. other ≢ id) ids → IsChain next first ids → IsChain after first ids
IsChain-same next after id same first [] off h = h
IsChain-same next after id same first (x ∷ xs) off h =
    let e = same x off.0 in
    (h.0, rw e h.1, rw e (IsChain-same next after id same _ xs off.1 h.2))
