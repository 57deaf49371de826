-- What a row of nodes has, owes and asks for, node by node.
use Rattle.std.proofs.Common.{◌≡◌, ℕ, ◌+◌, ◌-◌, ◌<◌, ◌≤◌, true, cond, List, [], ◌∷◌, ℤ, pos, ◌-ℤ◌, ◌<ℤ◌, ◌≤ℤ◌, Option, Some, None, refl, sym, arith}
use Rattle.std.specs.List.{AllByRecursion}
use Rattle.std.proofs.lemmas.Int.{ints}
use Rattle.std.proofs.lemmas.Bool.{cond-false, true≢false}
use Rattle.std.proofs.lemmas.List.Sums.{sum_by-cons}
use Rattle.band_balance.specs.Line.{Entry, Waiting, settle_from, nobody_waits}
use Rattle.band_balance.specs.Settled.{HeadWaits}
use Rattle.band_balance.proofs.Settle.{le_false_from_lt}
use Rattle.band_partial.specs.PartialLine.{Node, request, debt, is_debt, share_of, owed_by, shares, owed, debts, requests_of, HasNoShare, AreInOrder}

-- what holds of no nodes, and goes on with a debt and with a request in front, holds of all
pub by_nodes : (P : List Node → Type 0) → P [] → ((slot size needed : ℕ) (rest : List Node) → P rest → P (debt slot size needed ∷ rest))
    → ((slot size needed waker : ℕ) (rest : List Node) → P rest → P (request slot size needed waker ∷ rest)) → (nodes : List Node) → P nodes
by_nodes P none with_debt with_request [] = none
by_nodes P none with_debt with_request (first ∷ rest) = go first.waker (by_nodes P none with_debt with_request rest)
  where
    go : (w : Option ℕ) → P rest → P (record first { waker = w } ∷ rest)
    go None before = with_debt first.slot first.size first.needed rest before
    go (Some waker) before = with_request first.slot first.size first.needed waker rest before

-- requests that have nothing yet
pub record HaveNothing (rest : List Node) : Type 0 where
  pub no_share : shares rest ≡ 0
  pub none_owed : owed rest ≡ 0
  pub no_debt : debts rest ≡ 0
  pub in_order : AreInOrder rest

abbrev HaveNothingSo : List Node → Type 0
HaveNothingSo nodes = AllByRecursion HasNoShare nodes → HaveNothing nodes

pub have_nothing : (rest : List Node) → AllByRecursion HasNoShare rest → HaveNothing rest
have_nothing = by_nodes HaveNothingSo none with_debt with_request
  where
    none : HaveNothingSo []
    none each = record { no_share = refl; none_owed = refl; no_debt = refl; in_order = tt }

    with_debt : (slot size needed : ℕ) (rest : List Node) → HaveNothingSo rest → HaveNothingSo (debt slot size needed ∷ rest)
    with_debt slot size needed rest before each = absurd (true≢false (sym each.0.0))

    with_request : (slot size needed waker : ℕ) (rest : List Node) → HaveNothingSo rest → HaveNothingSo (request slot size needed waker ∷ rest)
    with_request slot size needed waker rest before each =
        let h : HaveNothing rest = before each.1 in
        let whole : needed ≡ size = each.0.2 in
        let some : 0 < size = each.0.1 in
        let s = sum_by-cons share_of (request slot size needed waker) rest in
        let o = sum_by-cons owed_by (request slot size needed waker) rest in
        let d = sum_by-cons (λ (node : Node). cond (is_debt node) 1 0) (request slot size needed waker) rest in
        record {
          no_share = omega (arith, h.no_share);
          none_owed = omega (arith, h.none_owed);
          no_debt = omega (arith, h.no_debt);
          in_order = ((omega arith, omega arith), each.1);
        }

-- who waits in front of a row waits for more than is free
pub row_waits : (nodes : List Node) → AreInOrder nodes → (free : ℤ) → free ≤ℤ (pos (shares nodes) -ℤ pos (owed nodes)) → HeadWaits free (requests_of nodes)
row_waits = by_nodes Waits none with_debt with_request
  where
    Waits : List Node → Type 0
    Waits nodes = AreInOrder nodes → (free : ℤ) → free ≤ℤ (pos (shares nodes) -ℤ pos (owed nodes)) → HeadWaits free (requests_of nodes)

    none : Waits []
    none order free below = tt

    less : (free : ℤ) (n s o s' o' : ℕ) → s' ≡ 0 + s → o' ≡ n + o → free ≤ℤ (pos s' -ℤ pos o') → free ≤ℤ (pos s -ℤ pos o)
    less free n s o s' o' es eo below = omega (arith, ints)

    short : (free : ℤ) (size needed s o s' o' : ℕ) → 0 < needed → needed ≤ size → s ≡ 0 → s' ≡ (size - needed) + s → o' ≡ 0 + o → free ≤ℤ (pos s' -ℤ pos o') → free <ℤ pos size
    short free size needed s o s' o' some fits none es eo below = omega (arith, ints)

    with_debt : (slot size needed : ℕ) (rest : List Node) → Waits rest → Waits (debt slot size needed ∷ rest)
    with_debt slot size needed rest before order free below =
        before order.1 free (less free needed (shares rest) (owed rest) _ _ (sum_by-cons share_of (debt slot size needed) rest) (sum_by-cons owed_by (debt slot size needed) rest) below)

    with_request : (slot size needed waker : ℕ) (rest : List Node) → Waits rest → Waits (request slot size needed waker ∷ rest)
    with_request slot size needed waker rest before order free below =
        short free size needed (shares rest) (owed rest) _ _ order.0.0 order.0.1 (have_nothing rest order.1).no_share
        (sum_by-cons share_of (request slot size needed waker) rest) (sum_by-cons owed_by (request slot size needed waker) rest) below

-- where nobody waits there is no share
pub nobody_has : (nodes : List Node) → nobody_waits (requests_of nodes) ≡ true → shares nodes ≡ 0
nobody_has = by_nodes (λ nodes. nobody_waits (requests_of nodes) ≡ true → shares nodes ≡ 0) (λ nobody. refl)
    (λ slot size needed rest before nobody. none_more (shares rest) _ (sum_by-cons share_of (debt slot size needed) rest) (before nobody))
    (λ slot size needed waker rest before nobody. absurd (true≢false (sym nobody)))
  where
    none_more : (s s' : ℕ) → s' ≡ 0 + s → s ≡ 0 → s' ≡ 0
    none_more s s' more none = omega arith

-- a line whose head waits has settled
pub settle_from-waits : (free : ℤ) (waiting : List (Waiting ℕ)) (granted : List (Entry ℕ)) (wakes : List ℕ) → HeadWaits free waiting
    → settle_from free waiting granted wakes ≡ record { free = free; waiting = waiting; granted = granted; wakes = wakes }
settle_from-waits free [] granted wakes waits = refl
settle_from-waits free (first ∷ rest) granted wakes waits = cond-false _ _ _ (le_false_from_lt first.size free waits)
