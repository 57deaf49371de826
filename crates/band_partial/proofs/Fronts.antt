-- A distribution serves a front of the row, debts before requests.
use Rattle.std.proofs.Common.{◌≡◌, ℕ, suc, ◌+◌, ◌-◌, ◌<◌, nat_lt, cond, List, [], ◌∷◌, length, drop, refl, ap, ◌∙◌, arith}
use Rattle.std.proofs.lemmas.Bool.{cond_both}
use Rattle.std.proofs.lemmas.List.{length-append}
use Rattle.std.proofs.lemmas.List.Sums.{sum_by-cons}
use Rattle.band_balance.specs.Line.{Waiting}
use Rattle.band_partial.specs.PartialLine.{Node, request, debt, is_debt, debts, requests_of, AreInOrder}
use Rattle.band_partial.specs.Moves.{Distribution, distribute, given, after_serving, ServesAFront}
use Rattle.band_partial.proofs.Nodes.{by_nodes, HaveNothing, have_nothing}

abbrev counts : Node → ℕ
counts node = cond (is_debt node) 1 0

debts-cons : (first : Node) (rest : List Node) → debts (first ∷ rest) ≡ counts first + debts rest
debts-cons first rest = sum_by-cons counts first rest

-- where the first was served too, the others that stay are those behind it
next_others : (first : Node) (rest linked served : List Node) → drop 1 linked ≡ drop (length served + 1) rest → drop 1 linked ≡ drop (length (first ∷ served) + 1) (first ∷ rest)
next_others first rest linked served others = others ∙ ap (λ (n : ℕ). drop n (first ∷ rest)) (one_more (length served))
  where
    one_more : (n : ℕ) → suc (n + 1) ≡ suc n + 1
    one_more n = omega arith

-- the node in front stays, and nobody was served
stays : (n : ℕ) (first : Node) (rest : List Node) → ServesAFront (first ∷ rest) (record { served = []; linked = given n first ∷ rest; left = 0 })
stays n first rest = record {
  front = refl;
  others = refl;
  each = refl;
  waiting = refl;
  owing = same (counts first) (debts rest) _ _ (debts-cons first rest) (debts-cons (given n first) rest);
  debts_first = λ some. refl;
  all_given = λ some. absurd (omega (arith, some));
}
  where
    same : (f d a b : ℕ) → a ≡ f + d → b ≡ f + d → a ≡ 0 + b
    same f d a b ea eb = omega arith

debt_leaves : (slot size needed : ℕ) (rest : List Node) (done : Distribution) → ServesAFront rest done → ServesAFront (debt slot size needed ∷ rest) (after_serving (debt slot size needed) done)
debt_leaves slot size needed rest done front = record {
  front = ap (λ (nodes : List Node). debt slot size needed ∷ nodes) front.front;
  each = one_more _ _ _ _ front.each (debts-cons (debt slot size needed) done.served);
  waiting = front.waiting;
  owing = both (debts rest) (debts done.served) (debts done.linked) _ _ front.owing (debts-cons (debt slot size needed) rest) (debts-cons (debt slot size needed) done.served);
  others = next_others (debt slot size needed) rest done.linked done.served front.others;
  debts_first = front.debts_first;
  all_given = front.all_given;
}
  where
    one_more : (n w d d' : ℕ) → n ≡ w + d → d' ≡ 1 + d → suc n ≡ w + d'
    one_more n w d d' e ed = omega arith

    both : (r s l r' s' : ℕ) → r ≡ s + l → r' ≡ 1 + r → s' ≡ 1 + s → r' ≡ s' + l
    both r s l r' s' e er es = omega arith

request_leaves : (slot size needed waker : ℕ) (rest : List Node) (done : Distribution) → HaveNothing rest → ServesAFront rest done
    → ServesAFront (request slot size needed waker ∷ rest) (after_serving (request slot size needed waker) done)
request_leaves slot size needed waker rest done nothing front = record {
  front = ap (λ (nodes : List Node). request slot size needed waker ∷ nodes) front.front;
  each = one_more _ _ _ _ front.each (debts-cons (request slot size needed waker) done.served);
  waiting = ap (λ (ws : List (Waiting ℕ)). record { name = slot; size = size; waker = waker } ∷ ws) front.waiting;
  owing = both (debts rest) (debts done.served) (debts done.linked) _ _ front.owing (debts-cons (request slot size needed waker) rest) (debts-cons (request slot size needed waker) done.served);
  others = next_others (request slot size needed waker) rest done.linked done.served front.others;
  debts_first = λ some. absurd (none _ _ _ nothing.no_debt front.owing some);
  all_given = front.all_given;
}
  where
    one_more : (n w d d' : ℕ) → n ≡ w + d → d' ≡ 0 + d → suc n ≡ suc w + d'
    one_more n w d d' e ed = omega arith

    both : (r s l r' s' : ℕ) → r ≡ s + l → r' ≡ 0 + r → s' ≡ 0 + s → r' ≡ s' + l
    both r s l r' s' e er es = omega arith

    none : (r s l : ℕ) → r ≡ 0 → r ≡ s + l → 0 < l → ⊥
    none r s l e el some = omega arith

abbrev ServesIts : List Node → Type 0
ServesIts nodes = AreInOrder nodes → (n : ℕ) → ServesAFront nodes (distribute n nodes)

pub serves_a_front : (nodes : List Node) → ServesIts nodes
serves_a_front = by_nodes ServesIts
    (λ order n. record { front = refl; each = refl; waiting = refl; owing = refl; others = refl; debts_first = λ some. refl; all_given = λ some. refl })
    (λ slot size needed rest before order n.
    cond_both (nat_lt n needed) _ _ (ServesAFront (debt slot size needed ∷ rest))
    (λ few. stays n (debt slot size needed) rest)
    (λ enough. debt_leaves slot size needed rest (distribute (n - needed) rest) (before order.1 (n - needed))))
    (λ slot size needed waker rest before order n.
    cond_both (nat_lt n needed) _ _ (ServesAFront (request slot size needed waker ∷ rest))
    (λ few. stays n (request slot size needed waker) rest)
    (λ enough. request_leaves slot size needed waker rest (distribute (n - needed) rest) (have_nothing rest order.1) (before (have_nothing rest order.1).in_order (n - needed))))

-- how many were served, by who waits no longer and which debts are gone
pub served_are_cleared : (nodes : List Node) → AreInOrder nodes → (n : ℕ)
    → length (distribute n nodes).served ≡ (length (requests_of nodes) - length (requests_of (distribute n nodes).linked)) + (debts nodes - debts (distribute n nodes).linked)
served_are_cleared nodes order n =
    counted _ _ _ _ _ _ _ front.each (ap length front.waiting ∙ length-append (requests_of (distribute n nodes).served) (requests_of (distribute n nodes).linked)) front.owing
  where
    front : ServesAFront nodes (distribute n nodes)
    front = serves_a_front nodes order n

    counted : (k w d all l owed o : ℕ) → k ≡ w + d → all ≡ w + l → owed ≡ d + o → k ≡ (all - l) + (owed - o)
    counted k w d all l owed o e ea eo = omega arith
