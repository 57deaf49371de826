-- Where all that wait are ended, what is free stays, and one debt is left at most.
use Rattle.std.proofs.Common.{◌≡◌, ℕ, ◌+◌, ◌-◌, ◌<◌, ◌≤◌, Bool, true, false, cond, List, [], ◌∷◌, pos, ◌-ℤ◌, refl, sym, ap, ◌∙◌, subst, arith}
use Rattle.std.specs.Prelude.{◌==◌}
use Rattle.std.proofs.lemmas.Bool.{cond_both}
use Rattle.std.proofs.lemmas.Bool.Decides.{nat_tests}
use Rattle.std.proofs.lemmas.Int.{ints}
use Rattle.std.proofs.lemmas.List.Sums.{sum_by-cons}
use Rattle.band_balance.specs.Line.{end_waiting}
use Rattle.band_partial.specs.PartialLine.{Node, request, debt, PartialLine, is_debt, owed_by, shares, owed, debts, requests_of, line_of, AreInOrder, IsSettled, StandsFor}
use Rattle.band_partial.specs.Moves.{rest_of_debts, end_requests}
use Rattle.band_partial.proofs.Nodes.{by_nodes}

-- what is owed still, as one debt
record IsRest (n : ℕ) (nodes : List Node) : Type 0 where
  no_share : shares nodes ≡ 0
  owing : owed nodes ≡ n
  nobody : requests_of nodes ≡ []
  in_order : AreInOrder nodes
  none : n ≡ 0 → nodes ≡ []
  at_most_one : (most : ℕ) → (0 < n → 0 < most) → debts nodes ≤ most

is_rest : (slot n : ℕ) → IsRest n (rest_of_debts slot n)
is_rest slot n = cond_both (n == 0) _ _ (IsRest n) (λ nothing. all_paid (grind (arith, nat_tests))) (λ some. one_left (grind (arith, nat_tests)))
  where
    all_paid : n ≡ 0 → IsRest n []
    all_paid nothing = record {
      no_share = refl;
      owing = sym nothing;
      nobody = refl;
      in_order = tt;
      none = λ _. refl;
      at_most_one = λ most some. omega arith;
    }

    one_left : 0 < n → IsRest n (debt slot n n ∷ [])
    one_left some = record {
      no_share = refl;
      owing = omega arith;
      nobody = refl;
      in_order = ((some, omega arith), tt);
      none = λ nothing. absurd (omega (arith, nothing));
      at_most_one = λ most has. has some;
    }

-- what is owed is owed by some debt
pub owing_needs_debts : (nodes : List Node) → 0 < owed nodes → 0 < debts nodes
owing_needs_debts = by_nodes (λ nodes. 0 < owed nodes → 0 < debts nodes) (λ some. absurd (omega (arith, some)))
    (λ slot size needed rest before some. counted _ _ (sum_by-cons (λ (node : Node). cond (is_debt node) 1 0) (debt slot size needed) rest))
    (λ slot size needed waker rest before some.
    further _ _ _ _ (sum_by-cons owed_by (request slot size needed waker) rest) (sum_by-cons (λ (node : Node). cond (is_debt node) 1 0) (request slot size needed waker) rest) before some)
  where
    counted : (d d' : ℕ) → d' ≡ 1 + d → 0 < d'
    counted d d' e = omega arith

    further : (o o' d d' : ℕ) → o' ≡ 0 + o → d' ≡ 0 + d → (0 < o → 0 < d) → 0 < o' → 0 < d'
    further o o' d d' eo ed before some = let more : 0 < d = before (omega arith) in omega arith

module _ (part : PartialLine) (slot : ℕ) where
  abbrev there : ℕ
  there = part.word + shares part.nodes

  rest : IsRest (owed part.nodes - there) (end_requests slot part).nodes
  rest = is_rest slot (owed part.nodes - there)

  pub nobody-ended : requests_of (end_requests slot part).nodes ≡ []
  nobody-ended = rest.nobody

  pub debts-ended : debts (end_requests slot part).nodes ≤ debts part.nodes
  debts-ended = rest.at_most_one (debts part.nodes) (λ some. owing_needs_debts part.nodes (more (owed part.nodes) there some))
    where
      more : (o t : ℕ) → 0 < o - t → 0 < o
      more o t some = omega arith

  pub ended-shown : StandsFor (end_waiting (line_of part)) (end_requests slot part)
  ended-shown = record {
    shown = λ i. record {
      free = same there (owed part.nodes) _ _ rest.no_share rest.owing i;
      waiting = rest.nobody i;
      granted = part.granted;
      wakes = (end_requests slot part).wakes;
    };
    settled = record { in_order = rest.in_order; given_out = λ some. rest.none (paid there (owed part.nodes) some) };
  }
    where
      same : (t o s' o' : ℕ) → s' ≡ 0 → o' ≡ o - t → (pos ((t - o) + s') -ℤ pos o') ≡ (pos t -ℤ pos o)
      same t o s' o' es eo = omega (arith, ints)

      paid : (t o : ℕ) → 0 < t - o → o - t ≡ 0
      paid t o some = omega arith

pub ended-stands : (part : PartialLine) → IsSettled part → (slot : ℕ) → StandsFor (end_waiting (line_of part)) (end_requests slot part)
ended-stands part settled slot = ended-shown part slot
