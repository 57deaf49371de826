-- Each move of a partial line is a rule of the line that it stands for, and leaves it settled.
use Rattle.std.proofs.Common.{◌≡◌, ℕ, zero, suc, ◌+◌, ◌-◌, ◌<◌, ◌≤◌, nat_le, ◌==◌, ◌&&◌, ◌||◌, Bool, true, false, cond, List, [], ◌∷◌, ◌++◌, ℤ, pos, ◌+ℤ◌, ◌-ℤ◌, ◌≤ℤ◌, int_le, int_lt, unsigned_abs, Option, Some, None, refl, sym, ap, ap₂, ◌∙◌, subst, arith}
use Rattle.std.specs.List.{AllByRecursion, sum_by, find}
use Rattle.std.specs.Option.{option_map_or}
use Rattle.std.proofs.lemmas.Int.{ints}
use Rattle.std.proofs.lemmas.Bool.{cond_both, leb-true, leb-false}
use Rattle.std.proofs.lemmas.Bool.Decides.{nat_tests}
use Rattle.std.proofs.lemmas.List.Elements.{filter_map-append}
use Rattle.std.proofs.lemmas.List.Sums.{sum_by-cons, sum_by_push}
use Rattle.band_balance.specs.Line.{Entry, Waiting, Line, open_line, is_served, nobody_waits, available, take_permits, give_back, join, settle, settle_from, entry_named, without_waiting, leave_waker, poll_granted, poll_waiting, cancel, withdraw}
use Rattle.band_balance.specs.Settled.{HeadWaits}
use Rattle.band_partial.specs.PartialLine.{Node, request, debt, PartialLine, share_of, owed_by, shares, owed, requests_of, request_of, free_of, line_of, HasNoShare, AreInOrder, IsSettled, StandsFor}
use Rattle.band_partial.specs.Moves.{open_part, pass_on, draw, enqueue, owe, with_waker, leave_new_waker, collect, without_node, share_under, is_request, cancel_request, end_request}
use Rattle.band_partial.proofs.Nodes.{by_nodes, have_nothing, row_waits, nobody_has}
use Rattle.band_partial.proofs.Distributes.{settles, distribute-order, distribute-gives_out}

-- what follows of the line that a settled partial line shows, follows of each that it stands for
pub of_shown : (P : Line ℕ → PartialLine → Type 0) → ((part : PartialLine) → IsSettled part → P (line_of part) part) → (line : Line ℕ) (part : PartialLine) → StandsFor line part → P line part
of_shown P shown line part stands = subst (λ (l : Line ℕ). P l part) stands.shown (shown part stands.settled)

-- where a node is linked, nothing is available
pub no_word : (word : ℕ) (first : Node) (rest : List Node) → (0 < word → first ∷ rest ≡ []) → word ≡ 0
no_word zero first rest out = refl
no_word (suc word) first rest out = let e : first ∷ rest ≡ [] = out (omega arith) in cc

pub open_part-stands : (permits : ℕ) → StandsFor (open_line permits) (open_part permits)
open_part-stands permits = record { shown = λ i. record { free = same permits i; waiting = []; granted = []; wakes = [] }; settled = record { in_order = tt; given_out = λ some. refl } }
  where
    same : (n : ℕ) → (pos (n + 0) -ℤ pos 0) ≡ pos n
    same n = omega (arith, ints)

pub head_waits-shown : (part : PartialLine) → IsSettled part → HeadWaits (line_of part).free (line_of part).waiting
head_waits-shown part settled = go part.nodes settled.in_order settled.given_out
  where
    at_most : (word s o : ℕ) → word ≡ 0 → (pos (word + s) -ℤ pos o) ≤ℤ (pos s -ℤ pos o)
    at_most word s o none = omega (arith, ints)

    go : (nodes : List Node) → AreInOrder nodes → (0 < part.word → nodes ≡ []) → HeadWaits (free_of part.word nodes) (requests_of nodes)
    go [] order out = tt
    go (first ∷ rest) order out = row_waits (first ∷ rest) order (free_of part.word (first ∷ rest)) (at_most part.word _ _ (no_word part.word first rest out))

-- what is there without waiting: all of the word where no node is linked, and nothing else
record IsThere (word : ℕ) (nodes : List Node) : Type 0 where
  available : cond (nobody_waits (requests_of nodes) && int_lt (pos 0) (free_of word nodes)) (unsigned_abs (free_of word nodes)) 0 ≡ word
  served : (size : ℕ) → (size == 0 || (nobody_waits (requests_of nodes) && int_le (pos size) (free_of word nodes))) ≡ nat_le size word

is_there : (word : ℕ) (nodes : List Node) → (0 < word → nodes ≡ []) → IsThere word nodes
is_there word [] out = record { available = all word; served = λ size. covered word size }
  where
    all : (word : ℕ) → cond (int_lt (pos 0) (pos (word + 0) -ℤ pos 0)) (unsigned_abs (pos (word + 0) -ℤ pos 0)) 0 ≡ word
    all word = grind (arith, ints)

    covered : (word size : ℕ) → (size == 0 || int_le (pos size) (pos (word + 0) -ℤ pos 0)) ≡ nat_le size word
    covered word size = grind (arith, ints, nat_tests)
is_there word (first ∷ rest) out = record {
  available = none_there (nobody_waits (requests_of (first ∷ rest))) refl;
  served = λ size. not_covered size (nobody_waits (requests_of (first ∷ rest))) refl;
}
  where
    empty : word ≡ 0
    empty = no_word word first rest out

    nothing : (word s o : ℕ) → word ≡ 0 → s ≡ 0 → int_lt (pos 0) (pos (word + s) -ℤ pos o) ≡ false
    nothing word s o w none = grind (arith, ints)

    none_there : (nobody : Bool) → nobody_waits (requests_of (first ∷ rest)) ≡ nobody
        → cond (nobody && int_lt (pos 0) (free_of word (first ∷ rest))) (unsigned_abs (free_of word (first ∷ rest))) 0 ≡ word
    none_there false waits = sym empty
    none_there true nobody = rw (nothing word _ (owed (first ∷ rest)) empty (nobody_has (first ∷ rest) nobody)) (sym empty)

    beyond : (word s o size : ℕ) → word ≡ 0 → s ≡ 0 → (size == 0 || int_le (pos size) (pos (word + s) -ℤ pos o)) ≡ nat_le size word
    beyond word s o size w none = grind (arith, ints, nat_tests)

    some_wait : (word size : ℕ) → word ≡ 0 → (size == 0 || false) ≡ nat_le size word
    some_wait word size w = grind (arith, nat_tests)

    not_covered : (size : ℕ) (nobody : Bool) → nobody_waits (requests_of (first ∷ rest)) ≡ nobody
        → (size == 0 || (nobody && int_le (pos size) (free_of word (first ∷ rest)))) ≡ nat_le size word
    not_covered size false waits = some_wait word size empty
    not_covered size true nobody = beyond word _ (owed (first ∷ rest)) size empty (nobody_has (first ∷ rest) nobody)

pub available-shown : (part : PartialLine) → IsSettled part → available (line_of part) ≡ part.word
available-shown part settled = (is_there part.word part.nodes settled.given_out).available

pub served-shown : (part : PartialLine) → IsSettled part → (size : ℕ) → is_served size (line_of part) ≡ nat_le size part.word
served-shown part settled = (is_there part.word part.nodes settled.given_out).served

pub draw-shown : (part : PartialLine) → IsSettled part → (n : ℕ) → n ≤ part.word → StandsFor (take_permits n (line_of part)) (draw n part)
draw-shown part settled n fits = record {
  shown = λ i. record { free = less part.word (shares part.nodes) (owed part.nodes) fits i; waiting = requests_of part.nodes; granted = part.granted; wakes = part.wakes };
  settled = record { in_order = settled.in_order; given_out = λ some. settled.given_out (more part.word some) };
}
  where
    less : (word s o : ℕ) → n ≤ word → (pos ((word - n) + s) -ℤ pos o) ≡ (pos (word + s) -ℤ pos o) -ℤ pos n
    less word s o fits = omega (arith, ints)

    more : (word : ℕ) → 0 < word - n → 0 < word
    more word some = omega arith

pub owe-shown : (part : PartialLine) → IsSettled part → (slot n : ℕ) → StandsFor (take_permits n (line_of part)) (owe slot n part)
owe-shown part settled slot n =
    cond_both (nat_le n part.word) _ _ (StandsFor (take_permits n (line_of part)))
    (λ fits. draw-shown part settled n (leb-true n part.word fits))
    (λ beyond. record {
      shown = λ i. record {
        free = owes part.word (shares part.nodes) (owed part.nodes) _ _ (leb-false n part.word beyond)
            (sum_by-cons share_of (debt slot n (n - part.word)) part.nodes) (sum_by-cons owed_by (debt slot n (n - part.word)) part.nodes) i;
        waiting = requests_of part.nodes;
        granted = part.granted;
        wakes = part.wakes;
      };
      settled = record { in_order = (needs part.word (leb-false n part.word beyond), settled.in_order); given_out = λ some. absurd (omega (arith, some)) };
    })
  where
    owes : (word s o s' o' : ℕ) → word < n → s' ≡ 0 + s → o' ≡ (n - word) + o → (pos (0 + s') -ℤ pos o') ≡ (pos (word + s) -ℤ pos o) -ℤ pos n
    owes word s o s' o' beyond es eo = omega (arith, ints)

    needs : (word : ℕ) → word < n → (0 < n - word) × (n - word ≤ n)
    needs word beyond = (omega arith, omega arith)

-- a request that has nothing goes to the end of any row
push_whole : (slot size waker : ℕ) → 0 < size → (nodes : List Node) → AreInOrder nodes → AreInOrder (nodes ++ request slot size size waker ∷ [])
push_whole slot size waker some = by_nodes (λ nodes. AreInOrder nodes → AreInOrder (nodes ++ request slot size size waker ∷ []))
    (λ order. ((some, at_most), tt))
    (λ debt_slot debt_size needed rest before order. (order.0, before order.1))
    (λ first_slot first_size needed first_waker rest before order. (order.0, behind rest order.1))
  where
    at_most : size ≤ size
    at_most = omega arith

    behind : (rest : List Node) → AllByRecursion HasNoShare rest → AllByRecursion HasNoShare (rest ++ request slot size size waker ∷ [])
    behind [] each = ((refl, some, refl), tt)
    behind (next ∷ rest) each = (each.0, behind rest each.1)

push_order : (slot size waker word : ℕ) → word < size → (nodes : List Node) → AreInOrder nodes → (0 < word → nodes ≡ []) → AreInOrder (nodes ++ request slot size (size - word) waker ∷ [])
push_order slot size waker word fits [] order out = ((omega (arith, fits), omega (arith, fits)), tt)
push_order slot size waker word fits (first ∷ rest) order out =
    subst (λ (needed : ℕ). AreInOrder ((first ∷ rest) ++ request slot size needed waker ∷ [])) (all size word (no_word word first rest out))
    (push_whole slot size waker (some size word fits) (first ∷ rest) order)
  where
    all : (size word : ℕ) → word ≡ 0 → size ≡ size - word
    all size word none = omega arith

    some : (size word : ℕ) → word < size → 0 < size
    some size word fits = omega arith

pub enqueue-shown : (part : PartialLine) → IsSettled part → (slot size waker : ℕ) → is_served size (line_of part) ≡ false
    → StandsFor (join slot size waker (line_of part)) (enqueue slot size waker part)
enqueue-shown part settled slot size waker waits = record {
  shown = λ i. record {
    free = same part.word (shares part.nodes) (owed part.nodes) _ _ fits (sum_by_push share_of part.nodes made) (sum_by_push owed_by part.nodes made) i;
    waiting = filter_map-append request_of part.nodes (made ∷ []) i;
    granted = part.granted;
    wakes = part.wakes;
  };
  settled = record { in_order = push_order slot size waker part.word fits part.nodes settled.in_order settled.given_out; given_out = λ some. absurd (omega (arith, some)) };
}
  where
    made : Node
    made = request slot size (size - part.word) waker

    fits : part.word < size
    fits = leb-false size part.word (sym (served-shown part settled size) ∙ waits)

    same : (word s o s' o' : ℕ) → word < size → s' ≡ s + (size - (size - word)) → o' ≡ o + 0 → (pos (0 + s') -ℤ pos o') ≡ (pos (word + s) -ℤ pos o)
    same word s o s' o' fits es eo = omega (arith, ints)

-- What comes back. The word may be anything, so that also a row from which one has left is settled.
pub pass_on-order : (part : PartialLine) → AreInOrder part.nodes → (n : ℕ) → StandsFor (give_back n (line_of part)) (pass_on n part)
pass_on-order part order n = record {
  shown = sym (settles part.nodes order (part.word + n) ((line_of part).free +ℤ pos n) part.granted part.wakes (comes part.word (shares part.nodes) (owed part.nodes)));
  settled = record { in_order = distribute-order part.nodes order (part.word + n); given_out = distribute-gives_out part.nodes (part.word + n) };
}
  where
    comes : (word s o : ℕ) → (pos (word + s) -ℤ pos o) +ℤ pos n ≡ (pos ((word + n) + s) -ℤ pos o)
    comes word s o = omega (arith, ints)

pub pass_on-shown : (part : PartialLine) → IsSettled part → (n : ℕ) → StandsFor (give_back n (line_of part)) (pass_on n part)
pass_on-shown part settled = pass_on-order part settled.in_order

-- a new waker is left in the row as in the line, and nothing else changes
record LeavesWaker (is : ℕ → Bool) (waker : ℕ) (nodes : List Node) : Type 0 where
  waiting : requests_of (with_waker is waker nodes) ≡ leave_waker is waker (requests_of nodes)
  had : shares (with_waker is waker nodes) ≡ shares nodes
  owing : owed (with_waker is waker nodes) ≡ owed nodes
  nothing : AllByRecursion HasNoShare nodes → AllByRecursion HasNoShare (with_waker is waker nodes)
  order : AreInOrder nodes → AreInOrder (with_waker is waker nodes)
  empty : nodes ≡ [] → with_waker is waker nodes ≡ []

as_before : (f : Node → ℕ) (first : Node) (xs ys : List Node) → sum_by f xs ≡ sum_by f ys → sum_by f (first ∷ xs) ≡ sum_by f (first ∷ ys)
as_before f first xs ys same = sum_by-cons f first xs ∙ ap (λ (n : ℕ). f first + n) same ∙ sym (sum_by-cons f first ys)

leaves_waker : (is : ℕ → Bool) (waker : ℕ) (nodes : List Node) → LeavesWaker is waker nodes
leaves_waker is waker = by_nodes (LeavesWaker is waker) none with_debt with_request
  where
    none : LeavesWaker is waker []
    none = record { waiting = refl; had = refl; owing = refl; nothing = λ each. tt; order = λ order. tt; empty = λ same. refl }

    with_debt : (slot size needed : ℕ) (rest : List Node) → LeavesWaker is waker rest → LeavesWaker is waker (debt slot size needed ∷ rest)
    with_debt slot size needed rest before = record {
      waiting = before.waiting;
      had = as_before share_of (debt slot size needed) (with_waker is waker rest) rest before.had;
      owing = as_before owed_by (debt slot size needed) (with_waker is waker rest) rest before.owing;
      nothing = λ each. (each.0, before.nothing each.1);
      order = λ order. (order.0, before.order order.1);
      empty = λ same. cc;
    }

    with_request : (slot size needed old : ℕ) (rest : List Node) → LeavesWaker is waker rest → LeavesWaker is waker (request slot size needed old ∷ rest)
    with_request slot size needed old rest before = record {
      waiting = go_waiting (is slot);
      had = go_sum share_of (is slot) before.had refl;
      owing = go_sum owed_by (is slot) before.owing refl;
      nothing = go_nothing (is slot);
      order = go_order (is slot);
      empty = λ same. cc;
    }
      where
        go_waiting : (b : Bool) → requests_of (cond b (request slot size needed waker ∷ rest) (request slot size needed old ∷ with_waker is waker rest))
            ≡ cond b (record { name = slot; size = size; waker = waker } ∷ requests_of rest) (record { name = slot; size = size; waker = old } ∷ leave_waker is waker (requests_of rest))
        go_waiting true = refl
        go_waiting false = ap (λ (ws : List (Waiting ℕ)). record { name = slot; size = size; waker = old } ∷ ws) before.waiting

        go_sum : (f : Node → ℕ) (b : Bool) → sum_by f (with_waker is waker rest) ≡ sum_by f rest → f (request slot size needed waker) ≡ f (request slot size needed old)
            → sum_by f (cond b (request slot size needed waker ∷ rest) (request slot size needed old ∷ with_waker is waker rest)) ≡ sum_by f (request slot size needed old ∷ rest)
        go_sum f true same one = sum_by-cons f (request slot size needed waker) rest ∙ ap (λ (n : ℕ). n + sum_by f rest) one ∙ sym (sum_by-cons f (request slot size needed old) rest)
        go_sum f false same one = as_before f (request slot size needed old) (with_waker is waker rest) rest same

        go_nothing : (b : Bool) → AllByRecursion HasNoShare (request slot size needed old ∷ rest)
            → AllByRecursion HasNoShare (cond b (request slot size needed waker ∷ rest) (request slot size needed old ∷ with_waker is waker rest))
        go_nothing true each = ((refl, each.0.1, each.0.2), each.1)
        go_nothing false each = (each.0, before.nothing each.1)

        go_order : (b : Bool) → AreInOrder (request slot size needed old ∷ rest) → AreInOrder (cond b (request slot size needed waker ∷ rest) (request slot size needed old ∷ with_waker is waker rest))
        go_order true order = order
        go_order false order = (order.0, before.nothing order.1)

pub leave_new_waker-shown : (part : PartialLine) → IsSettled part → (is : ℕ → Bool) (waker : ℕ) → StandsFor (poll_waiting is waker (line_of part)) (leave_new_waker is waker part)
leave_new_waker-shown part settled is waker = record {
  shown = λ i. record { free = pos (part.word + left.had i) -ℤ pos (left.owing i); waiting = left.waiting i; granted = part.granted; wakes = part.wakes };
  settled = record { in_order = left.order settled.in_order; given_out = λ some. left.empty (settled.given_out some) };
}
  where
    left : LeavesWaker is waker part.nodes
    left = leaves_waker is waker part.nodes

pub collect-shown : (part : PartialLine) → IsSettled part → (is : ℕ → Bool) → StandsFor (poll_granted is (line_of part)) (collect is part)
collect-shown part settled is = record { shown = refl; settled = record { in_order = settled.in_order; given_out = settled.given_out } }

-- a request leaves the row as it leaves the line, and its share leaves with it
pub record LeavesRow (is : ℕ → Bool) (nodes : List Node) : Type 0 where
  pub waiting : requests_of (without_node is nodes) ≡ without_waiting is (requests_of nodes)
  pub had : shares nodes ≡ share_under is nodes + shares (without_node is nodes)
  pub owing : owed nodes ≡ owed (without_node is nodes)
  pub nothing : AllByRecursion HasNoShare nodes → AllByRecursion HasNoShare (without_node is nodes)
  pub order : AreInOrder nodes → AreInOrder (without_node is nodes)

pub leaves_row : (is : ℕ → Bool) (nodes : List Node) → LeavesRow is nodes
leaves_row is = by_nodes (LeavesRow is) none with_debt with_request
  where
    none : LeavesRow is []
    none = record { waiting = refl; had = refl; owing = refl; nothing = λ each. tt; order = λ order. tt }

    stays : (f s s' o k t : ℕ) → s ≡ k + s' → o ≡ f + s → t ≡ f + s' → o ≡ k + t
    stays f s s' o k t same before after = omega arith

    with_debt : (slot size needed : ℕ) (rest : List Node) → LeavesRow is rest → LeavesRow is (debt slot size needed ∷ rest)
    with_debt slot size needed rest before = record {
      waiting = before.waiting;
      had = stays 0 (shares rest) (shares (without_node is rest)) _ (share_under is rest) _ before.had
          (sum_by-cons share_of (debt slot size needed) rest) (sum_by-cons share_of (debt slot size needed) (without_node is rest));
      owing = as_before owed_by (debt slot size needed) rest (without_node is rest) before.owing;
      nothing = λ each. (each.0, before.nothing each.1);
      order = λ order. (order.0, before.order order.1);
    }

    with_request : (slot size needed waker : ℕ) (rest : List Node) → LeavesRow is rest → LeavesRow is (request slot size needed waker ∷ rest)
    with_request slot size needed waker rest before = record {
      waiting = go_waiting (is slot);
      had = go_had (is slot);
      owing = go_owing (is slot);
      nothing = go_nothing (is slot);
      order = go_order (is slot);
    }
      where
        go_waiting : (b : Bool) → requests_of (cond b rest (request slot size needed waker ∷ without_node is rest))
            ≡ cond b (requests_of rest) (record { name = slot; size = size; waker = waker } ∷ without_waiting is (requests_of rest))
        go_waiting true = refl
        go_waiting false = ap (λ (ws : List (Waiting ℕ)). record { name = slot; size = size; waker = waker } ∷ ws) before.waiting

        go_had : (b : Bool) → shares (request slot size needed waker ∷ rest)
            ≡ option_map_or share_of (cond b (Some (request slot size needed waker)) (find (is_request is) rest)) 0
            + shares (cond b rest (request slot size needed waker ∷ without_node is rest))
        go_had true = sum_by-cons share_of (request slot size needed waker) rest
        go_had false =
            stays (size - needed) (shares rest) (shares (without_node is rest)) _ (share_under is rest) _ before.had
            (sum_by-cons share_of (request slot size needed waker) rest) (sum_by-cons share_of (request slot size needed waker) (without_node is rest))

        go_owing : (b : Bool) → owed (request slot size needed waker ∷ rest) ≡ owed (cond b rest (request slot size needed waker ∷ without_node is rest))
        go_owing true = none_owed (owed rest) _ (sum_by-cons owed_by (request slot size needed waker) rest)
          where
            none_owed : (o o' : ℕ) → o' ≡ 0 + o → o' ≡ o
            none_owed o o' e = omega arith
        go_owing false = as_before owed_by (request slot size needed waker) rest (without_node is rest) before.owing

        go_nothing : (b : Bool) → AllByRecursion HasNoShare (request slot size needed waker ∷ rest) → AllByRecursion HasNoShare (cond b rest (request slot size needed waker ∷ without_node is rest))
        go_nothing true each = each.1
        go_nothing false each = (each.0, before.nothing each.1)

        go_order : (b : Bool) → AreInOrder (request slot size needed waker ∷ rest) → AreInOrder (cond b rest (request slot size needed waker ∷ without_node is rest))
        go_order true order = (have_nothing rest order.1).in_order
        go_order false order = (order.0, before.nothing order.1)

pub cancel-shown : (part : PartialLine) → IsSettled part → (is : ℕ → Bool) → StandsFor (cancel is (line_of part)) (cancel_request is part)
cancel-shown part settled is = go (entry_named is part.granted)
  where
    left : LeavesRow is part.nodes
    left = leaves_row is part.nodes

    same : (word s s' k o o' : ℕ) → s ≡ k + s' → o ≡ o' → (pos (word + s') -ℤ pos o') +ℤ pos k ≡ (pos (word + s) -ℤ pos o)
    same word s s' k o o' es eo = omega (arith, ints)

    go : (found : Option (Entry ℕ)) → StandsFor (settle (withdraw found is (line_of part))) (end_request found is part)
    go (Some entry) = pass_on-order (collect is part) settled.in_order entry.size
    go None =
        subst (λ (line : Line ℕ). StandsFor line (end_request None is part))
        (ap₂ (λ (free : ℤ) (waiting : List (Waiting ℕ)). settle_from free waiting part.granted part.wakes) (same part.word _ _ (share_under is part.nodes) _ _ left.had left.owing) left.waiting)
        (pass_on-order (record part { nodes = without_node is part.nodes }) (left.order settled.in_order) (share_under is part.nodes))
