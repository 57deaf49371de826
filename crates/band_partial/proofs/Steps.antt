-- What is available is given out node by node.
use Rattle.std.proofs.Common.{◌≡◌, ℕ, ◌-◌, ◌<◌, ◌≤◌, List, [], ◌∷◌, ◌++◌, map, refl, sym, ap, ◌∙◌, subst, arith, append_assoc, append-nil}
use Rattle.std.proofs.lemmas.Bool.{cond-true, cond-false, lt-ltb, le-ltb}
use Rattle.std.proofs.lemmas.List.{map-append}
use Rattle.std.proofs.lemmas.List.Elements.{filter_map-append}
use Rattle.band_balance.specs.Line.{Waiting, entry_of}
use Rattle.band_partial.specs.PartialLine.{Node, PartialLine, requests_of, request_of, AreInOrder, IsSettled}
use Rattle.band_partial.specs.Moves.{Distribution, distribute, settled_to, give_out, given, first_served, first_given}
use Rattle.band_partial.proofs.Follows.{no_word}

-- a partial line with this row
abbrev with_nodes : List Node → PartialLine → PartialLine
with_nodes nodes part = record part { nodes = nodes }

-- what follows of every row, follows of the row of a partial line
of_row : (P : PartialLine → Type 0) (part : PartialLine) (nodes : List Node) → part.nodes ≡ nodes → P (with_nodes nodes part) → P part
of_row P part nodes same p = subst (λ (row : List Node). P (with_nodes row part)) (sym same) p

-- those granted and woken, one after the other
one_then : {X : Type 0} (f : Waiting ℕ → X) (xs : List X) (first : Node) (served : List Node)
    → (xs ++ map f (requests_of (first ∷ []))) ++ map f (requests_of served) ≡ xs ++ map f (requests_of (first ∷ served))
one_then f xs first served =
    append_assoc xs (map f (requests_of (first ∷ []))) (map f (requests_of served))
    ∙ ap (λ ys. xs ++ ys) (sym (ap (map f) (filter_map-append request_of (first ∷ []) served) ∙ map-append f (requests_of (first ∷ [])) (requests_of served)))

pub gives_out_served : (part : PartialLine) (first : Node) (rest : List Node) → part.nodes ≡ first ∷ rest → first.needed ≤ part.word → give_out (first_served first rest part) ≡ give_out part
gives_out_served part first rest same enough = of_row (λ (p : PartialLine). give_out (first_served first rest p) ≡ give_out p) part (first ∷ rest) same go
  where
    go : give_out (first_served first rest part) ≡ give_out (with_nodes (first ∷ rest) part)
    go =
        (λ i. record {
          word = (distribute (part.word - first.needed) rest).left;
          nodes = (distribute (part.word - first.needed) rest).linked;
          granted = one_then entry_of part.granted first (distribute (part.word - first.needed) rest).served i;
          wakes = one_then (λ (w : Waiting ℕ). w.waker) part.wakes first (distribute (part.word - first.needed) rest).served i;
        })
        ∙ ap (λ (d : Distribution). settled_to d part) (sym (cond-false _ _ _ (le-ltb part.word first.needed enough)))

pub gives_out_given : (part : PartialLine) (first : Node) (rest : List Node) → part.nodes ≡ first ∷ rest → part.word < first.needed → first_given first rest part ≡ give_out part
gives_out_given part first rest same few = of_row (λ (p : PartialLine). first_given first rest p ≡ give_out p) part (first ∷ rest) same go
  where
    go : first_given first rest part ≡ give_out (with_nodes (first ∷ rest) part)
    go =
        (λ i. record { word = 0; nodes = given part.word first ∷ rest; granted = sym (append-nil part.granted) i; wakes = sym (append-nil part.wakes) i })
        ∙ ap (λ (d : Distribution). settled_to d part) (sym (cond-true _ _ _ (lt-ltb part.word first.needed few)))

-- one that is settled has nothing to give out
pub gives_out_done : (part : PartialLine) → IsSettled part → give_out part ≡ part
gives_out_done part settled = go part.nodes settled.in_order settled.given_out
  where
    below : (word needed : ℕ) → word ≡ 0 → 0 < needed → word < needed
    below word needed empty some = omega arith

    kept : (word needed : ℕ) → word ≡ 0 → needed - word ≡ needed
    kept word needed empty = omega arith

    go : (nodes : List Node) → AreInOrder nodes → (0 < part.word → nodes ≡ []) → give_out (with_nodes nodes part) ≡ with_nodes nodes part
    go [] order out = λ i. record { word = part.word; nodes = []; granted = append-nil part.granted i; wakes = append-nil part.wakes i }
    go (first ∷ rest) order out =
        let empty : part.word ≡ 0 = no_word part.word first rest out in
        sym (gives_out_given (with_nodes (first ∷ rest) part) first rest refl (below part.word first.needed empty order.0.0))
        ∙ (λ i. record { word = sym empty i; nodes = record first { needed = kept part.word first.needed empty i } ∷ rest; granted = part.granted; wakes = part.wakes })
