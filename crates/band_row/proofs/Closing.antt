-- How all that wait are ended, from the front on.
use Rattle.std.proofs.Common.{◌≡◌, ◌≢◌, ℕ, suc, ◌+◌, ◌-◌, ◌*◌, ◌<◌, ◌≤◌, List, [], ◌∷◌, ◌++◌, length, map, drop, refl, arith, ap, sym, ◌∙◌, subst, append-nil, append_assoc, Option, Some, None, Bool, true, false, cond, ℤ, pos, ◌-ℤ◌, ◌⊎◌, inl, inr}
use Rattle.std.specs.Prelude.{◌==◌, slice_get}
use Rattle.std.proofs.lemmas.Bool.Decides.{nat_tests}
use Rattle.std.specs.List.Sorted.{IsPermutation}
use Rattle.std.specs.Option.{option_map}
use Rattle.std.proofs.lemmas.Bool.{true≢false}
use Rattle.std.proofs.lemmas.List.{length-append, length-map, map-append}
use Rattle.std.proofs.lemmas.Int.{ints}
use Rattle.std.proofs.lemmas.List.Elements.{filter_map-append}
use Rattle.std.proofs.lemmas.List.Sorted.{IsPermutation-refl, IsPermutation-trans, IsPermutation-append_left}
use Rattle.std.proofs.lemmas.List.Sums.{sum_by-append, sum_by-cons}
use Rattle.band_base.specs.declared.waker.Waker.{Waker}
use Rattle.band_balance.specs.Line.{Entry, Waiting, entry_of, total}
use Rattle.band_line.specs.Arena.{KeepsOthers}
use Rattle.band_line.specs.Visits.{Visits}
use Rattle.band_line.specs.WaitList.{WaitListState, IsWaitList, IsUnlinked, waiter_at, first_waiter, is_linked}
use Rattle.band_partial.specs.PartialLine.{Node, PartialLine, AreInOrder, is_debt, debt, request, shares, owed, debts, free_of, request_of, requests_of}
use Rattle.band_partial.specs.Moves.{rest_of_debts}
use Rattle.band_partial.proofs.Ending.{owing_needs_debts}
use Rattle.band_partial.proofs.Nodes.{by_nodes}
use Rattle.band_row.specs.Row.{RowState, EndsAll, served, IsAnswered, IsInPlace, part, node_of, linked_nodes, granted_of, ended_of, granted_to, ended_of_node, size_by}
use Rattle.band_row.specs.Kept.Counts.{CountsState, IsKept}
use Rattle.band_row.specs.Kept.Serves.{EndsFirst, ended_node}
use Rattle.band_row.specs.declared.wait_node.WaitNode.{WaitNode}
use Rattle.band_row.proofs.Granted.{entries-more}
use Rattle.band_row.proofs.Linked.{linked-served, linked-kept, linked-needs}
use Rattle.band_row.proofs.Moving.{ChangesAt, by_slot, entries_stay, needs_some, is_open}
use Rattle.band_row.proofs.Parts.{waiting-first, waiting-debt}
use Rattle.band_row.proofs.Serving.{first-linked, unlinked-sound, order_behind}

abbrev wakers_of : List Node → List ℕ
wakers_of nodes = map (λ (w : Waiting ℕ). w.waker) (requests_of nodes)

abbrev entries_of : List Node → List (Entry ℕ)
entries_of nodes = map entry_of (requests_of nodes)

abbrev counts : Node → ℕ
counts node = cond (is_debt node) 1 0

requests-append : (xs ys : List Node) → requests_of (xs ++ ys) ≡ requests_of xs ++ requests_of ys
requests-append xs ys = filter_map-append request_of xs ys

-- one after another
pub ends-then : (a b c : RowState) (s t u : ℕ) → EndsFirst a b s t → EndsFirst b c t u → EndsFirst a c s u
ends-then a b c s t u h k = record {
  gone = h.gone ++ k.gone;
  nodes = h.nodes ∙ ap (λ nodes. h.gone ++ nodes) k.nodes ∙ sym (append_assoc h.gone k.gone (part c).nodes);
  word = k.word ∙ h.word;
  granted = k.granted ∙ h.granted;
  wakes =
      k.wakes ∙ ap (λ wakes. wakes ++ wakers_of k.gone) h.wakes ∙ append_assoc a.wakes (wakers_of h.gone) (wakers_of k.gone)
      ∙ ap (λ wakes. a.wakes ++ wakes) (sym (map-append (λ (w : Waiting ℕ). w.waker) (requests_of h.gone) (requests_of k.gone))
      ∙ sym (ap (map (λ (w : Waiting ℕ). w.waker)) (requests-append h.gone k.gone)));
  ended =
      subst (λ es. IsPermutation es (ended_of c.list)) (sym both_ended)
      (IsPermutation-trans _ _ _ (IsPermutation-append_left (entries_of k.gone) _ _ h.ended) k.ended);
  room = λ some. by_part (sum_by-append counts h.gone k.gone) some;
  spare = upward _ _ _ h.spare k.spare;
  no_fewer = upward _ _ _ h.no_fewer k.no_fewer;
  no_more = visits (length h.gone) (length k.gone) (length-append h.gone k.gone) h.no_more k.no_more;
}
  where
    upward : (x y z : ℕ) → x ≤ y → y ≤ z → x ≤ z
    upward x y z below above = omega arith

    further : (x y : ℕ) → 0 < x → x ≤ y → 0 < y
    further x y some below = omega arith

    second : (d d' n : ℕ) → n ≡ d + d' → 0 < n → d ≡ 0 → 0 < d'
    second d d' n e some none = omega arith

    by_part : {n : ℕ} → n ≡ debts h.gone + debts k.gone → 0 < n → 0 < c.list.nodes.spare
    by_part {n} e some = by_test (debts h.gone == 0) refl
      where
        by_test : (b : Bool) → (debts h.gone == 0) ≡ b → 0 < c.list.nodes.spare
        by_test true none = k.room (second (debts h.gone) (debts k.gone) n e some (grind (arith, nat_tests)))
        by_test false more = further _ _ (h.room (grind (arith, nat_tests))) k.spare

    visits : (n m : ℕ) {k : ℕ} → k ≡ n + m → t ≤ s + 4 * n → u ≤ t + 4 * m → u ≤ s + 4 * k
    visits n m e first second = omega arith

    both_ended : ended_of a.list ++ entries_of (h.gone ++ k.gone) ≡ (ended_of a.list ++ entries_of h.gone) ++ entries_of k.gone
    both_ended =
        ap (λ es. ended_of a.list ++ es) (ap (map entry_of) (requests-append h.gone k.gone) ∙ map-append entry_of (requests_of h.gone) (requests_of k.gone))
        ∙ sym (append_assoc (ended_of a.list) (entries_of h.gone) (entries_of k.gone))

-- a row once the node in front is ended
pub record EndsOne (old new : RowState) (counted : CountsState) (before after : ℕ) : Type 0 where
  pub kept : IsKept new counted
  pub ends : EndsFirst old new before after
  pub fewer : length new.list.linked < length old.list.linked

one_less : (ids : List ℕ) {id : ℕ} → slice_get ids 0 ≡ Some id → length (drop 1 ids) < length ids
one_less [] first = absurd (cc)
one_less (x ∷ xs) first = omega arith

abbrev pub called_row : RowState → WaitListState WaitNode → Waker → RowState
called_row old mid waker = record { word = old.word; list = mid; wakes = old.wakes ++ waker.0 ∷ [] }

module _ {old : RowState} {counted : CountsState} {id : ℕ} {node : WaitNode} (kept : IsKept old counted)
    (first : first_waiter old.list ≡ Some id) (here : waiter_at id old.list ≡ Some node) {mid : WaitListState WaitNode} (left : IsUnlinked id (ended_node node) old.list mid) where
  linked : is_linked id old.list ≡ true
  linked = first-linked old.list.linked id first

  needs : (0 < node.needed) × (node.needed ≤ node.size)
  needs = linked-needs old.list id here kept.row.in_order linked

  not_ended : node.ended ≡ false
  not_ended = subst (λ b. IsInPlace b node) linked (kept.row.each id node here)

  none_granted : size_by granted_to (waiter_at id old.list) ≡ None
  none_granted = ap (size_by granted_to) here ∙ needs_some node needs.0

  none_ended : size_by ended_of_node (waiter_at id old.list) ≡ None
  none_ended = ap (size_by ended_of_node) here ∙ is_open node not_ended

  nodes : linked_nodes old.list ≡ node_of id node ∷ linked_nodes mid
  nodes = linked-served old.list mid id kept.row.list here first left

  order_left : AreInOrder (linked_nodes mid)
  order_left = order_behind (node_of id node) (linked_nodes mid) (subst AreInOrder nodes kept.row.in_order)

  mid_change : ChangesAt id old.list mid
  mid_change = record { values = left.others; links = left.linked }

  fewer_linked : length mid.linked < length old.list.linked
  fewer_linked = subst (λ (ids : List ℕ). length ids < length old.list.linked) (sym (left.first first)) (one_less old.list.linked first)

  -- a request is ended
  module _ {waker : Waker} (calls : node.waker ≡ Some waker) where
    woken : (node_of id node).waker ≡ Some waker.0
    woken = ap (option_map (λ w. w.0)) calls

    now_ended : (found : WaitNode) → waiter_at id mid ≡ Some found → IsInPlace (is_linked id mid) found
    now_ended found there =
        let same : ended_node node ≡ found = (let value = left.value in cc) in
        let sized : 0 < node.size = (let some = needs.0 in let fits = needs.1 in omega arith) in
        subst (λ b. IsInPlace b found) (sym left.detached.not_linked)
        (subst IsAnswered same (record { needs = needs.0; no_waker = refl; some = sized }))

    one_waits : length (requests_of (linked_nodes mid)) + 1 ≡ counted.waiting
    one_waits = sym (waiting-first (node_of id node) (linked_nodes mid) woken) ∙ sym (ap (λ (row : List Node). length (requests_of row)) nodes) ∙ sym kept.waiting

    alone : requests_of (node_of id node ∷ []) ≡ record { name = id; size = node.size; waker = waker.0 } ∷ []
    alone = ap (λ (w : Option ℕ). requests_of (record (node_of id node) { waker = w } ∷ [])) woken

    same_granted : granted_of mid ≡ granted_of old.list
    same_granted = entries_stay mid_change granted_to (ap (size_by granted_to) left.value ∙ needs_some (ended_node node) needs.0 ∙ sym none_granted)

    no_debt : debts (node_of id node ∷ []) ≡ 0
    no_debt = ap (λ (w : Option ℕ). debts (record (node_of id node) { waker = w } ∷ [])) woken

    pub calls_one : {before after : ℕ} → before ≤ after → after ≤ before + 4 → EndsOne old (called_row old mid waker) (record counted {
      waiting = counted.waiting - 1;
      wakes = record { wakers = old.wakes ++ waker.0 ∷ []; spare = counted.wakes.spare - 1 };
    }) before after
    calls_one {before} {after} no_fewer no_more = record {
      kept = record {
        row = record { list = unlinked-sound kept.row.list first left; in_order = order_left; each = by_slot mid_change kept.row.each now_ended };
        waiting = less (length (requests_of (linked_nodes mid))) one_waits;
        granted = kept.granted ∙ sym (ap total same_granted);
        room = below kept.room;
      };
      ends = record {
        gone = node_of id node ∷ [];
        nodes = nodes;
        word = refl;
        granted = same_granted;
        wakes = ap (λ (ws : List (Waiting ℕ)). old.wakes ++ map (λ w. w.waker) ws) (sym alone);
        ended =
            subst (λ (ws : List (Waiting ℕ)). IsPermutation (ended_of old.list ++ map entry_of ws) (ended_of mid)) (sym alone)
            (entries-more ended_of_node id node.size mid.nodes.slots old.list.nodes.slots (ap (size_by ended_of_node) left.value)
            (record { gone = none_ended; others = λ other differs. ap (size_by ended_of_node) (sym (left.others other differs)) }));
        room = λ some. absurd (omega (arith, some, no_debt));
        spare = omega (arith, left.spare);
        no_fewer = no_fewer;
        no_more = no_more;
      };
      fewer = fewer_linked;
    }
      where
        less : (n : ℕ) → n + 1 ≡ counted.waiting → counted.waiting - 1 ≡ n
        less n e = omega arith

        below : counted.waiting ≤ counted.wakes.spare → counted.waiting - 1 ≤ counted.wakes.spare - 1
        below room = omega arith

  -- a debt is gone
  module _ {list : WaitListState WaitNode} (owes : node.waker ≡ None) (links : list.linked ≡ mid.linked) (others : KeepsOthers id mid.nodes list.nodes)
      (vacant : waiter_at id list ≡ None) (sound : IsWaitList list) (roomier : list.nodes.spare ≡ mid.nodes.spare + 1) where
    same_links : (slot : ℕ) → is_linked slot list ≡ is_linked slot mid
    same_links slot = ap (λ ids. is_linked slot (record list { linked = ids })) links

    change : ChangesAt id old.list list
    change = record {
      values = λ other differs. others other differs ∙ left.others other differs;
      links = λ other differs. same_links other ∙ left.linked other differs;
    }

    nodes_left : linked_nodes list ≡ linked_nodes mid
    nodes_left = linked-kept mid list links (λ slot within. others slot (λ same. never (sym within ∙ ap (λ s. is_linked s mid) same ∙ left.detached.not_linked)))
      where
        never : true ≡ false → ⊥
        never e = true≢false e

    owed_to : (node_of id node).waker ≡ None
    owed_to = ap (option_map (λ (w : Waker). w.0)) owes

    nobody : requests_of (node_of id node ∷ []) ≡ []
    nobody = ap (λ (w : Option ℕ). requests_of (record (node_of id node) { waker = w } ∷ [])) owed_to

    still_granted : granted_of list ≡ granted_of old.list
    still_granted = entries_stay change granted_to (ap (size_by granted_to) vacant ∙ sym none_granted)

    still_ended : ended_of list ≡ ended_of old.list
    still_ended = entries_stay change ended_of_node (ap (size_by ended_of_node) vacant ∙ sym none_ended)

    pub drops_one : {before after : ℕ} → before ≤ after → after ≤ before + 4 → EndsOne old (record old { list = list }) counted before after
    drops_one {before} {after} no_fewer no_more = record {
      kept = record {
        row = record {
          list = sound;
          in_order = subst AreInOrder (sym nodes_left) order_left;
          each = by_slot change kept.row.each (λ found there. absurd (let none = vacant in cc));
        };
        waiting =
            kept.waiting ∙ ap (λ (row : List Node). length (requests_of row)) nodes
            ∙ ap length (waiting-debt (node_of id node) (linked_nodes mid) owed_to) ∙ sym (ap (λ (row : List Node). length (requests_of row)) nodes_left);
        granted = kept.granted ∙ sym (ap total still_granted);
        room = kept.room;
      };
      ends = record {
        gone = node_of id node ∷ [];
        nodes = nodes ∙ ap (λ (rest : List Node). node_of id node ∷ rest) (sym nodes_left);
        word = refl;
        granted = still_granted;
        wakes = sym (append-nil old.wakes) ∙ ap (λ (ws : List (Waiting ℕ)). old.wakes ++ map (λ w. w.waker) ws) (sym nobody);
        ended =
            subst (λ (ws : List (Waiting ℕ)). IsPermutation (ended_of old.list ++ map entry_of ws) (ended_of list)) (sym nobody)
            (subst (λ (es : List (Entry ℕ)). IsPermutation es (ended_of list)) (still_ended ∙ sym (append-nil (ended_of old.list))) (IsPermutation-refl (ended_of list)));
        room = λ some. omega (arith, roomier);
        spare = omega (arith, roomier, left.spare);
        no_fewer = no_fewer;
        no_more = no_more;
      };
      fewer = subst (λ (ids : List ℕ). length ids < length old.list.linked) (sym links) fewer_linked;
    }

-- each that is gone was a request or a debt
gone-counted : (nodes : List Node) → length nodes ≡ length (requests_of nodes) + debts nodes
gone-counted = by_nodes (λ nodes. length nodes ≡ length (requests_of nodes) + debts nodes) refl
    (λ slot size needed rest before. owes _ _ _ _ before (sum_by-cons counts (debt slot size needed) rest))
    (λ slot size needed waker rest before. asks _ _ _ _ before (sum_by-cons counts (request slot size needed waker) rest))
  where
    owes : (n r d d' : ℕ) → n ≡ r + d → d' ≡ 1 + d → suc n ≡ r + d'
    owes n r d d' e more = omega arith

    asks : (n r d d' : ℕ) → n ≡ r + d → d' ≡ 0 + d → suc n ≡ suc r + d'
    asks n r d d' e more = omega arith

-- what is left once all are gone: so many available, or one debt
abbrev pub left_of : RowState → ℕ → ℕ → ℕ → PartialLine
left_of mid slot word rest = record (part mid) { word = word; nodes = rest_of_debts slot rest }

module _ {old mid : RowState} {before after : ℕ} (ends : EndsFirst old mid before after) (none : (part mid).nodes ≡ []) where
  all_gone : (part old).nodes ≡ ends.gone
  all_gone = ends.nodes ∙ ap (λ (rest : List Node). ends.gone ++ rest) none ∙ append-nil ends.gone

  wakes_are : mid.wakes ≡ old.wakes ++ wakers_of (part old).nodes
  wakes_are = ends.wakes ∙ ap (λ (gone : List Node). old.wakes ++ wakers_of gone) (sym all_gone)

  owes_some : (word rest : ℕ) → pos word -ℤ pos rest ≡ free_of old.word (part old).nodes → word ≡ 0 → 0 < rest → 0 < debts (part old).nodes
  owes_some word rest is nothing some = owing_needs_debts (part old).nodes (more old.word (shares (part old).nodes) (owed (part old).nodes) word rest is nothing some)
    where
      more : (w s o word rest : ℕ) → pos word -ℤ pos rest ≡ (pos (w + s) -ℤ pos o) → word ≡ 0 → 0 < rest → 0 < o
      more w s o word rest is nothing some = omega (arith, ints)

  -- there is room for a debt
  pub room_for_debt : (rest : ℕ) → pos 0 -ℤ pos rest ≡ free_of old.word (part old).nodes → 0 < rest → 0 < mid.list.nodes.spare
  room_for_debt rest is some = ends.room (subst (λ (gone : List Node). 0 < debts gone) all_gone (owes_some 0 rest is refl some))

  pub ends_all : (slot word rest : ℕ) (new : RowState) → pos word -ℤ pos rest ≡ free_of old.word (part old).nodes → (word ≡ 0) ⊎ (rest ≡ 0)
      → part new ≡ left_of mid slot word rest → ended_of new.list ≡ ended_of mid.list → EndsAll old new
  ends_all slot word rest new is one becomes told = record {
    slot = slot;
    becomes = becomes ∙ (λ i. record {
      word = word_is old.word (shares (part old).nodes) (owed (part old).nodes) is one i;
      nodes = rest_of_debts slot (rest_is old.word (shares (part old).nodes) (owed (part old).nodes) is one i);
      granted = ends.granted i;
      wakes = wakes_are i;
    });
    ended =
        subst (λ (es : List (Entry ℕ)). IsPermutation (ended_of old.list ++ entries_of (part old).nodes) es) (sym told)
        (subst (λ (gone : List Node). IsPermutation (ended_of old.list ++ entries_of gone) (ended_of mid.list)) (sym all_gone) ends.ended);
  }
    where
      word_is : (w s o : ℕ) → pos word -ℤ pos rest ≡ (pos (w + s) -ℤ pos o) → (word ≡ 0) ⊎ (rest ≡ 0) → word ≡ (w + s) - o
      word_is w s o is (inl none) = omega (arith, ints)
      word_is w s o is (inr none) = omega (arith, ints)

      rest_is : (w s o : ℕ) → pos word -ℤ pos rest ≡ (pos (w + s) -ℤ pos o) → (word ≡ 0) ⊎ (rest ≡ 0) → rest ≡ o - (w + s)
      rest_is w s o is (inl none) = omega (arith, ints)
      rest_is w s o is (inr none) = omega (arith, ints)

  -- how many were served
  all_served : (new : PartialLine) → new.wakes ≡ mid.wakes → served (part old) new ≡ length (requests_of ends.gone) + (debts ends.gone - debts new.nodes)
  all_served new same =
      counted (length old.wakes) _ (length (requests_of ends.gone)) (debts (part old).nodes) (debts ends.gone) (debts new.nodes)
      (ap length (same ∙ ends.wakes) ∙ length-append old.wakes (wakers_of ends.gone) ∙ ap (λ n. length old.wakes + n) (length-map (requests_of ends.gone) (λ (w : Waiting ℕ). w.waker)))
      (ap debts all_gone)
    where
      counted : (w w' r d g n : ℕ) → w' ≡ w + r → d ≡ g → (w' - w) + (d - n) ≡ r + (g - n)
      counted w w' r d g n ew ed = omega arith

  pub ends_visits : (slot word : ℕ) (new : RowState) → part new ≡ left_of mid slot word 0 → Visits 0 (4 * served (part old) (part new) + 6) before after
  ends_visits slot word new becomes =
      let counted = all_served (part new) (ap (λ (p : PartialLine). p.wakes) becomes) in
      let no_debts : debts (part new).nodes ≡ 0 = ap (λ (p : PartialLine). debts p.nodes) becomes in
      bounded (length ends.gone) _ _ _ _ (gone-counted ends.gone) counted no_debts ends.no_more
    where
      bounded : (n r d d' k : ℕ) → n ≡ r + d → k ≡ r + (d - d') → d' ≡ 0 → after ≤ before + 4 * n → Visits 0 (4 * k + 6) before after
      bounded n r d d' k en ek ed more = record { no_fewer = omega (arith, ends.no_fewer); no_more = omega arith }

  pub ends_visits_owing : (slot rest : ℕ) (new : RowState) (last : ℕ) → part new ≡ left_of mid slot 0 rest → pos 0 -ℤ pos rest ≡ free_of old.word (part old).nodes → 0 < rest
      → after ≤ last → last ≤ after + 2 → Visits 0 (4 * served (part old) (part new) + 6) before last
  ends_visits_owing slot rest new last becomes is some no_fewer no_more =
      let counted = all_served (part new) (ap (λ (p : PartialLine). p.wakes) becomes) in
      let one_debt : debts (part new).nodes ≡ 1 = ap (λ (p : PartialLine). debts p.nodes) becomes ∙ one_left in
      let owing : 0 < debts ends.gone = subst (λ (gone : List Node). 0 < debts gone) all_gone (owes_some 0 rest is refl some) in
      bounded (length ends.gone) _ _ _ _ (gone-counted ends.gone) counted one_debt owing ends.no_more
    where
      one_left : debts (rest_of_debts slot rest) ≡ 1
      one_left = let more : (rest == 0) ≡ false = grind (arith, nat_tests) in rw more refl

      bounded : (n r d d' k : ℕ) → n ≡ r + d → k ≡ r + (d - d') → d' ≡ 1 → 0 < d → after ≤ before + 4 * n → Visits 0 (4 * k + 6) before last
      bounded n r d d' k en ek ed some more = record { no_fewer = omega (arith, ends.no_fewer, no_fewer); no_more = omega (arith, no_more) }
