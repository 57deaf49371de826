-- How the node in front of a row is served.
use Rattle.std.proofs.Common.{◌≡◌, ◌≢◌, ℕ, pos, ◌+ℤ◌, ◌-ℤ◌, ◌≤ℤ◌, ◌+◌, ◌-◌, ◌*◌, ◌<◌, ◌≤◌, List, [], ◌∷◌, ◌++◌, length, map, drop, slice_get}
use Rattle.std.proofs.Common.{refl, arith, ap, sym, ◌∙◌, subst, append-nil, Option, Some, None, is_some, IsSome, Bool, true, false, cond, nat_eq}
use Rattle.std.specs.Prelude.{◌==◌}
use Rattle.std.specs.List.{IsDistinct, list_any}
use Rattle.std.specs.Option.{option_map}
use Rattle.std.proofs.lemmas.Bool.Decides.{nat_tests}
use Rattle.std.proofs.lemmas.Int.{ints}
use Rattle.std.proofs.lemmas.List.{length-append}
use Rattle.std.proofs.lemmas.List.Sums.{sum_by-cons}
use Rattle.band_base.specs.declared.waker.Waker.{Waker}
use Rattle.band_balance.specs.Line.{u64_max, total}
use Rattle.band_line.specs.Arena.{KeepsOthers}
use Rattle.band_line.specs.WaitList.{WaitListState, IsWaitList, IsUnlinked, IsWritten, waiter_at, first_waiter, is_linked}
use Rattle.band_partial.specs.PartialLine.{Node, PartialLine, AreAlikeParts, AreInOrder, IsSettled, is_debt, shares, owed, debts, requests_of}
use Rattle.band_partial.specs.Moves.{give_out, first_served, first_given, given}
use Rattle.band_partial.proofs.Nodes.{have_nothing}
use Rattle.band_partial.proofs.Steps.{gives_out_served, gives_out_given, gives_out_done}
use Rattle.band_partial.proofs.Order.{give_out-alike}
use Rattle.band_row.specs.Row.{RowState, IsAnswered, IsInPlace, SameEnded, part, node_of, node_at, linked_nodes, granted_of, ended_of, granted_to, ended_of_node, size_by, served, Holds}
use Rattle.band_row.specs.Kept.Counts.{CountsState, IsKept}
use Rattle.band_row.specs.Kept.Serves.{Serves, granted_node}
use Rattle.band_row.specs.declared.wait_node.WaitNode.{WaitNode}
use Rattle.band_row.proofs.Granted.{LeavesSlot, entries-more, total-gone}
use Rattle.band_row.proofs.Linked.{linked-first, linked-served, linked-given, linked-needs, linked-kept}
use Rattle.band_row.proofs.Moving.{ChangesAt, by_slot, entries_stay, needs_some, is_open}
use Rattle.band_row.proofs.Parts.{served-alike, alike_parts-equal, alike_parts-then, holds-alike, served-holds, given-holds, granting-fits, waiting-first, waiting-debt}

-- The list, once the node in front answered.
pub first-linked : (ids : List ℕ) (id : ℕ) → slice_get ids 0 ≡ Some id → list_any (λ other. other == id) ids ≡ true
first-linked [] id e = absurd (cc)
first-linked (x ∷ xs) id e = let same : x ≡ id = cc in grind (arith, nat_tests)

once_behind : (ids : List ℕ) → IsDistinct nat_eq ids → IsDistinct nat_eq (drop 1 ids)
unfolding IsDistinct
once_behind [] once = tt
once_behind (x ∷ xs) once = once.1

module _ {old new : WaitListState WaitNode} {id : ℕ} {last : WaitNode} (sound : IsWaitList old) where
  pub unlinked-sound : first_waiter old ≡ Some id → IsUnlinked id last old new → IsWaitList new
  unlinked-sound first left = record { here = here; once = subst (IsDistinct nat_eq) (sym (left.first first)) (once_behind old.linked sound.once) }
    where
      here : (other : ℕ) → is_linked other new ≡ true → IsSome (waiter_at other new)
      here other linked = by_test (other == id) refl
        where
          by_test : (b : Bool) → (other == id) ≡ b → IsSome (waiter_at other new)
          by_test true e = let same : id ≡ other = grind (arith, nat_tests) in subst (λ slot. IsSome (waiter_at slot new)) same left.detached.here
          by_test false e =
              let differs : other ≢ id = grind (arith, nat_tests) in
              ap is_some (left.others other differs) ∙ sound.here other (sym (left.linked other differs) ∙ linked)

  pub written-sound : IsWritten id last old new → IsWaitList new
  written-sound written = record { here = here; once = subst (IsDistinct nat_eq) (sym written.linked) sound.once }
    where
      here : (other : ℕ) → is_linked other new ≡ true → IsSome (waiter_at other new)
      here other linked = by_test (other == id) refl
        where
          by_test : (b : Bool) → (other == id) ≡ b → IsSome (waiter_at other new)
          by_test true e = let same : id ≡ other = grind (arith, nat_tests) in subst (λ slot. IsSome (waiter_at slot new)) same (ap is_some written.value)
          by_test false e =
              let differs : other ≢ id = grind (arith, nat_tests) in
              ap is_some (written.others other differs)
              ∙ sound.here other (sym (ap (λ ids. list_any (λ slot. slot == other) ids) written.linked) ∙ linked)

-- One node is served, and counts as one.
abbrev counts : Node → ℕ
counts node = cond (is_debt node) 1 0

record ServesOne (old new : PartialLine) : Type 0 where
  wakes : length old.wakes ≤ length new.wakes
  debts : debts new.nodes ≤ debts old.nodes
  one : served old new ≡ 1

serves_one : (part : PartialLine) (first : Node) (rest : List Node) → part.nodes ≡ first ∷ rest → ServesOne part (first_served first rest part)
serves_one part first rest nodes = by_waker first.waker nodes
  where
    granted : (w w' d d' : ℕ) → w' ≡ w + 1 → d ≡ 0 + d' → (w ≤ w') × (d' ≤ d) × ((w' - w) + (d - d') ≡ 1)
    granted w w' d d' ew ed = (omega arith, omega arith, omega arith)

    paid : (w w' d d' : ℕ) → w' ≡ w + 0 → d ≡ 1 + d' → (w ≤ w') × (d' ≤ d) × ((w' - w) + (d - d') ≡ 1)
    paid w w' d d' ew ed = (omega arith, omega arith, omega arith)

    by_waker : (w : Option ℕ) → part.nodes ≡ record first { waker = w } ∷ rest → ServesOne part (first_served (record first { waker = w }) rest part)
    by_waker None is =
        let all = paid (length part.wakes) _ _ (debts rest) (length-append part.wakes []) (ap debts is ∙ sum_by-cons counts (record first { waker = None }) rest) in
        record { wakes = all.0; debts = all.1; one = all.2 }
    by_waker (Some waker) is =
        let all = granted (length part.wakes) _ _ (debts rest) (length-append part.wakes (waker ∷ [])) (ap debts is ∙ sum_by-cons counts (record first { waker = Some waker }) rest) in
        record { wakes = all.0; debts = all.1; one = all.2 }

-- what is like the partial line once its first node was served
serves_first : (old new : PartialLine) (first : Node) (rest : List Node) (before after : ℕ) → old.nodes ≡ first ∷ rest → first.needed ≤ old.word
    → AreAlikeParts (first_served first rest old) new → before ≤ after → after ≤ before + 4 → Serves old new before after
serves_first old new first rest before after nodes enough alike no_fewer no_more = record {
  gives =
      alike_parts-then _ _ _ (alike_parts-equal (give_out old) (give_out (first_served first rest old)) (sym (gives_out_served old first rest nodes enough)))
      (give_out-alike (first_served first rest old) new alike);
  wakes = subst (λ (wakes : List ℕ). length old.wakes ≤ length wakes) (sym alike.wakes) one.wakes;
  debts = subst (λ (row : List Node). debts row ≤ debts old.nodes) (sym alike.nodes) one.debts;
  no_fewer = no_fewer;
  no_more = visits (served old new) (cond (new.word == 0) 1 0) (served-alike (first_served first rest old) new alike old ∙ one.one);
}
  where
    one : ServesOne old (first_served first rest old)
    one = serves_one old first rest nodes

    visits : (n last : ℕ) → n ≡ 1 → after ≤ before + (4 * n) + last
    visits n last e = omega arith

-- what is the partial line once its first node has all that was available
gives_first : (old new : PartialLine) (first : Node) (rest : List Node) (before after : ℕ) → old.nodes ≡ first ∷ rest → old.word < first.needed
    → new ≡ first_given first rest old → AreInOrder new.nodes → after ≡ before + 1 → Serves old new before after
gives_first old new first rest before after nodes few is order more = record {
  gives = alike_parts-equal (give_out old) (give_out new) (sym (gives_out_given old first rest nodes few) ∙ sym is ∙ sym (gives_out_done new settled));
  wakes = omega (arith, ap (λ (p : PartialLine). length p.wakes) is);
  debts = omega (arith, owing);
  no_fewer = omega arith;
  no_more = visits (served old new) (new.word == 0) (ap (λ (p : PartialLine). p.word == 0) is);
}
  where
    settled : IsSettled new
    settled = record { in_order = order; given_out = λ some. absurd (omega (arith, some, ap (λ (p : PartialLine). p.word) is)) }

    owing : debts new.nodes ≡ debts old.nodes
    owing =
        ap (λ (p : PartialLine). debts p.nodes) is ∙ sum_by-cons counts (given old.word first) rest
        ∙ sym (sum_by-cons counts first rest) ∙ sym (ap debts nodes)

    visits : (n : ℕ) (b : Bool) → b ≡ true → after ≤ before + (4 * n) + cond b 1 0
    visits n true e = omega arith
    visits n false e = absurd (cc)

-- those behind the node in front are in order
pub order_behind : (first : Node) (rest : List Node) → AreInOrder (first ∷ rest) → AreInOrder rest
order_behind first rest order = by_waker first.waker order
  where
    by_waker : (w : Option ℕ) → AreInOrder (record first { waker = w } ∷ rest) → AreInOrder rest
    by_waker None both = both.1
    by_waker (Some waker) both = (have_nothing rest both.1).in_order

-- a row after one of its nodes was served: what is counted of it, what it gives out, and what is free
pub record Served (old new : RowState) (counted : CountsState) (before after : ℕ) : Type 0 where
  pub kept : IsKept new counted
  pub serves : Serves (part old) (part new) before after
  pub ended : SameEnded old new
  pub holds : Holds 0 (part new)

-- the row after the grant of a request, after the payment of a debt, and after all went to a node that needs more
abbrev pub granted_row : RowState → WaitListState WaitNode → WaitNode → Waker → RowState
granted_row old mid node waker = record { word = old.word - node.needed; list = mid; wakes = old.wakes ++ waker.0 ∷ [] }

abbrev pub paid_row : RowState → WaitListState WaitNode → WaitNode → RowState
paid_row old list node = record { word = old.word - node.needed; list = list; wakes = old.wakes }

abbrev pub lowered_row : RowState → WaitListState WaitNode → RowState
lowered_row old list = record { word = 0; list = list; wakes = old.wakes }

abbrev behind_first : WaitListState WaitNode → List Node
behind_first list = map (node_at list) (drop 1 list.linked)

module _ {old : RowState} {counted : CountsState} {id : ℕ} {node : WaitNode} (kept : IsKept old counted)
    (first : first_waiter old.list ≡ Some id) (here : waiter_at id old.list ≡ Some node) where
  linked : is_linked id old.list ≡ true
  linked = first-linked old.list.linked id first

  needs : (0 < node.needed) × (node.needed ≤ node.size)
  needs = linked-needs old.list id here kept.row.in_order linked

  not_granted : size_by granted_to (waiter_at id old.list) ≡ None
  not_granted = ap (size_by granted_to) here ∙ needs_some node needs.0

  not_ended : node.ended ≡ false
  not_ended = subst (λ b. IsInPlace b node) linked (kept.row.each id node here)

  none_ended : size_by ended_of_node (waiter_at id old.list) ≡ None
  none_ended = ap (size_by ended_of_node) here ∙ is_open node not_ended

  -- the node in front needs no more than is available, and is linked no more
  module _ {mid : WaitListState WaitNode} (left : IsUnlinked id (granted_node node) old.list mid) (enough : node.needed ≤ old.word) where
    nodes : linked_nodes old.list ≡ node_of id node ∷ linked_nodes mid
    nodes = linked-served old.list mid id kept.row.list here first left

    order : AreInOrder (node_of id node ∷ linked_nodes mid)
    order = subst AreInOrder nodes kept.row.in_order

    order_left : AreInOrder (linked_nodes mid)
    order_left = order_behind (node_of id node) (linked_nodes mid) order

    -- a request is granted
    module _ {waker : Waker} (waits : node.waker ≡ Some waker) where
      woken : (node_of id node).waker ≡ Some waker.0
      woken = ap (option_map (λ w. w.0)) waits

      leaves : LeavesSlot granted_to id mid.nodes.slots old.list.nodes.slots
      leaves = record { gone = not_granted; others = λ other differs. ap (size_by granted_to) (sym (left.others other differs)) }

      alike : AreAlikeParts (first_served (node_of id node) (linked_nodes mid) (part old)) (part (granted_row old mid node waker))
      alike =
          subst (λ (w : Option ℕ). AreAlikeParts (first_served (record (node_of id node) { waker = w }) (linked_nodes mid) (part old)) (part (granted_row old mid node waker))) (sym woken)
          (record {
            word = refl;
            nodes = refl;
            granted = entries-more granted_to id node.size mid.nodes.slots old.list.nodes.slots (ap (size_by granted_to) left.value) leaves;
            wakes = refl;
          })

      mid_change : ChangesAt id old.list mid
      mid_change = record { values = left.others; links = left.linked }

      -- one waits, for whom there is room, and whose size fits
      one_waits : length (requests_of (linked_nodes mid)) + 1 ≡ counted.waiting
      one_waits =
          sym (waiting-first (node_of id node) (linked_nodes mid) woken) ∙ sym (ap (λ (row : List Node). length (requests_of row)) nodes) ∙ sym kept.waiting

      pub size_fits : Holds 0 (part old) → counted.granted_sum + node.size ≤ u64_max
      size_fits holds =
          subst (λ sum. sum + node.size ≤ u64_max) (sym kept.granted)
          (granting-fits (part old) (node_of id node) (linked_nodes mid) nodes order holds woken enough)

      pub grants : {before after : ℕ} → Holds 0 (part old) → before ≤ after → after ≤ before + 4 → Served old (granted_row old mid node waker) (record {
        waiting = counted.waiting - 1;
        granted_sum = counted.granted_sum + node.size;
        wakes = record { wakers = old.wakes ++ waker.0 ∷ []; spare = counted.wakes.spare - 1 };
      }) before after
      grants {before} {after} holds no_fewer no_more = record {
        kept = record {
          row = record {
            list = unlinked-sound kept.row.list first left;
            in_order = order_left;
            each = by_slot mid_change kept.row.each now_granted;
          };
          waiting = less (length (requests_of (linked_nodes mid))) one_waits;
          granted = sum (total (granted_of mid)) (total-gone granted_to id node.size mid.nodes.slots old.list.nodes.slots (ap (size_by granted_to) left.value) leaves);
          room = below kept.room;
        };
        serves = serves_first (part old) (part (granted_row old mid node waker)) (node_of id node) (linked_nodes mid) before after nodes enough alike no_fewer no_more;
        ended = entries_stay mid_change ended_of_node (ap (size_by ended_of_node) left.value ∙ sym none_ended);
        holds = holds-alike _ _ alike 0 (served-holds (part old) (node_of id node) (linked_nodes mid) nodes order holds enough);
      }
        where
          now_granted : (found : WaitNode) → waiter_at id mid ≡ Some found → IsInPlace (is_linked id mid) found
          now_granted found there =
              let same : granted_node node ≡ found = (let value = left.value in cc) in
              let sized : 0 < node.size = (let some = needs.0 in let fits = needs.1 in omega arith) in
              subst (λ b. IsInPlace b found) (sym left.detached.not_linked)
              (subst IsAnswered same (record { needs = refl; no_waker = refl; some = sized }))

          less : (n : ℕ) → n + 1 ≡ counted.waiting → counted.waiting - 1 ≡ n
          less n e = omega arith

          sum : (t : ℕ) → total (granted_of old.list) + node.size ≡ t → counted.granted_sum + node.size ≡ t
          sum t e = ap (λ n. n + node.size) kept.granted ∙ e

          below : counted.waiting ≤ counted.wakes.spare → counted.waiting - 1 ≤ counted.wakes.spare - 1
          below room = omega arith

    -- a debt is paid, and gone
    module _ {list : WaitListState WaitNode} (owes : node.waker ≡ None) (links : list.linked ≡ mid.linked) (others : KeepsOthers id mid.nodes list.nodes)
        (vacant : waiter_at id list ≡ None) (sound : IsWaitList list) where
      same_links : (slot : ℕ) → is_linked slot list ≡ is_linked slot mid
      same_links slot = ap (λ ids. list_any (λ other. other == slot) ids) links

      change : ChangesAt id old.list list
      change = record {
        values = λ other differs. others other differs ∙ left.others other differs;
        links = λ other differs. same_links other ∙ left.linked other differs;
      }

      nodes_left : linked_nodes list ≡ linked_nodes mid
      nodes_left = linked-kept mid list links by_slot
        where
          by_slot : (slot : ℕ) → is_linked slot mid ≡ true → waiter_at slot list ≡ waiter_at slot mid
          by_slot slot within = by_test (slot == id) refl
            where
              by_test : (b : Bool) → (slot == id) ≡ b → waiter_at slot list ≡ waiter_at slot mid
              by_test true e =
                  let same : slot ≡ id = grind (arith, nat_tests) in
                  let never : true ≡ false = sym within ∙ ap (λ s. is_linked s mid) same ∙ left.detached.not_linked in
                  absurd (cc)
              by_test false e = let differs : slot ≢ id = grind (arith, nat_tests) in others slot differs

      same_granted : granted_of list ≡ granted_of old.list
      same_granted = entries_stay change granted_to (ap (size_by granted_to) vacant ∙ sym not_granted)

      owed_to : (node_of id node).waker ≡ None
      owed_to = ap (option_map (λ (w : Waker). w.0)) owes

      paid_is : first_served (node_of id node) (linked_nodes mid) (part old) ≡ part (paid_row old list node)
      paid_is =
          ap (λ (w : Option ℕ). first_served (record (node_of id node) { waker = w }) (linked_nodes mid) (part old)) owed_to
          ∙ (λ i. record {
            word = old.word - node.needed;
            nodes = sym nodes_left i;
            granted = (append-nil (granted_of old.list) ∙ sym same_granted) i;
            wakes = append-nil old.wakes i;
          })

      pub pays : {before after : ℕ} → Holds 0 (part old) → before ≤ after → after ≤ before + 4 → Served old (paid_row old list node) counted before after
      pays {before} {after} holds no_fewer no_more = record {
        kept = record {
          row = record {
            list = sound;
            in_order = subst AreInOrder (sym nodes_left) order_left;
            each = by_slot change kept.row.each (λ found there. absurd (let none = vacant in cc));
          };
          waiting =
              kept.waiting ∙ ap (λ (row : List Node). length (requests_of row)) nodes
              ∙ ap length (waiting-debt (node_of id node) (linked_nodes mid) owed_to) ∙ sym (ap (λ (row : List Node). length (requests_of row)) nodes_left);
          granted = kept.granted ∙ sym (ap total same_granted);
          room = kept.room;
        };
        serves =
            serves_first (part old) (part (paid_row old list node)) (node_of id node) (linked_nodes mid) before after nodes enough
            (alike_parts-equal _ _ paid_is) no_fewer no_more;
        ended = entries_stay change ended_of_node (ap (size_by ended_of_node) vacant ∙ sym none_ended);
        holds = subst (Holds 0) paid_is (served-holds (part old) (node_of id node) (linked_nodes mid) nodes order holds enough);
      }

  -- it needs more, and has from now on what is available
  module _ {list : WaitListState WaitNode} (few : old.word < node.needed) (written : IsWritten id (record node { needed = node.needed - old.word }) old.list list) where
    nodes_before : linked_nodes old.list ≡ node_of id node ∷ behind_first old.list
    nodes_before = linked-first old.list id first here

    nodes_after : linked_nodes list ≡ given old.word (node_of id node) ∷ behind_first old.list
    nodes_after = linked-given old.list list id kept.row.list here first written

    order_before : AreInOrder (node_of id node ∷ behind_first old.list)
    order_before = subst AreInOrder nodes_before kept.row.in_order

    still_some : (needed word size : ℕ) → word < needed → needed ≤ size → (0 < needed - word) × (needed - word ≤ size)
    still_some needed word size less fits = (omega arith, omega arith)

    some_left : (0 < node.needed - old.word) × (node.needed - old.word ≤ node.size)
    some_left = still_some node.needed old.word node.size few needs.1

    order_after : AreInOrder (linked_nodes list)
    order_after = subst AreInOrder (sym nodes_after) (some_left, order_before.1)

    links_stay : (slot : ℕ) → is_linked slot list ≡ is_linked slot old.list
    links_stay slot = ap (λ ids. list_any (λ other. other == slot) ids) written.linked

    written_change : ChangesAt id old.list list
    written_change = record { values = written.others; links = λ other differs. links_stay other }

    granted_still : granted_of list ≡ granted_of old.list
    granted_still =
        entries_stay written_change granted_to
        (ap (size_by granted_to) written.value ∙ needs_some (record node { needed = node.needed - old.word }) some_left.0 ∙ sym not_granted)

    given_is : part (lowered_row old list) ≡ first_given (node_of id node) (behind_first old.list) (part old)
    given_is = λ i. record { word = 0; nodes = nodes_after i; granted = granted_still i; wakes = old.wakes }

    as_many : length (requests_of (given old.word (node_of id node) ∷ behind_first old.list)) ≡ length (requests_of (node_of id node ∷ behind_first old.list))
    as_many = by_waker (option_map (λ w. w.0) node.waker)
      where
        by_waker : (w : Option ℕ) → length (requests_of (record (given old.word (node_of id node)) { waker = w } ∷ behind_first old.list))
            ≡ length (requests_of (record (node_of id node) { waker = w } ∷ behind_first old.list))
        by_waker None = refl
        by_waker (Some waker) = refl

    pub gives : {before after : ℕ} → Holds 0 (part old) → after ≡ before + 1 → Served old (lowered_row old list) counted before after
    gives {before} {after} holds more = record {
      kept = record {
        row = record {
          list = written-sound kept.row.list written;
          in_order = order_after;
          each = by_slot written_change kept.row.each
              (λ found there.
              let same : record node { needed = node.needed - old.word } ≡ found = (let value = written.value in cc) in
              subst (λ b. IsInPlace b found) (sym (links_stay id ∙ linked)) (ap (λ n. n.ended) (sym same) ∙ not_ended));
        };
        waiting =
            kept.waiting ∙ ap (λ (row : List Node). length (requests_of row)) nodes_before ∙ sym as_many
            ∙ sym (ap (λ (row : List Node). length (requests_of row)) nodes_after);
        granted = kept.granted ∙ sym (ap total granted_still);
        room = kept.room;
      };
      serves = gives_first (part old) (part (lowered_row old list)) (node_of id node) (behind_first old.list) before after nodes_before few given_is order_after more;
      ended = entries_stay written_change ended_of_node
          (ap (size_by ended_of_node) written.value ∙ is_open (record node { needed = node.needed - old.word }) not_ended ∙ sym none_ended);
      holds = subst (Holds 0) (sym given_is) (given-holds (part old) (node_of id node) (behind_first old.list) nodes_before order_before holds few);
    }

-- what comes back is available
pub holds-back : (n : ℕ) (line : PartialLine) → Holds n line → Holds 0 (record line { word = line.word + n })
holds-back n line holds = counted line.word (shares line.nodes) (owed line.nodes) (total line.granted) u64_max holds
  where
    counted : (word s o t most : ℕ) → ((pos (word + s) -ℤ pos o) +ℤ pos (t + n)) ≤ℤ pos most → ((pos ((word + n) + s) -ℤ pos o) +ℤ pos (t + 0)) ≤ℤ pos most
    counted word s o t most h = omega (arith, ints)
