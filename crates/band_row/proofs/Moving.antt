-- What becomes of a row, move by move.
use Rattle.std.proofs.Common.{◌≡◌, ◌≢◌, refl, ℕ, suc, ◌+◌, ◌-◌, ◌<◌, ◌≤◌, List, [], ◌∷◌, ◌++◌, length, map, drop, arith, ap, sym, ◌∙◌, subst, Option, Some, None, is_some, IsSome, Bool, true, false, ◌⊎◌, inl, inr}
use Rattle.std.specs.Prelude.{◌==◌, nat_le}
use Rattle.std.proofs.lemmas.Bool.{cond-false, lt-leb, true≢false}
use Rattle.std.proofs.lemmas.Bool.Decides.{nat_tests}
use Rattle.band_base.specs.declared.waker.Waker.{Waker}
use Rattle.band_balance.specs.Line.{Entry, total, is_served, entry_named, without}
use Rattle.band_balance.proofs.Settle.{total-without}
use Rattle.band_line.specs.Arena.{KeepsOthers, KeepsValues}
use Rattle.band_line.specs.WaitList.{WaitListState, IsWaitList, IsUnlinked, IsWritten, Joins, waiter_at, first_waiter, is_linked, empty_list, with_list_room}
use Rattle.band_line.proofs.WaitListLemmas.{nobody_linked}
use Rattle.band_partial.specs.PartialLine.{Node, PartialLine, IsSettled, AreInOrder, debt, request, requests_of, line_of}
use Rattle.band_partial.specs.Moves.{open_part, owe, enqueue, leave_new_waker, collect, with_waker, without_node}
use Rattle.band_partial.proofs.Follows.{owe-shown, enqueue-shown, served-shown, leaves_row}
use Rattle.band_row.specs.Row.{RowState, IsRow, IsInPlace, SameEnded, part, node_of, linked_nodes, granted_of, ended_of, granted_to, ended_of_node, size_by, entries_from, is_slot}
use Rattle.band_row.specs.Kept.Counts.{CountsState, IsKept, no_counts}
use Rattle.band_row.specs.Kept.Serves.{IsGone, Ends, EndsBy, EndsAs}
use Rattle.band_row.specs.declared.wait_node.WaitNode.{WaitNode}
use Rattle.band_row.proofs.Granted.{entries-same, entries-gone}
use Rattle.band_row.proofs.Linked.{linked-front, linked-back, linked-kept, linked-gone, linked-waker, linked-request, linked-share, Stands, was_granted, waits, was_ended, StandsGranted, StandsWaiting, StandsEnded}
use Rattle.band_row.proofs.Parts.{waiting-back, waiting-waker, waiting-without, order-waker}

-- a row is this partial line now, and these are ended
pub record Becomes (new : RowState) (line : PartialLine) (told : List (Entry ℕ)) : Type 0 where
  pub is : part new ≡ line
  pub ended : ended_of new.list ≡ told
  pub row : IsRow new

-- what is counted of that partial line
pub record Counts (counts : CountsState) (line : PartialLine) : Type 0 where
  pub waiting : counts.waiting ≡ length (requests_of line.nodes)
  pub granted : counts.granted_sum ≡ total line.granted
  pub room : counts.waiting ≤ counts.wakes.spare

pub kept : {new : RowState} {line : PartialLine} {ended : List (Entry ℕ)} {counts : CountsState} → Becomes new line ended → Counts counts line → IsKept new counts
kept becomes counted = record {
  row = becomes.row;
  waiting = counted.waiting ∙ sym (ap (λ p. length (requests_of p.nodes)) becomes.is);
  granted = counted.granted ∙ sym (ap (λ p. total p.granted) becomes.is);
  room = counted.room;
}

pub counts : {old : RowState} {counts : CountsState} → IsKept old counts → Counts counts (part old)
counts kept = record { waiting = kept.waiting; granted = kept.granted; room = kept.room }

-- each node is where it belongs
abbrev pub AreInPlace : WaitListState WaitNode → Type 0
AreInPlace list = (slot : ℕ) (node : WaitNode) → waiter_at slot list ≡ Some node → IsInPlace (is_linked slot list) node

-- a list changes at one slot
pub record ChangesAt (id : ℕ) (old new : WaitListState WaitNode) : Type 0 where
  pub values : (other : ℕ) → other ≢ id → waiter_at other new ≡ waiter_at other old
  pub links : (other : ℕ) → other ≢ id → is_linked other new ≡ is_linked other old

module _ {id : ℕ} {old new : WaitListState WaitNode} (change : ChangesAt id old new) where
  pub by_slot : AreInPlace old → ((node : WaitNode) → waiter_at id new ≡ Some node → IsInPlace (is_linked id new) node) → AreInPlace new
  by_slot before here slot node there = by_test (slot == id) refl
    where
      by_test : (b : Bool) → (slot == id) ≡ b → IsInPlace (is_linked slot new) node
      by_test true e =
          let same : slot ≡ id = grind (arith, nat_tests) in
          subst (λ s. IsInPlace (is_linked s new) node) (sym same) (here node (ap (λ s. waiter_at s new) (sym same) ∙ there))
      by_test false e =
          let differs : slot ≢ id = grind (arith, nat_tests) in
          subst (λ b. IsInPlace b node) (sym (change.links slot differs)) (before slot node (sym (change.values slot differs) ∙ there))

  -- nobody has such a size more or less
  pub entries_stay : (of : WaitNode → Option ℕ) → size_by of (waiter_at id new) ≡ size_by of (waiter_at id old)
      → entries_from of 0 new.nodes.slots ≡ entries_from of 0 old.nodes.slots
  entries_stay of here = entries-same of 0 new.nodes.slots old.nodes.slots (λ slot. by_test slot (slot == id) refl)
    where
      by_test : (slot : ℕ) (b : Bool) → (slot == id) ≡ b → size_by of (waiter_at slot new) ≡ size_by of (waiter_at slot old)
      by_test slot true e =
          let same : id ≡ slot = grind (arith, nat_tests) in
          subst (λ s. size_by of (waiter_at s new) ≡ size_by of (waiter_at s old)) same here
      by_test slot false e =
          let differs : slot ≢ id = grind (arith, nat_tests) in
          ap (size_by of) (change.values slot differs)

-- one that needs some was not granted
pub needs_some : (node : WaitNode) → 0 < node.needed → granted_to node ≡ None
needs_some node some =
    let more : (node.needed == 0) ≡ false = grind (arith, nat_tests) in
    rw more refl

pub needs_nothing : (node : WaitNode) → node.needed ≡ 0 → granted_to node ≡ Some node.size
needs_nothing node none =
    let nothing : (node.needed == 0) ≡ true = grind (arith, nat_tests) in
    rw nothing refl

pub is_open : (node : WaitNode) → node.ended ≡ false → ended_of_node node ≡ None
is_open node open_still = rw open_still refl

-- a new node is linked
pub record Pushes (id : ℕ) (node : WaitNode) (old new : WaitListState WaitNode) : Type 0 where
  pub vacant : waiter_at id old ≡ None
  pub here : waiter_at id new ≡ Some node
  pub others : KeepsOthers id old.nodes new.nodes
  pub keeps : KeepsValues old.nodes new.nodes
  pub joins : Joins id old new
  pub sound : IsWaitList new

module _ {id : ℕ} {node : WaitNode} {old : RowState} {mid new : WaitListState WaitNode} {spare : ℕ}
    (before : IsRow old) (same : mid ≡ with_list_room spare old.list) (pushes : Pushes id node mid new) (some : 0 < node.needed) (fresh : node.ended ≡ false) where
  change : ChangesAt id mid new
  change = record { values = pushes.others; links = pushes.joins.others }

  each_before : AreInPlace mid
  each_before = subst AreInPlace (sym same) before.each

  list_before : IsWaitList mid
  list_before = subst IsWaitList (sym same) (record { here = before.list.here; once = before.list.once })

  pushed_granted : granted_of new ≡ granted_of old.list
  pushed_granted =
      entries_stay change granted_to (ap (size_by granted_to) pushes.here ∙ needs_some node some ∙ sym (ap (size_by granted_to) pushes.vacant))
      ∙ ap granted_of same

  pushed_ended : ended_of new ≡ ended_of old.list
  pushed_ended =
      entries_stay change ended_of_node (ap (size_by ended_of_node) pushes.here ∙ is_open node fresh ∙ sym (ap (size_by ended_of_node) pushes.vacant))
      ∙ ap ended_of same

  pushed_row : (word : ℕ) (line : PartialLine) → linked_nodes new ≡ line.nodes → AreInOrder line.nodes
      → IsRow (record { word = word; list = new; wakes = old.wakes })
  pushed_row word line is order = record {
    list = pushes.sound;
    in_order = subst AreInOrder (sym is) order;
    each = by_slot change each_before
        (λ found there.
        let is : node ≡ found = (let here = pushes.here in cc) in
        subst (λ b. IsInPlace b found) (sym pushes.joins.linked) (ap (λ n. n.ended) (sym is) ∙ fresh));
  }

  pub owed : (n : ℕ) → IsSettled (part old) → new.linked ≡ id ∷ mid.linked → node ≡ record { size = n; needed = n - old.word; waker = None; ended = false } → old.word < n
      → Becomes (record { word = 0; list = new; wakes = old.wakes }) (owe id n (part old)) (ended_of old.list)
  owed n settled links made more =
      let line : PartialLine = record (part old) { word = 0; nodes = debt id n (n - old.word) ∷ linked_nodes old.list } in
      let owes : owe id n (part old) ≡ line = cond-false _ _ _ (lt-leb n old.word more) in
      let nodes : linked_nodes new ≡ line.nodes =
      linked-front mid new id list_before pushes.keeps links pushes.here
      ∙ ap (λ v. node_of id v ∷ linked_nodes mid) made ∙ ap (λ l. debt id n (n - old.word) ∷ linked_nodes l) same in
      let order : AreInOrder line.nodes = subst (λ p. AreInOrder p.nodes) owes (owe-shown (part old) settled id n).settled.in_order in
      record {
        is = (λ i. record { word = 0; nodes = nodes i; granted = pushed_granted i; wakes = old.wakes }) ∙ sym owes;
        ended = pushed_ended;
        row = pushed_row 0 line nodes order;
      }

  pub joined : (size : ℕ) (waker : Waker) → IsSettled (part old) → new.linked ≡ mid.linked ++ id ∷ [] → node ≡ record { size = size; needed = size - old.word; waker = Some waker; ended = false } → old.word < size
      → Becomes (record { word = 0; list = new; wakes = old.wakes }) (enqueue id size waker.0 (part old)) (ended_of old.list)
  joined size waker settled links made more =
      let line : PartialLine = enqueue id size waker.0 (part old) in
      let nodes : linked_nodes new ≡ line.nodes =
      linked-back mid new id list_before pushes.keeps links pushes.here
      ∙ ap (λ v. linked_nodes mid ++ node_of id v ∷ []) made ∙ ap (λ l. linked_nodes l ++ request id size (size - old.word) waker.0 ∷ []) same in
      let waits : is_served size (line_of (part old)) ≡ false = served-shown (part old) settled size ∙ lt-leb size old.word more in
      let order : AreInOrder line.nodes = (enqueue-shown (part old) settled id size waker.0 waits).settled.in_order in
      record {
        is = λ i. record { word = 0; nodes = nodes i; granted = pushed_granted i; wakes = old.wakes };
        ended = pushed_ended;
        row = pushed_row 0 line nodes order;
      }

  -- where nobody is linked but a debt of n
  pub owing : (n : ℕ) → new.linked ≡ id ∷ mid.linked → node ≡ record { size = n; needed = n; waker = None; ended = false } → linked_nodes old.list ≡ []
      → Becomes (record { word = 0; list = new; wakes = old.wakes }) (record (part old) { word = 0; nodes = debt id n n ∷ [] }) (ended_of old.list)
  owing n links made none =
      let nodes : linked_nodes new ≡ debt id n n ∷ [] =
      linked-front mid new id list_before pushes.keeps links pushes.here
      ∙ ap (λ v. node_of id v ∷ linked_nodes mid) made ∙ ap (λ l. debt id n n ∷ linked_nodes l) same ∙ ap (λ rest. debt id n n ∷ rest) none in
      let more : 0 < n = subst (λ (v : WaitNode). 0 < v.needed) made some in
      record {
        is = λ i. record { word = 0; nodes = nodes i; granted = pushed_granted i; wakes = old.wakes };
        ended = pushed_ended;
        row = pushed_row 0 (record (part old) { word = 0; nodes = debt id n n ∷ [] }) nodes ((more, omega arith), tt);
      }

pub owed-counts : {counts : CountsState} {line : PartialLine} → Counts counts line → (slot n : ℕ) → line.word < n → Counts counts (owe slot n line)
owed-counts {counts} {line} counted slot n more = subst (Counts counts) (sym owes) (record { waiting = counted.waiting; granted = counted.granted; room = counted.room })
  where
    owes : owe slot n line ≡ record line { word = 0; nodes = debt slot n (n - line.word) ∷ line.nodes }
    owes = cond-false _ _ _ (lt-leb n line.word more)

pub joined-settled : (line : PartialLine) → IsSettled line → (slot size waker : ℕ) → line.word < size → IsSettled (enqueue slot size waker line)
joined-settled line settled slot size waker more =
    (enqueue-shown line settled slot size waker (served-shown line settled size ∙ lt-leb size line.word more)).settled

pub joined-counts : {before after last : CountsState} {line : PartialLine} → Counts before line → after ≡ record before { wakes = record before.wakes { spare = after.wakes.spare } }
    → last ≡ record after { waiting = after.waiting + 1 } → before.waiting < after.wakes.spare → (slot size waker : ℕ) → Counts last (enqueue slot size waker line)
joined-counts {before} {after} {last} {line} counted roomier one_more room slot size waker =
    let waits : last.waiting ≡ before.waiting + 1 = ap (λ k. k.waiting) one_more ∙ ap (λ k. k.waiting + 1) roomier in
    record {
      waiting = waits ∙ ap (λ n. n + 1) counted.waiting ∙ sym (waiting-back line.nodes slot size (size - line.word) waker);
      granted = ap (λ k. k.granted_sum) one_more ∙ ap (λ k. k.granted_sum) roomier ∙ counted.granted;
      room = subst (λ n. n ≤ last.wakes.spare) (sym waits) (subst (λ n. before.waiting + 1 ≤ n) (sym (ap (λ k. k.wakes.spare) one_more)) (omega (arith, room)));
    }

-- the partial line of a row, with another list
abbrev pub with_list : WaitListState WaitNode → RowState → RowState
with_list list row = record row { list = list }

module _ {id : ℕ} {node : WaitNode} {old : RowState} (before : IsRow old) (here : waiter_at id old.list ≡ Some node) where
  -- a slot whose node is linked no more, or is vacant, changes nothing in the line
  nodes_stay : {new : WaitListState WaitNode} → ChangesAt id old.list new → is_linked id old.list ≡ false → new.linked ≡ old.list.linked → linked_nodes new ≡ linked_nodes old.list
  nodes_stay {new} change off links =
      linked-kept old.list new links (λ other within. change.values other (λ same. true≢false (sym within ∙ ap (λ s. is_linked s old.list) same ∙ off)))

  -- a node that is gone is in no place
  gone_row : {new : WaitListState WaitNode} {nodes : List Node} → ChangesAt id old.list new → waiter_at id new ≡ None → IsWaitList new → linked_nodes new ≡ nodes → AreInOrder nodes
      → IsRow (with_list new old)
  gone_row change vacant sound is order = record {
    list = sound;
    in_order = subst AreInOrder (sym is) order;
    each = by_slot change before.each (λ left there. absurd (let gone = vacant in cc));
  }

  -- one that was granted is gone
  pub collected : {new : WaitListState WaitNode} → StandsGranted old id node → ChangesAt id old.list new → waiter_at id new ≡ None → new.linked ≡ old.list.linked → IsWaitList new
      → Becomes (with_list new old) (collect (is_slot id) (part old)) (ended_of old.list)
  collected {new} stands change vacant links sound =
      let nodes : linked_nodes new ≡ linked_nodes old.list = nodes_stay change stands.not_linked links in
      let granted : granted_of new ≡ without (is_slot id) (granted_of old.list) =
      entries-gone granted_to id node.size old.list.nodes.slots new.nodes.slots (ap (size_by granted_to) here ∙ needs_nothing node stands.none_needed)
      (record { gone = ap (size_by granted_to) vacant; others = λ other differs. ap (size_by granted_to) (change.values other differs) }) in
      record {
        is = λ i. record { word = old.word; nodes = nodes i; granted = granted i; wakes = old.wakes };
        ended = entries_stay change ended_of_node (ap (size_by ended_of_node) vacant ∙ sym (ap (size_by ended_of_node) here ∙ is_open node stands.not_ended));
        row = gone_row change vacant sound nodes before.in_order;
      }

  -- one that was ended is gone
  pub told : {new : WaitListState WaitNode} → StandsEnded old id node → ChangesAt id old.list new → waiter_at id new ≡ None → new.linked ≡ old.list.linked → IsWaitList new
      → Becomes (with_list new old) (part old) (without (is_slot id) (ended_of old.list))
  told {new} stands change vacant links sound =
      let nodes : linked_nodes new ≡ linked_nodes old.list = nodes_stay change stands.not_linked links in
      let granted : granted_of new ≡ granted_of old.list =
      entries_stay change granted_to (ap (size_by granted_to) vacant ∙ sym (ap (size_by granted_to) here ∙ needs_some node stands.some)) in
      record {
        is = λ i. record { word = old.word; nodes = nodes i; granted = granted i; wakes = old.wakes };
        ended =
            entries-gone ended_of_node id node.size old.list.nodes.slots new.nodes.slots (ap (size_by ended_of_node) here ∙ was_told stands.is_ended)
            (record { gone = ap (size_by ended_of_node) vacant; others = λ other differs. ap (size_by ended_of_node) (change.values other differs) });
        row = gone_row change vacant sound nodes before.in_order;
      }
    where
      was_told : node.ended ≡ true → ended_of_node node ≡ Some node.size
      was_told is = rw is refl

  module _ {new : WaitListState WaitNode} (stands : StandsWaiting old id node) where
    -- one that waits is gone
    pub left : IsGone id old.list new → Becomes (with_list new old) (record (part old) { nodes = without_node (is_slot id) (linked_nodes old.list) }) (ended_of old.list)
    left gone =
        let change : ChangesAt id old.list new = record { values = gone.others; links = gone.links } in
        let nodes : linked_nodes new ≡ without_node (is_slot id) (linked_nodes old.list) = linked-gone old.list new id before.list here stands.waits gone.linked gone.others in
        let granted : granted_of new ≡ granted_of old.list =
        entries_stay change granted_to (ap (size_by granted_to) gone.vacant ∙ sym (ap (size_by granted_to) here ∙ needs_some node stands.some)) in
        record {
          is = λ i. record { word = old.word; nodes = nodes i; granted = granted i; wakes = old.wakes };
          ended = entries_stay change ended_of_node (ap (size_by ended_of_node) gone.vacant ∙ sym (ap (size_by ended_of_node) here ∙ is_open node stands.not_ended));
          row = gone_row change gone.vacant gone.sound nodes ((leaves_row (is_slot id) (linked_nodes old.list)).order before.in_order);
        }

    -- one that waits leaves another waker
    pub new_waker : (waker : Waker) → IsWritten id (record node { waker = Some waker }) old.list new → IsWaitList new
        → Becomes (with_list new old) (leave_new_waker (is_slot id) waker.0 (part old)) (ended_of old.list)
    new_waker waker written sound =
        let links : (other : ℕ) → is_linked other new ≡ is_linked other old.list = λ other. ap (λ slots. is_linked other (record new { linked = slots })) written.linked in
        let change : ChangesAt id old.list new = record { values = written.others; links = λ other differs. links other } in
        let nodes : linked_nodes new ≡ with_waker (is_slot id) waker.0 (linked_nodes old.list) = linked-waker old.list new id before.list here stands.waits written in
        let granted : granted_of new ≡ granted_of old.list =
        entries_stay change granted_to
        (ap (size_by granted_to) written.value ∙ needs_some (record node { waker = Some waker }) stands.some ∙ sym (ap (size_by granted_to) here ∙ needs_some node stands.some)) in
        record {
          is = λ i. record { word = old.word; nodes = nodes i; granted = granted i; wakes = old.wakes };
          ended = entries_stay change ended_of_node
              (ap (size_by ended_of_node) written.value ∙ is_open (record node { waker = Some waker }) stands.not_ended ∙ sym (ap (size_by ended_of_node) here ∙ is_open node stands.not_ended));
          row = record {
            list = sound;
            in_order = subst AreInOrder (sym nodes) (order-waker (is_slot id) waker.0 (linked_nodes old.list) before.in_order);
            each = by_slot change before.each
                (λ found there.
                let is : record node { waker = Some waker } ≡ found = (let value = written.value in cc) in
                subst (λ b. IsInPlace b found) (sym (links id ∙ stands.linked)) (ap (λ n. n.ended) (sym is) ∙ stands.not_ended));
          };
        }

-- at the start
pub opened : (permits : ℕ) → Becomes (record { word = permits; list = empty_list; wakes = [] }) (open_part permits) []
opened permits = record {
  is = refl;
  ended = refl;
  row = record { list = nobody_linked; in_order = tt; each = λ slot node there. absurd (cc) };
}

pub uncounted : (permits : ℕ) → Counts no_counts (open_part permits)
uncounted permits = record { waiting = refl; granted = refl; room = omega arith }

pub woken-as : {word : ℕ} {list : WaitListState WaitNode} {wakes other : List ℕ} {line : PartialLine} {ended : List (Entry ℕ)} → other ≡ wakes
    → Becomes (record { word = word; list = list; wakes = wakes }) line ended → Becomes (record { word = word; list = list; wakes = other }) line ended
woken-as {word} {list} {wakes} {other} {line} {ended} same becomes = subst (λ w. Becomes (record { word = word; list = list; wakes = w }) line ended) (sym same) becomes

-- a size of those granted is no more than their sum
pub had-granted : {counts : CountsState} {line : PartialLine} → Counts counts line → (id size : ℕ) → entry_named (is_slot id) line.granted ≡ Some (record { name = id; size = size })
    → size + total (without (is_slot id) line.granted) ≡ counts.granted_sum
had-granted {counts} {line} counted id size found = total-without (is_slot id) line.granted (record { name = id; size = size }) found ∙ sym counted.granted

pub collected-counts : {before after : CountsState} {line : PartialLine} → Counts before line → (id size : ℕ) → entry_named (is_slot id) line.granted ≡ Some (record { name = id; size = size })
    → after ≡ record before { granted_sum = before.granted_sum - size } → Counts after (collect (is_slot id) line)
collected-counts {before} {after} {line} counted id size found same =
    let had = had-granted counted id size found in
    record {
      waiting = ap (λ k. k.waiting) same ∙ counted.waiting;
      granted = ap (λ k. k.granted_sum) same ∙ left before.granted_sum size (total (without (is_slot id) line.granted)) had;
      room = subst (λ k. k.waiting ≤ k.wakes.spare) (sym same) counted.room;
    }
  where
    left : (sum size rest : ℕ) → size + rest ≡ sum → sum - size ≡ rest
    left sum size rest e = omega arith

pub new_waker-counts : {counts : CountsState} {line : PartialLine} → Counts counts line → (is : ℕ → Bool) (waker : ℕ) → Counts counts (leave_new_waker is waker line)
new_waker-counts {counts} {line} counted is waker =
    record { waiting = counted.waiting ∙ sym (waiting-waker is waker line.nodes); granted = counted.granted; room = counted.room }

pub waits-here : {old : RowState} {id : ℕ} {node : WaitNode} → waiter_at id old.list ≡ Some node → StandsWaiting old id node
    → length (requests_of (without_node (is_slot id) (linked_nodes old.list))) + 1 ≡ length (requests_of (linked_nodes old.list))
waits-here {old} {id} {node} here stands = waiting-without (is_slot id) (linked_nodes old.list) (ap is_some (linked-request old.list id here stands.linked stands.waits))

-- where a request waits, one more waits than without it
pub ended-counts : {before after : CountsState} {old : RowState} {id : ℕ} {node : WaitNode} → Counts before (part old) → waiter_at id old.list ≡ Some node → StandsWaiting old id node
    → after ≡ record before { waiting = before.waiting - 1 } → Counts after (record (part old) { nodes = without_node (is_slot id) (linked_nodes old.list) })
ended-counts {before} {after} {old} {id} {node} counted here stands same =
    let one = waits-here here stands in
    record {
      waiting = ap (λ k. k.waiting) same ∙ fewer before.waiting _ _ counted.waiting one;
      granted = ap (λ k. k.granted_sum) same ∙ counted.granted;
      room = subst (λ k. k.waiting ≤ k.wakes.spare) (sym same) (less before.waiting before.wakes.spare counted.room);
    }
  where
    fewer : (n m k : ℕ) → n ≡ m → k + 1 ≡ m → n - 1 ≡ k
    fewer n m k e e' = omega arith

    less : (n s : ℕ) → n ≤ s → n - 1 ≤ s
    less n s le = omega arith

-- A request waits where it has a waker, and else it was granted or ended.
module _ {old : RowState} {id : ℕ} {node : WaitNode} {b : Bool} (tells : b ≡ is_some node.waker) where
  pub waiting_by : Stands old id node → b ≡ true → StandsWaiting old id node
  waiting_by (was_granted stands) there = absurd (true≢false (sym there ∙ tells ∙ ap is_some stands.no_waker))
  waiting_by (waits stands) there = stands
  waiting_by (was_ended stands) there = absurd (true≢false (sym there ∙ tells ∙ ap is_some stands.no_waker))

  pub granted_by : Stands old id node → b ≡ false → node.ended ≡ false → StandsGranted old id node
  granted_by (was_granted stands) gone open_still = stands
  granted_by (waits stands) gone open_still = absurd (true≢false (sym (ap is_some stands.waits) ∙ sym tells ∙ gone))
  granted_by (was_ended stands) gone open_still = absurd (true≢false (sym stands.is_ended ∙ open_still))

  pub ended_by : Stands old id node → b ≡ false → node.ended ≡ true → StandsEnded old id node
  ended_by (was_granted stands) gone ended = absurd (true≢false (sym ended ∙ stands.not_ended))
  ended_by (waits stands) gone ended = absurd (true≢false (sym (ap is_some stands.waits) ∙ sym tells ∙ gone))
  ended_by (was_ended stands) gone ended = stands

  -- it is in the line no more
  pub detached_by : Stands old id node → b ≡ false → is_linked id old.list ≡ false
  detached_by (was_granted stands) gone = stands.not_linked
  detached_by (waits stands) gone = absurd (true≢false (sym (ap is_some stands.waits) ∙ sym tells ∙ gone))
  detached_by (was_ended stands) gone = stands.not_linked

-- what a row keeps once a request is out of it, and what that had
pub record TakenOut (old new : RowState) (after : CountsState) (id had : ℕ) : Type 0 where
  pub is_kept : IsKept new after
  pub ends : Ends id old had new

abbrev pub row_in : ℕ → WaitListState WaitNode → CountsState → RowState
row_in word list counts = record { word = word; list = list; wakes = counts.wakes.wakers }

ends-as : (id had : ℕ) (old : RowState) {new : RowState} {line : PartialLine} {found : Option (Entry ℕ)} → entry_named (is_slot id) (ended_of old.list) ≡ None
    → entry_named (is_slot id) (part old).granted ≡ found → EndsAs found id (part old) had line → Becomes new line (ended_of old.list) → Ends id old had new
ends-as id had old {new} {found = found} none same ends becomes =
    subst (λ e. EndsBy e id old had new) (sym none)
    (subst (λ f. EndsAs f id (part old) had (part new)) (sym same) (subst (λ p. EndsAs found id (part old) had p) (sym becomes.is) ends), becomes.ended)

module _ {word id : ℕ} {list new : WaitListState WaitNode} {before after : CountsState} {node : WaitNode} where
  pub waiting_out : IsKept (row_in word list before) before → waiter_at id list ≡ Some node → StandsWaiting (row_in word list before) id node → IsGone id list new
      → after ≡ record before { waiting = before.waiting - 1 } → TakenOut (row_in word list before) (row_in word new after) after id (node.size - node.needed)
  waiting_out was here stands gone same =
      let becomes = woken-as (ap (λ k. k.wakes.wakers) same) (left was.row here stands gone) in
      record {
        is_kept = kept becomes (ended-counts (counts was) here stands same);
        ends = ends-as id (node.size - node.needed) (row_in word list before) {found = None} stands.none_ended stands.not_granted (sym (linked-share list id here stands.linked stands.waits), refl) becomes;
      }

  pub granted_out : IsKept (row_in word list before) before → waiter_at id list ≡ Some node → StandsGranted (row_in word list before) id node
      → ChangesAt id list new → waiter_at id new ≡ None → new.linked ≡ list.linked → IsWaitList new
      → after ≡ record before { granted_sum = before.granted_sum - node.size } → TakenOut (row_in word list before) (row_in word new after) after id node.size
  granted_out was here stands change vacant links sound same =
      let becomes = woken-as (ap (λ k. k.wakes.wakers) same) (collected was.row here stands change vacant links sound) in
      record {
        is_kept = kept becomes (collected-counts (counts was) id node.size stands.granted same);
        ends = ends-as id node.size (row_in word list before) {found = Some (record { name = id; size = node.size })} stands.none_ended stands.granted (refl, refl) becomes;
      }

-- one that was ended had nothing
module _ {word id : ℕ} {list new : WaitListState WaitNode} {before : CountsState} {node : WaitNode} where
  pub ended_out : IsKept (row_in word list before) before → waiter_at id list ≡ Some node → StandsEnded (row_in word list before) id node
      → ChangesAt id list new → waiter_at id new ≡ None → new.linked ≡ list.linked → IsWaitList new
      → TakenOut (row_in word list before) (row_in word new before) before id 0
  ended_out was here stands change vacant links sound =
      let becomes = told was.row here stands change vacant links sound in
      record {
        is_kept = kept becomes (counts was);
        ends = subst (λ e. EndsBy e id (row_in word list before) 0 (row_in word new before)) (sym stands.ended) (refl, (becomes.is, becomes.ended));
      }
