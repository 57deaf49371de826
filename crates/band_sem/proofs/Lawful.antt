-- What is sound is lawful, and what is granted is what was asked for.
use Rattle.std.proofs.Common.{◌≡◌, ℕ, ◌<◌, ◌≤◌, ◌++◌, List, map, ap, sym, ◌∙◌, subst, Option, Some, None, Bool, true, false, cond, refl, arith}
use Rattle.std.specs.Prelude.{find, ◌==◌}
use Rattle.std.specs.List.{AllByRecursion}
use Rattle.std.specs.Option.{option_or}
use Rattle.std.proofs.lemmas.List.Folds.{find-append}
use Rattle.band_balance.specs.Line.{Entry, Line, entry_of, requests, entry_named}
use Rattle.band_balance.proofs.Rename.{all_of_both}
use Rattle.band_balance.proofs.Requests.{all-weaker}
use Rattle.band_line.specs.WaitList.{waiter_at, is_linked}
use Rattle.band_partial.specs.PartialLine.{Node, AreInOrder, StandsFor, HasNoShare, requests_of}
use Rattle.band_partial.proofs.Follows.{available-shown, head_waits-shown}
use Rattle.band_partial.proofs.Nodes.{by_nodes}
use Rattle.band_row.specs.Row.{RowState, IsRow, IsInPlace, granted_to, granted_of, ended_of_node, ended_of, size_by, linked_nodes, part}
use Rattle.band_row.specs.declared.wait_node.WaitNode.{WaitNode}
use Rattle.band_row.proofs.Granted.{IsNamed, each-named}
use Rattle.band_row.proofs.Linked.{linked-needs, asked-distinct}
use Rattle.band_row.proofs.Moving.{needs_some}
use Rattle.band_sem.specs.declared.store.Store.{Store}
use Rattle.band_sem.specs.Semaphore.{IsLawful, is_slot}
use Rattle.band_sem.specs.Kept.Store.{IsSound, line_in, state_of}
use Rattle.band_sem.specs.Shown.{ShowsLine, row_of}

abbrev Asks : List (Entry ℕ) → Type 0
Asks entries = AllByRecursion (λ (e : Entry ℕ). 0 < e.size) entries

-- who waits asks for something
no_share_asks : (nodes : List Node) → AllByRecursion HasNoShare nodes → Asks (map entry_of (requests_of nodes))
no_share_asks = by_nodes (λ nodes. AllByRecursion HasNoShare nodes → Asks (map entry_of (requests_of nodes))) (λ each. tt)
    (λ slot size needed rest before each. before each.1)
    (λ slot size needed waker rest before each. (each.0.1, before each.1))

waiting_asks : (nodes : List Node) → AreInOrder nodes → Asks (map entry_of (requests_of nodes))
waiting_asks = by_nodes (λ nodes. AreInOrder nodes → Asks (map entry_of (requests_of nodes))) (λ order. tt)
    (λ slot size needed rest before order. before order.1)
    (λ slot size needed waker rest before order. (some size needed order.0.0 order.0.1, no_share_asks rest order.1))
  where
    some : (size needed : ℕ) → 0 < needed → needed ≤ size → 0 < size
    some size needed more fits = omega arith

-- who was granted or ended asked for something
module _ (row : RowState) (sound : IsRow row) where
  granted_asks_at : (e : Entry ℕ) (found : Option WaitNode) → waiter_at e.name row.list ≡ found → size_by granted_to found ≡ Some e.size → 0 < e.size
  granted_asks_at e None here size = absurd (cc)
  granted_asks_at e (Some node) here size = by_link (is_linked e.name row.list) refl
    where
      needs_none : (b : Bool) → (node.needed == 0) ≡ b → cond b (Some node.size) None ≡ Some e.size → 0 < node.size → 0 < e.size
      needs_none true is same more = let sizes : node.size ≡ e.size = cc in subst (λ n. 0 < n) sizes more
      needs_none false is same more = absurd (cc)

      by_link : (b : Bool) → is_linked e.name row.list ≡ b → 0 < e.size
      by_link true linked =
          let none : granted_to node ≡ None = needs_some node (linked-needs row.list e.name here sound.in_order linked).0 in
          absurd (cc)
      by_link false out = needs_none (node.needed == 0) refl size (subst (λ b. IsInPlace b node) out (sound.each e.name node here)).some

  granted_asks : Asks (granted_of row.list)
  granted_asks =
      all-weaker (IsNamed granted_to 0 row.list.nodes.slots) (λ (e : Entry ℕ). 0 < e.size)
      (λ e named. granted_asks_at e (waiter_at e.name row.list) refl (named.size e.name (omega arith)))
      (granted_of row.list) (each-named granted_to 0 row.list.nodes.slots)

  ended_asks_at : (e : Entry ℕ) (found : Option WaitNode) → waiter_at e.name row.list ≡ found → size_by ended_of_node found ≡ Some e.size → 0 < e.size
  ended_asks_at e None here size = absurd (cc)
  ended_asks_at e (Some node) here size = by_end node.ended refl size
    where
      by_link : (b : Bool) → is_linked e.name row.list ≡ b → node.ended ≡ true → 0 < node.size
      by_link true linked is = let never : node.ended ≡ false = subst (λ b. IsInPlace b node) linked (sound.each e.name node here) in absurd (cc)
      by_link false out is = (subst (λ b. IsInPlace b node) out (sound.each e.name node here)).some

      by_end : (b : Bool) → node.ended ≡ b → cond b (Some node.size) None ≡ Some e.size → 0 < e.size
      by_end true is same = let sizes : node.size ≡ e.size = cc in subst (λ n. 0 < n) sizes (by_link (is_linked e.name row.list) refl is)
      by_end false is same = absurd (cc)

  ended_asks : Asks (ended_of row.list)
  ended_asks =
      all-weaker (IsNamed ended_of_node 0 row.list.nodes.slots) (λ (e : Entry ℕ). 0 < e.size)
      (λ e named. ended_asks_at e (waiter_at e.name row.list) refl (named.size e.name (omega arith)))
      (ended_of row.list) (each-named ended_of_node 0 row.list.nodes.slots)

  each_asks : Asks (ended_of row.list ++ (granted_of row.list ++ map entry_of (requests_of (linked_nodes row.list))))
  each_asks =
      all_of_both (λ (e : Entry ℕ). 0 < e.size) (ended_of row.list) (granted_of row.list ++ map entry_of (requests_of (linked_nodes row.list))) ended_asks
      (all_of_both (λ (e : Entry ℕ). 0 < e.size) (granted_of row.list) (map entry_of (requests_of (linked_nodes row.list)))
      granted_asks (waiting_asks (linked_nodes row.list) sound.in_order))

pub lawful_when_sound : (store : Store) → IsSound store → IsLawful (state_of store)
lawful_when_sound store h = record {
  one_each = asked-distinct store.row h.row;
  each_asks = each_asks store.row h.row;
  closing = h.closing;
  head_waits = head_waits-shown (part store.row) h.settled;
  in_hand = h.fit.in_hand;
  in_all = h.fit.in_all;
  owed = h.fit.owed;
}

-- the size of the entry, or 0
abbrev size_of : Option (Entry ℕ) → ℕ
size_of (Some e) = e.size
size_of None = 0

-- the size under which a request was granted is the one under which it is in the line
pub granted-size : (slot a b : ℕ) (line : Line ℕ) → entry_named (is_slot slot) line.granted ≡ Some (record { name = slot; size = a }) → entry_named (is_slot slot) (requests line) ≡ Some (record { name = slot; size = b }) → a ≡ b
granted-size slot a b line granted own =
    let p : Entry ℕ → Bool = λ e. is_slot slot e.name in
    let ws = map entry_of line.waiting in
    ap size_of (ap (λ o. option_or o (find p ws)) (sym granted) ∙ sym (find-append p line.granted ws) ∙ own)

-- the nodes show the line
pub shows_line : (store : Store) → IsSound store → ShowsLine (state_of store) store.row.list
shows_line store sound = record {
  stands = subst (λ (row : RowState). StandsFor (line_in store) (part row)) (sym same) (record { shown = refl; settled = sound.settled });
  debts = refl;
  row = subst IsRow (sym same) sound.row;
  ended = refl;
}
  where
    same : row_of (state_of store) store.row.list ≡ store.row
    same = λ i. record { word = available-shown (part store.row) sound.settled i; list = store.row.list; wakes = store.row.wakes }
