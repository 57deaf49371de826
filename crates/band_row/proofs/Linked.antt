-- The linked nodes, after each change of the list.
use Rattle.std.proofs.Common.{◌≡◌, ◌≢◌, refl, ℕ, ◌-◌, ◌<◌, ◌≤◌, List, [], ◌∷◌, ◌++◌, map, drop, slice_get, arith, ap, ap₂, sym, ◌∙◌, subst}
use Rattle.std.proofs.Common.{Option, Some, None, is_some, IsSome, Bool, true, false, not, cond, nat_eq, ◌⊎◌, inl, inr}
use Rattle.std.specs.Prelude.{◌==◌, ◌||◌, ◌&&◌, filter, find}
use Rattle.std.specs.List.{AllByRecursion, IsDistinct, list_any}
use Rattle.std.specs.Option.{option_map, option_map_or, option_or}
use Rattle.std.proofs.lemmas.Bool.Decides.{nat_tests}
use Rattle.std.proofs.lemmas.List.{map_push, map-append}
use Rattle.band_balance.specs.Line.{Entry, entry_of, entry_named, requests}
use Rattle.band_balance.proofs.Rename.{all_of_both}
use Rattle.band_balance.proofs.Requests.{all-weaker, entry_named-append}
use Rattle.band_base.specs.declared.waker.Waker.{Waker}
use Rattle.band_line.specs.Arena.{KeepsOthers, KeepsValues}
use Rattle.band_line.specs.WaitList.{WaitListState, IsWaitList, IsUnlinked, IsWritten, waiter_at, first_waiter, is_linked, detached}
use Rattle.band_partial.specs.PartialLine.{Node, NeedsSome, AreInOrder, request, debt, is_debt, share_of, requests_of, line_of}
use Rattle.band_partial.specs.Moves.{is_request, with_waker, without_node, share_under}
use Rattle.band_partial.proofs.Nodes.{by_nodes, have_nothing}
use Rattle.band_row.specs.Row.{RowState, IsRow, IsInPlace, IsAnswered, NeedsAs, HasRequest, asked, is_slot, node_of, node_at, linked_nodes, granted_of, ended_of, granted_to, ended_of_node, size_by, part}
use Rattle.band_row.specs.declared.wait_node.WaitNode.{WaitNode}
use Rattle.band_row.proofs.Granted.{size_at, entry_at, entries-found, IsNamed, each-named, entries-distinct}

-- Slots, of which each stands once.
abbrev is_in : ℕ → List ℕ → Bool
is_in slot slots = list_any (λ other. other == slot) slots

abbrev IsOff : ℕ → List ℕ → Type 0
IsOff slot slots = AllByRecursion (λ other. nat_eq slot other ≡ false) slots

in_front : (slot : ℕ) (slots : List ℕ) → is_in slot (slot ∷ slots) ≡ true
in_front slot slots = grind (arith, nat_tests)

in_rest : (slot first : ℕ) (slots : List ℕ) → is_in slot slots ≡ true → is_in slot (first ∷ slots) ≡ true
in_rest slot first slots within = by_test (first == slot) within
  where
    by_test : (b : Bool) → is_in slot slots ≡ true → (b || is_in slot slots) ≡ true
    by_test true e = refl
    by_test false e = e

is_off : (slot : ℕ) (slots : List ℕ) → is_in slot slots ≡ false → IsOff slot slots
is_off slot [] out = tt
is_off slot (x ∷ xs) out = by_test (x == slot) refl out (is_off slot xs)
  where
    by_test : (b : Bool) → (x == slot) ≡ b → (b || is_in slot xs) ≡ false → (is_in slot xs ≡ false → IsOff slot xs) → IsOff slot (x ∷ xs)
    by_test true e it rest = absurd (cc)
    by_test false e it rest = (grind (arith, nat_tests), rest it)

-- two maps that agree on the slots of a list
map_same : (f g : ℕ → Node) (slots : List ℕ) → ((slot : ℕ) → is_in slot slots ≡ true → g slot ≡ f slot) → map g slots ≡ map f slots
map_same f g [] same = refl
map_same f g (x ∷ xs) same =
    ap (λ node. node ∷ map g xs) (same x (in_front x xs))
    ∙ ap (λ nodes. f x ∷ nodes) (map_same f g xs (λ slot within. same slot (in_rest slot x xs within)))

-- the node of each slot bears its name, and only one of them changes
record OneChanges (slot : ℕ) (f g : ℕ → Node) : Type 0 where
  named : (other : ℕ) → (f other).slot ≡ other
  others : (other : ℕ) → other ≢ slot → g other ≡ f other

module _ {slot : ℕ} {f g : ℕ → Node} (change : OneChanges slot f g) where
  map_off : (slots : List ℕ) → IsOff slot slots → map g slots ≡ map f slots
  map_off [] off = refl
  map_off (x ∷ xs) off =
      let apart = off.0 in
      let differs : x ≢ slot = grind (arith, nat_tests) in
      ap (λ node. node ∷ map g xs) (change.others x differs) ∙ ap (λ nodes. f x ∷ nodes) (map_off xs off.1)

  first_changes : (slots : List ℕ) → IsDistinct nat_eq slots → slice_get slots 0 ≡ Some slot → map g slots ≡ g slot ∷ map f (drop 1 slots)
  unfolding IsDistinct
  first_changes [] once first = absurd (cc)
  first_changes (x ∷ xs) once first =
      let same : x ≡ slot = cc in
      ap (λ node. node ∷ map g xs) (ap g same) ∙ ap (λ nodes. g slot ∷ nodes) (map_off xs (subst (λ k. IsOff k xs) same once.0))

  -- a slot is meant or it is not
  meant : (other : ℕ) → other ≡ slot → is_debt (f slot) ≡ false → is_request (is_slot slot) (f other) ≡ true
  meant other same asks =
      subst (λ k. is_request (is_slot slot) (f k) ≡ true) (sym same)
      (let name = change.named slot in let here : (slot == (f slot).slot) ≡ true = grind (arith, nat_tests) in rw (asks, here) refl)

  not_meant : (other : ℕ) → other ≢ slot → is_request (is_slot slot) (f other) ≡ false
  not_meant other differs =
      let name = change.named other in
      let elsewhere : (slot == (f other).slot) ≡ false = grind (arith, nat_tests) in
      rw elsewhere (neither (not (is_debt (f other))))
    where
      neither : (b : Bool) → (b && false) ≡ false
      neither true = refl
      neither false = refl

  new_waker : (waker : ℕ) → is_debt (f slot) ≡ false → g slot ≡ record (f slot) { waker = Some waker }
      → (slots : List ℕ) → IsDistinct nat_eq slots → map g slots ≡ with_waker (is_slot slot) waker (map f slots)
  unfolding IsDistinct
  new_waker waker asks left [] once = refl
  new_waker waker asks left (x ∷ xs) once = by_test (x == slot) refl (new_waker waker asks left xs once.1)
    where
      by_test : (b : Bool) → (x == slot) ≡ b → map g xs ≡ with_waker (is_slot slot) waker (map f xs)
          → map g (x ∷ xs) ≡ with_waker (is_slot slot) waker (map f (x ∷ xs))
      by_test true e rest =
          let same : x ≡ slot = grind (arith, nat_tests) in
          rw (meant x same asks)
          (ap (λ node. node ∷ map g xs) (ap g same ∙ left ∙ ap (λ k. record (f k) { waker = Some waker }) (sym same))
          ∙ ap (λ nodes. record (f x) { waker = Some waker } ∷ nodes) (map_off xs (subst (λ k. IsOff k xs) same once.0)))
      by_test false e rest =
          let differs : x ≢ slot = grind (arith, nat_tests) in
          rw (not_meant x differs) (ap (λ node. node ∷ map g xs) (change.others x differs) ∙ ap (λ nodes. f x ∷ nodes) rest)

  off_stays : (slots : List ℕ) → IsOff slot slots → filter (λ other. not (other == slot)) slots ≡ slots
  off_stays [] off = refl
  off_stays (x ∷ xs) off =
      let apart = off.0 in
      let passes : not (x == slot) ≡ true = grind (arith, nat_tests) in
      rw passes (ap (λ ys. x ∷ ys) (off_stays xs off.1))

  one_leaves : is_debt (f slot) ≡ false → (slots : List ℕ) → IsDistinct nat_eq slots
      → map g (filter (λ other. not (other == slot)) slots) ≡ without_node (is_slot slot) (map f slots)
  unfolding IsDistinct
  one_leaves asks [] once = refl
  one_leaves asks (x ∷ xs) once = by_test (x == slot) refl (one_leaves asks xs once.1)
    where
      by_test : (b : Bool) → (x == slot) ≡ b → map g (filter (λ other. not (other == slot)) xs) ≡ without_node (is_slot slot) (map f xs)
          → map g (filter (λ other. not (other == slot)) (x ∷ xs)) ≡ without_node (is_slot slot) (map f (x ∷ xs))
      by_test true e rest =
          let same : x ≡ slot = grind (arith, nat_tests) in
          let off : IsOff slot xs = subst (λ k. IsOff k xs) same once.0 in
          rw (meant x same asks, ap not e) (ap (map g) (off_stays xs off) ∙ map_off xs off)
      by_test false e rest =
          let differs : x ≢ slot = grind (arith, nat_tests) in
          rw (not_meant x differs, ap not e) (ap (λ node. node ∷ map g (filter (λ other. not (other == slot)) xs)) (change.others x differs) ∙ ap (λ nodes. f x ∷ nodes) rest)

  found_in : is_debt (f slot) ≡ false → (slots : List ℕ) → is_in slot slots ≡ true → find (is_request (is_slot slot)) (map f slots) ≡ Some (f slot)
  found_in asks [] within = absurd (cc)
  found_in asks (x ∷ xs) within = by_test (x == slot) refl within (found_in asks xs)
    where
      by_test : (b : Bool) → (x == slot) ≡ b → (b || is_in slot xs) ≡ true → (is_in slot xs ≡ true → find (is_request (is_slot slot)) (map f xs) ≡ Some (f slot))
          → find (is_request (is_slot slot)) (map f (x ∷ xs)) ≡ Some (f slot)
      by_test true e it rest = let same : x ≡ slot = grind (arith, nat_tests) in rw (meant x same asks) (ap (λ k. Some (f k)) same)
      by_test false e it rest = let differs : x ≢ slot = grind (arith, nat_tests) in rw (not_meant x differs) (rest it)

  found_debt : is_debt (f slot) ≡ true → (slots : List ℕ) → find (is_request (is_slot slot)) (map f slots) ≡ None
  found_debt owed [] = refl
  found_debt owed (x ∷ xs) = by_test (x == slot) refl (found_debt owed xs)
    where
      by_test : (b : Bool) → (x == slot) ≡ b → find (is_request (is_slot slot)) (map f xs) ≡ None → find (is_request (is_slot slot)) (map f (x ∷ xs)) ≡ None
      by_test true e rest = let same : x ≡ slot = grind (arith, nat_tests) in let still_owed : is_debt (f x) ≡ true = ap (λ k. is_debt (f k)) same ∙ owed in rw still_owed rest
      by_test false e rest = let differs : x ≢ slot = grind (arith, nat_tests) in rw (not_meant x differs) rest

  found_out : (slots : List ℕ) → is_in slot slots ≡ false → find (is_request (is_slot slot)) (map f slots) ≡ None
  found_out [] out = refl
  found_out (x ∷ xs) out = by_test (x == slot) refl out (found_out xs)
    where
      by_test : (b : Bool) → (x == slot) ≡ b → (b || is_in slot xs) ≡ false → (is_in slot xs ≡ false → find (is_request (is_slot slot)) (map f xs) ≡ None)
          → find (is_request (is_slot slot)) (map f (x ∷ xs)) ≡ None
      by_test true e it rest = absurd (cc)
      by_test false e it rest = let differs : x ≢ slot = grind (arith, nat_tests) in rw (not_meant x differs) (rest it)

-- what a slot of a list stands for
module _ (list : WaitListState WaitNode) (slot : ℕ) where
  node_at-is : {node : WaitNode} → waiter_at slot list ≡ Some node → node_at list slot ≡ node_of slot node
  node_at-is here = ap (λ found. option_map_or (node_of slot) found (debt slot 0 0)) here

  node_at-named : (node_at list slot).slot ≡ slot
  node_at-named = by_found (waiter_at slot list)
    where
      by_found : (found : Option WaitNode) → (option_map_or (node_of slot) found (debt slot 0 0)).slot ≡ slot
      by_found None = refl
      by_found (Some node) = refl

  node_at-asks : {node : WaitNode} {waker : Waker} → waiter_at slot list ≡ Some node → node.waker ≡ Some waker → is_debt (node_at list slot) ≡ false
  node_at-asks here waits = rw (node_at-is here) (rw waits refl)

module _ (old new : WaitListState WaitNode) where
  node_at-same : (slot : ℕ) → waiter_at slot new ≡ waiter_at slot old → node_at new slot ≡ node_at old slot
  node_at-same slot same = ap (λ found. option_map_or (node_of slot) found (debt slot 0 0)) same

  one_changes : (slot : ℕ) → KeepsOthers slot old.nodes new.nodes → OneChanges slot (node_at old) (node_at new)
  one_changes slot others = record { named = node_at-named old; others = λ other differs. node_at-same other (others other differs) }

  -- the same slots are linked, and have what they had
  pub linked-kept : new.linked ≡ old.linked → ((id : ℕ) → is_linked id old ≡ true → waiter_at id new ≡ waiter_at id old) → linked_nodes new ≡ linked_nodes old
  linked-kept is kept = ap (map (node_at new)) is ∙ map_same (node_at old) (node_at new) old.linked (λ id linked. node_at-same id (kept id linked))

  still : IsWaitList old → KeepsValues old.nodes new.nodes → map (node_at new) old.linked ≡ linked_nodes old
  still sound keeps = map_same (node_at old) (node_at new) old.linked (λ id linked. node_at-same id (keeps id (sound.here id linked)))

  -- one more is linked, behind all or in front of all
  pub linked-back : (id : ℕ) {node : WaitNode} → IsWaitList old → KeepsValues old.nodes new.nodes → new.linked ≡ old.linked ++ id ∷ [] → waiter_at id new ≡ Some node
      → linked_nodes new ≡ linked_nodes old ++ node_of id node ∷ []
  linked-back id {node} sound keeps is here =
      ap (map (node_at new)) is ∙ map_push (node_at new) old.linked id
      ∙ ap (λ last. map (node_at new) old.linked ++ last ∷ []) (node_at-is new id here)
      ∙ ap (λ nodes. nodes ++ node_of id node ∷ []) (still sound keeps)

  pub linked-front : (id : ℕ) {node : WaitNode} → IsWaitList old → KeepsValues old.nodes new.nodes → new.linked ≡ id ∷ old.linked → waiter_at id new ≡ Some node
      → linked_nodes new ≡ node_of id node ∷ linked_nodes old
  linked-front id {node} sound keeps is here =
      ap (map (node_at new)) is ∙ ap (λ first. first ∷ map (node_at new) old.linked) (node_at-is new id here)
      ∙ ap (λ nodes. node_of id node ∷ nodes) (still sound keeps)

-- the node in front, and those behind it
pub linked-first : (list : WaitListState WaitNode) (id : ℕ) {node : WaitNode} → first_waiter list ≡ Some id → waiter_at id list ≡ Some node
    → linked_nodes list ≡ node_of id node ∷ map (node_at list) (drop 1 list.linked)
linked-first list id {node} first here = at list.linked first
  where
    at : (slots : List ℕ) → slice_get slots 0 ≡ Some id → map (node_at list) slots ≡ node_of id node ∷ map (node_at list) (drop 1 slots)
    at [] e = absurd (cc)
    at (x ∷ xs) e = let same : x ≡ id = cc in ap (λ first. first ∷ map (node_at list) xs) (ap (node_at list) same ∙ node_at-is list id here)

module _ (old new : WaitListState WaitNode) (id : ℕ) {node : WaitNode} (sound : IsWaitList old) (here : waiter_at id old ≡ Some node) where
  -- it leaves the line
  pub linked-served : {last : WaitNode} → first_waiter old ≡ Some id → IsUnlinked id last old new → linked_nodes old ≡ node_of id node ∷ linked_nodes new
  unfolding IsDistinct
  linked-served first left =
      linked-first old id first here
      ∙ ap (λ nodes. node_of id node ∷ nodes) (sym (ap (map (node_at new)) (left.first first) ∙ same_behind))
    where
      behind_off : (slots : List ℕ) → IsDistinct nat_eq slots → slice_get slots 0 ≡ Some id → IsOff id (drop 1 slots)
      behind_off [] once e = absurd (cc)
      behind_off (x ∷ xs) once e = let same : x ≡ id = cc in subst (λ k. IsOff k xs) same once.0

      same_behind : map (node_at new) (drop 1 old.linked) ≡ map (node_at old) (drop 1 old.linked)
      same_behind = map_off (one_changes old new id left.others) (drop 1 old.linked) (behind_off old.linked sound.once first)

  -- it has another value, and stays
  pub linked-given : {last : WaitNode} → first_waiter old ≡ Some id → IsWritten id last old new
      → linked_nodes new ≡ node_of id last ∷ map (node_at old) (drop 1 old.linked)
  linked-given first written =
      ap (map (node_at new)) written.linked ∙ first_changes (one_changes old new id written.others) old.linked sound.once first
      ∙ ap (λ node. node ∷ map (node_at old) (drop 1 old.linked)) (node_at-is new id written.value)

  -- a request leaves a new waker
  pub linked-waker : {before waker : Waker} → node.waker ≡ Some before → IsWritten id (record node { waker = Some waker }) old new
      → linked_nodes new ≡ with_waker (is_slot id) waker.0 (linked_nodes old)
  linked-waker {before} {waker} waits written =
      ap (map (node_at new)) written.linked
      ∙ new_waker (one_changes old new id written.others) waker.0 (node_at-asks old id here waits)
      (node_at-is new id written.value ∙ ap (λ (found : Node). record found { waker = Some waker.0 }) (sym (node_at-is old id here)))
      old.linked sound.once

  -- a request is gone
  pub linked-gone : {waker : Waker} → node.waker ≡ Some waker → new.linked ≡ (detached id old).linked → KeepsOthers id old.nodes new.nodes
      → linked_nodes new ≡ without_node (is_slot id) (linked_nodes old)
  linked-gone waits is others =
      ap (map (node_at new)) is ∙ one_leaves (one_changes old new id others) (node_at-asks old id here waits) old.linked sound.once

-- nothing changes
itself : (list : WaitListState WaitNode) (id : ℕ) → OneChanges id (node_at list) (node_at list)
itself list id = record { named = node_at-named list; others = λ other differs. refl }

-- each node that is linked needs some of what it asks for
needs_some : (nodes : List Node) → AreInOrder nodes → AllByRecursion NeedsSome nodes
needs_some = by_nodes (λ nodes. AreInOrder nodes → AllByRecursion NeedsSome nodes) (λ order. tt)
    (λ slot size needed rest before order. (order.0, before order.1))
    (λ slot size needed waker rest before order. (order.0, before (have_nothing rest order.1).in_order))

all_at : (P : Node → Type 0) (f : ℕ → Node) (slots : List ℕ) → AllByRecursion P (map f slots) → (slot : ℕ) → is_in slot slots ≡ true → P (f slot)
all_at P f [] each slot within = absurd (cc)
all_at P f (x ∷ xs) each slot within = by_test (x == slot) refl within (all_at P f xs each.1 slot)
  where
    by_test : (b : Bool) → (x == slot) ≡ b → (b || is_in slot xs) ≡ true → (is_in slot xs ≡ true → P (f slot)) → P (f slot)
    by_test true e it rest = let same : x ≡ slot = grind (arith, nat_tests) in subst (λ k. P (f k)) same each.0
    by_test false e it rest = rest it

module _ (list : WaitListState WaitNode) (id : ℕ) {node : WaitNode} (here : waiter_at id list ≡ Some node) where
  pub linked-needs : AreInOrder (linked_nodes list) → is_linked id list ≡ true → (0 < node.needed) × (node.needed ≤ node.size)
  linked-needs order linked =
      let both : NeedsSome (node_at list id) = all_at NeedsSome (node_at list) list.linked (needs_some (linked_nodes list) order) id linked in
      subst NeedsSome (node_at-is list id here) both

  -- a request that waits is found, and has its share
  pub linked-request : {waker : Waker} → is_linked id list ≡ true → node.waker ≡ Some waker → find (is_request (is_slot id)) (linked_nodes list) ≡ Some (node_of id node)
  linked-request linked waits = found_in (itself list id) (node_at-asks list id here waits) list.linked linked ∙ ap Some (node_at-is list id here)

  pub linked-share : {waker : Waker} → is_linked id list ≡ true → node.waker ≡ Some waker → share_under (is_slot id) (linked_nodes list) ≡ node.size - node.needed
  linked-share linked waits = ap (λ found. option_map_or share_of found 0) (linked-request linked waits) ∙ shows
    where
      shows : share_of (node_of id node) ≡ node.size - node.needed
      shows = rw waits refl

  granted_at : entry_named (is_slot id) (granted_of list) ≡ option_map (entry_at id) (granted_to node)
  granted_at = entries-found granted_to id list.nodes.slots ∙ ap (λ found. option_map (entry_at id) (size_by granted_to found)) here

  pub granted_none : 0 < node.needed → entry_named (is_slot id) (granted_of list) ≡ None
  granted_none some =
      let more : (node.needed == 0) ≡ false = grind (arith, nat_tests) in
      granted_at ∙ ap (λ b. option_map (entry_at id) (cond b (Some node.size) None)) more

  pub granted_some : node.needed ≡ 0 → entry_named (is_slot id) (granted_of list) ≡ Some (entry_at id node.size)
  granted_some none = granted_at ∙ ap (λ needed. option_map (entry_at id) (cond (needed == 0) (Some node.size) None)) none

  ended_as : {b : Bool} → node.ended ≡ b → entry_named (is_slot id) (ended_of list) ≡ option_map (entry_at id) (cond b (Some node.size) None)
  ended_as is =
      entries-found ended_of_node id list.nodes.slots ∙ ap (λ found. option_map (entry_at id) (size_by ended_of_node found)) here
      ∙ ap (λ b. option_map (entry_at id) (cond b (Some node.size) None)) is

-- Who is found among the requests.
abbrev entry_for : Node → Entry ℕ
entry_for node = entry_at node.slot node.size

waiting_found : (is : ℕ → Bool) (nodes : List Node) → entry_named is (map entry_of (requests_of nodes)) ≡ option_map entry_for (find (is_request is) nodes)
waiting_found is = by_nodes (λ nodes. entry_named is (map entry_of (requests_of nodes)) ≡ option_map entry_for (find (is_request is) nodes)) refl
    (λ slot size needed rest before. before)
    (λ slot size needed waker rest before. by_test slot size needed waker rest before (is slot))
  where
    by_test : (slot size needed waker : ℕ) (rest : List Node) → entry_named is (map entry_of (requests_of rest)) ≡ option_map entry_for (find (is_request is) rest) → (b : Bool)
        → cond b (Some (entry_at slot size)) (entry_named is (map entry_of (requests_of rest))) ≡ option_map entry_for (cond b (Some (request slot size needed waker)) (find (is_request is) rest))
    by_test slot size needed waker rest before true = refl
    by_test slot size needed waker rest before false = before

requests_found : (row : RowState) (id : ℕ) → entry_named (is_slot id) (requests (line_of (part row)))
    ≡ option_or (entry_named (is_slot id) (granted_of row.list)) (option_map entry_for (find (is_request (is_slot id)) (linked_nodes row.list)))
requests_found row id =
    entry_named-append (is_slot id) (granted_of row.list) (map entry_of (requests_of (linked_nodes row.list)))
    ∙ ap (option_or (entry_named (is_slot id) (granted_of row.list))) (waiting_found (is_slot id) (linked_nodes row.list))

nobody_found : (row : RowState) (id : ℕ) → entry_named (is_slot id) (granted_of row.list) ≡ None → find (is_request (is_slot id)) (linked_nodes row.list) ≡ None
    → entry_named (is_slot id) (requests (line_of (part row))) ≡ None
nobody_found row id none nobody = requests_found row id ∙ ap₂ (λ found waits. option_or found (option_map entry_for waits)) none nobody

asked_found : (row : RowState) (id : ℕ) → entry_named (is_slot id) (asked row)
    ≡ option_or (entry_named (is_slot id) (ended_of row.list)) (entry_named (is_slot id) (requests (line_of (part row))))
asked_found row id = entry_named-append (is_slot id) (ended_of row.list) (requests (line_of (part row)))

-- a request that was granted
pub record StandsGranted (row : RowState) (id : ℕ) (node : WaitNode) : Type 0 where
  pub none_needed : node.needed ≡ 0
  pub no_waker : node.waker ≡ None
  pub not_ended : node.ended ≡ false
  pub not_linked : is_linked id row.list ≡ false
  pub granted : entry_named (is_slot id) (granted_of row.list) ≡ Some (entry_at id node.size)
  pub none_ended : entry_named (is_slot id) (ended_of row.list) ≡ None

-- a request that waits
pub record StandsWaiting (row : RowState) (id : ℕ) (node : WaitNode) : Type 0 where
  pub waker : Waker
  pub waits : node.waker ≡ Some waker
  pub not_ended : node.ended ≡ false
  pub some : 0 < node.needed
  pub fits : node.needed ≤ node.size
  pub linked : is_linked id row.list ≡ true
  pub not_granted : entry_named (is_slot id) (granted_of row.list) ≡ None
  pub none_ended : entry_named (is_slot id) (ended_of row.list) ≡ None

-- a request that was ended
pub record StandsEnded (row : RowState) (id : ℕ) (node : WaitNode) : Type 0 where
  pub no_waker : node.waker ≡ None
  pub is_ended : node.ended ≡ true
  pub some : 0 < node.needed
  pub not_linked : is_linked id row.list ≡ false
  pub ended : entry_named (is_slot id) (ended_of row.list) ≡ Some (entry_at id node.size)

-- one of the three
pub data Stands (row : RowState) (id : ℕ) (node : WaitNode) : Type 0 where
  was_granted : StandsGranted row id node → Stands row id node
  waits : StandsWaiting row id node → Stands row id node
  was_ended : StandsEnded row id node → Stands row id node

module _ (row : RowState) (sound : IsRow row) (id : ℕ) where
  module _ {node : WaitNode} (here : waiter_at id row.list ≡ Some node) where
    in_place : {b : Bool} → is_linked id row.list ≡ b → IsInPlace b node
    in_place is = subst (λ b. IsInPlace b node) is (sound.each id node here)

    detached_stands : is_linked id row.list ≡ false → Stands row id node
    detached_stands out = by_flag node.ended refl (in_place out).needs
      where
        by_flag : (b : Bool) → node.ended ≡ b → NeedsAs b node.needed → Stands row id node
        by_flag true ended needs = was_ended (record {
          no_waker = (in_place out).no_waker;
          is_ended = ended;
          some = needs;
          not_linked = out;
          ended = ended_as row.list id here ended;
        })
        by_flag false open_still none = was_granted (record {
          none_needed = none;
          no_waker = (in_place out).no_waker;
          not_ended = open_still;
          not_linked = out;
          granted = granted_some row.list id here none;
          none_ended = ended_as row.list id here open_still;
        })

    linked_stands : HasRequest id row → is_linked id row.list ≡ true → StandsWaiting row id node
    linked_stands asks linked = by_waker node.waker refl
      where
        needs : (0 < node.needed) × (node.needed ≤ node.size)
        needs = linked-needs row.list id here sound.in_order linked

        none : entry_named (is_slot id) (granted_of row.list) ≡ None
        none = granted_none row.list id here needs.0

        none_ended : entry_named (is_slot id) (ended_of row.list) ≡ None
        none_ended = ended_as row.list id here (in_place linked)

        by_waker : (waker : Option Waker) → node.waker ≡ waker → StandsWaiting row id node
        by_waker (Some waker) calls = record {
          waker = waker;
          waits = calls;
          not_ended = in_place linked;
          some = needs.0;
          fits = needs.1;
          linked = linked;
          not_granted = none;
          none_ended = none_ended;
        }
        by_waker None owed =
            let debt_here : is_debt (node_at row.list id) ≡ true = rw (node_at-is row.list id here) (rw owed refl) in
            let nobody = nobody_found row id none (found_debt (itself row.list id) debt_here row.list.linked) in
            let never : true ≡ false = sym asks ∙ ap is_some (asked_found row id ∙ ap₂ (λ (x y : Option (Entry ℕ)). option_or x y) none_ended nobody) in
            absurd (cc)

    -- a request that has this slot was granted, waits or was ended
    pub request-stands : HasRequest id row → Stands row id node
    request-stands asks = by_link (is_linked id row.list) refl
      where
        by_link : (b : Bool) → is_linked id row.list ≡ b → Stands row id node
        by_link true linked = waits (linked_stands asks linked)
        by_link false out = detached_stands out

  -- nothing has the slot, so no request has it
  pub request-none : waiter_at id row.list ≡ None → entry_named (is_slot id) (asked row) ≡ None
  request-none vacant =
      asked_found row id
      ∙ ap₂ (λ (x y : Option (Entry ℕ)). option_or x y)
      (entries-found ended_of_node id row.list.nodes.slots ∙ ap (λ found. option_map (entry_at id) (size_by ended_of_node found)) vacant)
      (nobody_found row id
      (entries-found granted_to id row.list.nodes.slots ∙ ap (λ found. option_map (entry_at id) (size_by granted_to found)) vacant)
      (found_out (itself row.list id) row.list.linked (by_link (is_linked id row.list) refl)))
    where
      by_link : (b : Bool) → is_linked id row.list ≡ b → b ≡ false
      by_link false out = refl
      by_link true linked = let never : true ≡ false = sym (sound.list.here id linked) ∙ ap is_some vacant in cc

  -- what has the slot of a request
  pub request-here : HasRequest id row → IsSome (waiter_at id row.list)
  request-here asks = by_found (waiter_at id row.list) refl
    where
      by_found : (found : Option WaitNode) → waiter_at id row.list ≡ found → is_some found ≡ true
      by_found (Some node) here = refl
      by_found None vacant = let never : true ≡ false = sym asks ∙ ap is_some (request-none vacant) in cc

-- The names of the requests.
abbrev names_waiting : (ℕ → Node) → List ℕ → List ℕ
names_waiting f slots = map (λ e. e.name) (map entry_of (requests_of (map f slots)))

module _ (f : ℕ → Node) (named : (slot : ℕ) → (f slot).slot ≡ slot) where
  each_waiting : (P : ℕ → Type 0) (slots : List ℕ) → AllByRecursion P slots → AllByRecursion P (names_waiting f slots)
  each_waiting P [] each = tt
  each_waiting P (x ∷ xs) each = by_waker (f x).waker (each_waiting P xs each.1)
    where
      by_waker : (waker : Option ℕ) → AllByRecursion P (names_waiting f xs) → AllByRecursion P (map (λ e. e.name) (map entry_of (requests_of (record (f x) { waker = waker } ∷ map f xs))))
      by_waker None rest = rest
      by_waker (Some waker) rest = (subst P (sym (named x)) each.0, rest)

  once_waiting : (slots : List ℕ) → IsDistinct nat_eq slots → IsDistinct nat_eq (names_waiting f slots)
  unfolding IsDistinct
  once_waiting [] once = tt
  once_waiting (x ∷ xs) once = by_waker (f x).waker (once_waiting xs once.1)
    where
      by_waker : (waker : Option ℕ) → IsDistinct nat_eq (names_waiting f xs) → IsDistinct nat_eq (map (λ e. e.name) (map entry_of (requests_of (record (f x) { waker = waker } ∷ map f xs))))
      by_waker None rest = rest
      by_waker (Some waker) rest = (subst (λ k. IsOff k (names_waiting f xs)) (sym (named x)) (each_waiting (λ y. nat_eq x y ≡ false) xs once.0), rest)

once_both : (entries : List (Entry ℕ)) (names : List ℕ) → IsDistinct nat_eq (map (λ e. e.name) entries) → IsDistinct nat_eq names → AllByRecursion (λ e. IsOff e.name names) entries
    → IsDistinct nat_eq (map (λ e. e.name) entries ++ names)
unfolding IsDistinct
once_both [] names first second apart = second
once_both (e ∷ es) names first second apart =
    (all_of_both (λ y. nat_eq e.name y ≡ false) (map (λ e. e.name) es) names first.0 apart.0, once_both es names first.1 second apart.1)

-- An entry and what is at its slot.
module _ (row : RowState) (sound : IsRow row) where
  -- what is at a slot that has a size
  at_slot : (of : WaitNode → Option ℕ) (P : Type 0) (e : Entry ℕ) → IsNamed of 0 row.list.nodes.slots e
      → ((node : WaitNode) → waiter_at e.name row.list ≡ Some node → of node ≡ Some e.size → P) → P
  at_slot of P e was then = by_found (waiter_at e.name row.list) refl
    where
      size : size_at of e.name row.list.nodes.slots ≡ Some e.size
      size = was.size e.name (omega arith)

      by_found : (found : Option WaitNode) → waiter_at e.name row.list ≡ found → P
      by_found None vacant = let never : None ≡ Some e.size = sym (ap (size_by of) vacant) ∙ size in absurd (cc)
      by_found (Some node) here = then node here (sym (ap (size_by of) here) ∙ size)

  off_linked : (of : WaitNode → Option ℕ) → ((node : WaitNode) (size : ℕ) → of node ≡ Some size → 0 < node.needed → node.ended ≡ false → ⊥)
      → (e : Entry ℕ) → IsNamed of 0 row.list.nodes.slots e → IsOff e.name (names_waiting (node_at row.list) row.list.linked)
  off_linked of differs e was =
      each_waiting (node_at row.list) (node_at-named row.list) (λ y. nat_eq e.name y ≡ false) row.list.linked
      (is_off e.name row.list.linked (by_link (is_linked e.name row.list) refl))
    where
      by_link : (b : Bool) → is_linked e.name row.list ≡ b → b ≡ false
      by_link false out = refl
      by_link true linked =
          at_slot of (true ≡ false) e was
          (λ node here size.
          absurd (differs node e.size size (linked-needs row.list e.name here sound.in_order linked).0 (subst (λ b. IsInPlace b node) linked (sound.each e.name node here))))

  granted_needs_none : (node : WaitNode) (size : ℕ) → granted_to node ≡ Some size → 0 < node.needed → ⊥
  granted_needs_none node size is some =
      let more : (node.needed == 0) ≡ false = grind (arith, nat_tests) in
      let never : None ≡ Some size = sym (ap (λ b. cond b (Some node.size) None) more) ∙ is in
      absurd (cc)

  is_ended : (node : WaitNode) (size : ℕ) → ended_of_node node ≡ Some size → node.ended ≡ false → ⊥
  is_ended node size is open_still = let never : None ≡ Some size = sym (ap (λ b. cond b (Some node.size) None) open_still) ∙ is in absurd (cc)

  -- one that was ended was not granted
  ended_needs : (node : WaitNode) (slot size : ℕ) → waiter_at slot row.list ≡ Some node → ended_of_node node ≡ Some size → 0 < node.needed
  ended_needs node slot size here is = by_link (is_linked slot row.list) (sound.each slot node here)
    where
      by_flag : (b : Bool) → node.ended ≡ b → NeedsAs b node.needed → 0 < node.needed
      by_flag true ended some = some
      by_flag false open_still none = absurd (is_ended node size is open_still)

      by_link : (b : Bool) → IsInPlace b node → 0 < node.needed
      by_link true open_still = absurd (is_ended node size is open_still)
      by_link false answered = by_flag node.ended refl answered.needs

  off_granted : (e : Entry ℕ) → IsNamed ended_of_node 0 row.list.nodes.slots e → (entries : List (Entry ℕ)) → AllByRecursion (IsNamed granted_to 0 row.list.nodes.slots) entries
      → IsOff e.name (map (λ e. e.name) entries)
  off_granted e was [] each = tt
  off_granted e was (x ∷ xs) each = (by_test (nat_eq e.name x.name) refl, off_granted e was xs each.1)
    where
      by_test : (b : Bool) → nat_eq e.name x.name ≡ b → b ≡ false
      by_test false differs = refl
      by_test true e_same =
          let same : e.name ≡ x.name = grind (arith, nat_tests) in
          at_slot ended_of_node (true ≡ false) e was
          (λ node here size.
          at_slot granted_to (true ≡ false) x each.0
          (λ other there granted.
          let is : node ≡ other = (let both : Some node ≡ Some other = sym here ∙ ap (λ s. waiter_at s row.list) same ∙ there in cc) in
          absurd (granted_needs_none other x.size granted (subst (λ (n : WaitNode). 0 < n.needed) is (ended_needs node e.name e.size here size)))))

  pub requests-distinct : IsDistinct nat_eq (map (λ e. e.name) (requests (line_of (part row))))
  requests-distinct =
      subst (IsDistinct nat_eq) (sym (map-append (λ e. e.name) (granted_of row.list) (map entry_of (requests_of (linked_nodes row.list)))))
      (once_both (granted_of row.list) (names_waiting (node_at row.list) row.list.linked)
      (entries-distinct granted_to 0 row.list.nodes.slots)
      (once_waiting (node_at row.list) (node_at-named row.list) row.list.linked sound.list.once)
      (all-weaker (IsNamed granted_to 0 row.list.nodes.slots) (λ e. IsOff e.name (names_waiting (node_at row.list) row.list.linked))
      (off_linked granted_to (λ node size is some open_still. granted_needs_none node size is some)) (granted_of row.list) (each-named granted_to 0 row.list.nodes.slots)))

  -- each slot is one request's
  pub asked-distinct : IsDistinct nat_eq (map (λ e. e.name) (asked row))
  asked-distinct =
      subst (IsDistinct nat_eq) (sym (map-append (λ e. e.name) (ended_of row.list) (requests (line_of (part row)))))
      (once_both (ended_of row.list) (map (λ e. e.name) (requests (line_of (part row))))
      (entries-distinct ended_of_node 0 row.list.nodes.slots) requests-distinct
      (all-weaker (IsNamed ended_of_node 0 row.list.nodes.slots) (λ e. IsOff e.name (map (λ e. e.name) (requests (line_of (part row))))) apart (ended_of row.list)
      (each-named ended_of_node 0 row.list.nodes.slots)))
    where
      apart : (e : Entry ℕ) → IsNamed ended_of_node 0 row.list.nodes.slots e → IsOff e.name (map (λ e. e.name) (requests (line_of (part row))))
      apart e was =
          subst (IsOff e.name) (sym (map-append (λ e. e.name) (granted_of row.list) (map entry_of (requests_of (linked_nodes row.list)))))
          (all_of_both (λ y. nat_eq e.name y ≡ false) (map (λ e. e.name) (granted_of row.list)) (names_waiting (node_at row.list) row.list.linked)
          (off_granted e was (granted_of row.list) (each-named granted_to 0 row.list.nodes.slots))
          (off_linked ended_of_node (λ node size is some open_still. is_ended node size is open_still) e was))
