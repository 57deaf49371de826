-- How each change of the nodes keeps a line, and what it shows then.
use Rattle.std.proofs.Common.{◌≡◌, ◌≢◌, refl, ℕ, ◌+◌, ◌≤◌, List, [], ◌∷◌, ◌++◌, length, drop, slice_get, arith, ap, sym, ◌∙◌, Option, Some, None, is_some, IsSome, Bool, true, false, cond, inl, inr}
use Rattle.std.specs.Option.{option_map, option_map_or}
use Rattle.std.proofs.lemmas.Bool.{cases_eq}
use Rattle.std.proofs.lemmas.List.{length_push, set-set}
use Rattle.band_line.specs.Arena.{KeepsOthers, KeepsValues, ArenaState, value_at, occupied_len, next_slot, inserted, with_value, removed}
use Rattle.band_line.specs.WaitList.{WaitListState, IsWaitList, is_linked, first_waiter, waiter_at, pushed_front, pushed_back, detached, with_waiter, removed_waiter}
use Rattle.band_line.specs.Links.{with_prev, with_next}
use Rattle.band_line.specs.Slots.{chain}
use Rattle.band_line.specs.Store.{changed_at, with_node_value, node_values}
use Rattle.band_line.specs.Line.{Node, first_or, IsDoublyLinked, links_in, links_at, linked_len, linked_of, list_of, IsWaitLine}
use Rattle.band_line.specs.Line.{with_node_prev, with_node_next, asked, pointed_next, pointed_prev, closed, closed_front, closed_back, gap_visits}
use Rattle.band_line.specs.declared.link.Between.{Between}
use Rattle.band_line.proofs.ArenaLemmas.{differs}
use Rattle.band_line.proofs.Chains.{chain-IsChain}
use Rattle.band_line.proofs.NodeValues.{value_is, len_is, shows_value, held, node_values-changed_at, others_shown}
use Rattle.band_line.proofs.Linking.{PointsNext, PointsPrev, Relinks, HasNeighbors, neighbors, front_linked, without, without-IsOff, IsOff-is_in}
use Rattle.band_line.proofs.Linking.{IsDoublyLinked-same, AreApart-IsDistinct, joins_back, joins_front, leaves, IsChain-AreLinked}
use Rattle.band_line.proofs.ArenaMaps.{value_at-with_value, value_at-inserted_other, value_at-changed_at, value_at-changed_at_other, count-with_value, count-removed, count-inserted}
use Rattle.band_line.proofs.ArenaMaps.{next_slot-arena_map, arena_map-inserted, arena_map-removed, arena_map-changed_at}

-- two nodes at most stand beside one
pub gap_visits-le : (gap : Option Between) → gap_visits gap ≤ 2
gap_visits-le None = omega arith
gap_visits-le (Some gap) = by_ends gap.prev gap.next
  where
    by_ends : (prev next : Option ℕ) → cond (is_some prev) 1 0 + cond (is_some next) 1 0 ≤ 2
    by_ends None None = omega arith
    by_ends None (Some next) = omega arith
    by_ends (Some prev) None = omega arith
    by_ends (Some prev) (Some next) = omega arith

module _ {T : Type 0} where
  abbrev has_links : Option (Node T) → Bool
  has_links slot = is_some (links_in slot)

  list_is : {values others : ArenaState T} {ids slots : List ℕ} → values ≡ others → ids ≡ slots
      → (let list : WaitListState T = record { nodes = values; linked = ids } in list) ≡ record { nodes = others; linked = slots }
  list_is p q = rw (p, q) refl

  -- slots that are linked by the links of these nodes are what the line shows
  pub IsWaitLine-from : {nodes : ArenaState (Node T)} {front back : Option ℕ} (ids : List ℕ)
      → IsDoublyLinked (links_at nodes) ids front back → length ids ≡ linked_len nodes
      → IsWaitLine nodes front back × (linked_of nodes front ≡ ids)
  IsWaitLine-from {nodes} {front} {back} ids line counted =
      let next = λ (id : ℕ). option_map (λ (between : Between). between.next) (links_at nodes id) in
      let shown : linked_of nodes front ≡ ids =
      ap (chain next (linked_len nodes)) line.front_is ∙ chain-IsChain next (first_or None ids) ids (linked_len nodes) (IsChain-AreLinked (links_at nodes) None ids line.linked) (omega arith) in
      (record { line = rw shown line; counted = rw shown counted }, shown)

  module _ (nodes : ArenaState (Node T)) where
    links_in-next : (next : Option ℕ) (slot : Option (Node T)) → links_in (option_map (with_node_next next) slot) ≡ option_map (with_next next) (links_in slot)
    links_in-next next None = refl
    links_in-next next (Some node) = refl

    links_in-prev : (prev : Option ℕ) (slot : Option (Node T)) → links_in (option_map (with_node_prev prev) slot) ≡ option_map (with_prev prev) (links_in slot)
    links_in-prev prev None = refl
    links_in-prev prev (Some node) = refl

    pub points_next : (at next : Option ℕ) → PointsNext (links_at nodes) (links_at (pointed_next at next nodes)) at next
    points_next None next = record { changes = λ id e. absurd (cc); keeps = λ id e. refl }
    points_next (Some slot) next = record {
      changes = λ id e. let same : id ≡ slot = cc in rw same (ap links_in (value_at-changed_at nodes slot (with_node_next next)) ∙ links_in-next next (value_at slot nodes));
      keeps = λ id e. ap links_in (value_at-changed_at_other nodes slot (with_node_next next) id (λ same. e (ap Some (sym same))));
    }

    pub points_prev : (at prev : Option ℕ) → PointsPrev (links_at nodes) (links_at (pointed_prev at prev nodes)) at prev
    points_prev None prev = record { changes = λ id e. absurd (cc); keeps = λ id e. refl }
    points_prev (Some slot) prev = record {
      changes = λ id e. let same : id ≡ slot = cc in rw same (ap links_in (value_at-changed_at nodes slot (with_node_prev prev)) ∙ links_in-prev prev (value_at slot nodes));
      keeps = λ id e. ap links_in (value_at-changed_at_other nodes slot (with_node_prev prev) id (λ same. e (ap Some (sym same))));
    }

    -- a change of the links that detaches nobody counts as none
    linked_len-changed_at : (id : ℕ) (change : Node T → Node T) → ((node : Node T) → has_links (Some (change node)) ≡ has_links (Some node))
        → linked_len (changed_at id change nodes) ≡ linked_len nodes
    linked_len-changed_at id change same = at (value_at id nodes) refl
      where
        at : (found : Option (Node T)) → value_at id nodes ≡ found → linked_len (option_map_or (λ value. with_value id (change value) nodes) found nodes) ≡ linked_len nodes
        at None e = refl
        at (Some node) e =
            let counted = count-with_value nodes has_links id node (change node) e in
            let both = same node in
            omega (arith, rw both at counted)

    mapped_next : (next : Option ℕ) (links : Option Between) → is_some (option_map (with_next next) links) ≡ is_some links
    mapped_next next None = refl
    mapped_next next (Some links) = refl

    mapped_prev : (prev : Option ℕ) (links : Option Between) → is_some (option_map (with_prev prev) links) ≡ is_some links
    mapped_prev prev None = refl
    mapped_prev prev (Some links) = refl

    pub linked_len-pointed_next : (at next : Option ℕ) → linked_len (pointed_next at next nodes) ≡ linked_len nodes
    linked_len-pointed_next None next = refl
    linked_len-pointed_next (Some slot) next = linked_len-changed_at slot (with_node_next next) (λ node. mapped_next next node.links)

    pub linked_len-pointed_prev : (at prev : Option ℕ) → linked_len (pointed_prev at prev nodes) ≡ linked_len nodes
    linked_len-pointed_prev None prev = refl
    linked_len-pointed_prev (Some slot) prev = linked_len-changed_at slot (with_node_prev prev) (λ node. mapped_prev prev node.links)

    -- who is linked has a value
    pub waits : (slot : Option (Node T)) → IsSome (links_in slot) → IsSome slot
    waits None h = absurd (cc)
    waits (Some node) h = refl

    pub node_values-pointed_next : (at next : Option ℕ) → node_values (pointed_next at next nodes) ≡ node_values nodes
    node_values-pointed_next None next = refl
    node_values-pointed_next (Some slot) next = arena_map-changed_at (λ node. node.value) nodes slot (with_node_next next) (λ node. refl)

    pub node_values-pointed_prev : (at prev : Option ℕ) → node_values (pointed_prev at prev nodes) ≡ node_values nodes
    node_values-pointed_prev None prev = refl
    node_values-pointed_prev (Some slot) prev = arena_map-changed_at (λ node. node.value) nodes slot (with_node_prev prev) (λ node. refl)

  -- what a call leaves: a line in order, which shows this
  pub record Makes (nodes : ArenaState (Node T)) (front back : Option ℕ) (shown : WaitListState T) : Type 0 where
    pub line : IsWaitLine nodes front back
    pub shows : list_of nodes front ≡ shown

  -- a node was put into a slot that was vacant
  pub record Inserts (nodes made : ArenaState (Node T)) (links : Option Between) (value : T) (id : ℕ) : Type 0 where
    pub slot : id ≡ next_slot nodes
    pub state : made ≡ inserted (record { links = links; value = value }) nodes
    pub vacant : value_at id nodes ≡ None
    pub here : value_at id made ≡ Some (record { links = links; value = value })
    pub len : occupied_len made ≡ occupied_len nodes + 1

  -- a value was put into a slot
  pub record Gains (old new : ArenaState T) (id : ℕ) (value : T) : Type 0 where
    pub here : value_at id new ≡ Some value
    pub others : KeepsOthers id old new
    pub keeps : KeepsValues old new
    pub len : occupied_len new ≡ occupied_len old + 1

  module _ {nodes made : ArenaState (Node T)} {links : Option Between} {value : T} {id : ℕ} (h : Inserts nodes made links value id) where
    elsewhere : (other : ℕ) → other ≢ id → value_at other made ≡ value_at other nodes
    elsewhere other apart = ap (value_at other) h.state ∙ value_at-inserted_other nodes (record { links = links; value = value }) other (λ e. apart (e ∙ sym h.slot))

    relinks : Relinks (links_at nodes) (links_at made) id links
    relinks = record { changes = ap links_in h.here; keeps = λ other apart. ap links_in (elsewhere other apart) }

    one_more : IsSome links → linked_len made ≡ linked_len nodes + 1
    one_more linked =
        let node : Node T = record { links = links; value = value } in
        let found : value_at (next_slot nodes) (inserted node nodes) ≡ Some node = ap (λ slot. value_at slot (inserted node nodes)) (sym h.slot) ∙ ap (value_at id) (sym h.state) ∙ h.here in
        ap linked_len h.state ∙ count-inserted nodes has_links node refl (ap (λ slot. value_at slot nodes) (sym h.slot) ∙ h.vacant) found
        ∙ ap (λ b. linked_len nodes + cond b 1 0) linked

    inserts_value : node_values made ≡ inserted value (node_values nodes)
    inserts_value = ap node_values h.state ∙ arena_map-inserted (λ (n : Node T). n.value) nodes (record { links = links; value = value })

    apart : KeepsOthers id (node_values nodes) (node_values made)
    apart = others_shown nodes made elsewhere

    gains : Gains (node_values nodes) (node_values made) id value
    gains = record {
      here = value_is made id ∙ ap (option_map (λ (n : Node T). n.value)) h.here;
      others = apart;
      keeps = λ other here.
          let vacant : value_at id (node_values nodes) ≡ None = value_is nodes id ∙ ap (option_map (λ (n : Node T). n.value)) h.vacant in
          apart other (differs (node_values nodes).slots id other vacant here);
      len = len_is made ∙ h.len ∙ ap (λ n. n + 1) (sym (len_is nodes));
    }

    pub gains_back : (back : Option ℕ) → Gains (node_values nodes) (node_values (pointed_next back (Some id) made)) id value
    gains_back back = rw (node_values-pointed_next made back (Some id)) gains

    pub gains_front : (front : Option ℕ) → Gains (node_values nodes) (node_values (pointed_prev front (Some id) made)) id value
    gains_front front = rw (node_values-pointed_prev made front (Some id)) gains

    -- who was linked is linked still
    pub stays_linked : (other : ℕ) → IsSome (links_at nodes other) → IsSome (links_at made other)
    stays_linked other linked =
        elim (cases_eq other id) [
          | inl same ↦ let none : links_at nodes other ≡ None = ap (links_at nodes) same ∙ ap links_in h.vacant in absurd (no_links (links_at nodes other) none linked)
          | inr apart ↦ ap is_some (ap links_in (elsewhere other apart)) ∙ linked
        ]
      where
        no_links : (slot : Option Between) → slot ≡ None → IsSome slot → ⊥
        no_links None e some = cc
        no_links (Some links) e some = cc

  pub pushes_back : {nodes made : ArenaState (Node T)} {front back : Option ℕ} {links : Option Between} {value : T} {id : ℕ}
      → IsWaitLine nodes front back → Inserts nodes made links value id → links ≡ Some (record { prev = back; next = None })
      → Makes (pointed_next back (Some id) made) (cond (is_some back) front (Some id)) (Some id) (pushed_back value (list_of nodes front))
  pushes_back {nodes} {made} {front} {back} {links} {value} {id} line h is =
      let ids = linked_of nodes front in
      let r : Relinks (links_at nodes) (links_at made) id (Some (record { prev = back; next = None })) = rw is at (relinks h) in
      let linked = joins_back line.line (ap links_in h.vacant) r (points_next made back (Some id)) in
      let counted : length (ids ++ id ∷ []) ≡ linked_len (pointed_next back (Some id) made) =
      omega (arith, length_push ids id, line.counted, one_more h (ap is_some is), linked_len-pointed_next made back (Some id)) in
      let whole = IsWaitLine-from {nodes = pointed_next back (Some id) made} (ids ++ id ∷ []) linked counted in
      let slot = h.slot ∙ sym (next_slot-arena_map (λ (n : Node T). n.value) nodes) in
      record {
        line = whole.0;
        shows = list_is (node_values-pointed_next made back (Some id) ∙ inserts_value h) (whole.1 ∙ ap (λ new. ids ++ new ∷ []) slot);
      }

  pub pushes_front : {nodes made : ArenaState (Node T)} {front back : Option ℕ} {links : Option Between} {value : T} {id : ℕ}
      → IsWaitLine nodes front back → Inserts nodes made links value id → links ≡ Some (record { prev = None; next = front })
      → Makes (pointed_prev front (Some id) made) (Some id) (cond (is_some front) back (Some id)) (pushed_front value (list_of nodes front))
  pushes_front {nodes} {made} {front} {back} {links} {value} {id} line h is =
      let ids = linked_of nodes front in
      let r : Relinks (links_at nodes) (links_at made) id (Some (record { prev = None; next = front })) = rw is at (relinks h) in
      let linked = joins_front line.line (ap links_in h.vacant) r (points_prev made front (Some id)) in
      let counted : length (id ∷ ids) ≡ linked_len (pointed_prev front (Some id) made) =
      omega (arith, line.counted, one_more h (ap is_some is), linked_len-pointed_prev made front (Some id)) in
      let whole = IsWaitLine-from {nodes = pointed_prev front (Some id) made} (id ∷ ids) linked counted in
      let slot = h.slot ∙ sym (next_slot-arena_map (λ (n : Node T). n.value) nodes) in
      record {
        line = whole.0;
        shows = list_is (node_values-pointed_prev made front (Some id) ∙ inserts_value h) (whole.1 ∙ ap (λ new. new ∷ ids) slot);
      }

  -- a change that keeps the links of a node
  keeps_links : (nodes : ArenaState (Node T)) (id : ℕ) (change : Node T → Node T) → ((node : Node T) → (change node).links ≡ node.links)
      → (other : ℕ) → links_at (changed_at id change nodes) other ≡ links_at nodes other
  keeps_links nodes id change same other =
      elim (cases_eq other id) [
        | inl here ↦ ap (links_at (changed_at id change nodes)) here ∙ ap links_in (value_at-changed_at nodes id change) ∙ mapped (value_at id nodes) ∙ ap (links_at nodes) (sym here)
        | inr differs ↦ ap links_in (value_at-changed_at_other nodes id change other differs)
      ]
    where
      mapped : (slot : Option (Node T)) → links_in (option_map change slot) ≡ links_in slot
      mapped None = refl
      mapped (Some node) = same node

  -- only a value is written
  pub writes : {nodes : ArenaState (Node T)} {front back : Option ℕ} (id : ℕ) (value : T) → IsWaitLine nodes front back
      → IsSome (value_at id nodes)
      → Makes (changed_at id (with_node_value value) nodes) front back (with_waiter id value (list_of nodes front))
  writes {nodes} {front} {back} id value line here =
      let counted = linked_len-changed_at nodes id (with_node_value value) (λ node. refl) in
      let whole =
      IsWaitLine-from {nodes = changed_at id (with_node_value value) nodes} (linked_of nodes front)
      (IsDoublyLinked-same (keeps_links nodes id (with_node_value value) (λ node. refl)) line.line) (line.counted ∙ sym counted) in
      record { line = whole.0; shows = list_is (node_values-changed_at nodes id (with_node_value value) value here (λ node. refl)) whole.1 }

  -- a node that was asked and answered true has no links
  relinks_asked : (nodes : ArenaState (Node T)) (id : ℕ) (left : T) → IsSome (value_at id nodes) → Relinks (links_at nodes) (links_at (changed_at id (asked true left) nodes)) id None
  relinks_asked nodes id left here = record {
    changes = ap links_in (value_at-changed_at nodes id (asked true left)) ∙ mapped (value_at id nodes) here;
    keeps = λ other differs. ap links_in (value_at-changed_at_other nodes id (asked true left) other differs);
  }
    where
      mapped : (slot : Option (Node T)) → IsSome slot → links_in (option_map (asked true left) slot) ≡ None
      mapped None h = absurd (cc)
      mapped (Some node) h = refl

  linked_len-asked : (nodes : ArenaState (Node T)) (id : ℕ) (left : T) → IsSome (value_at id nodes)
      → linked_len (changed_at id (asked true left) nodes) + cond (is_some (links_at nodes id)) 1 0 ≡ linked_len nodes
  linked_len-asked nodes id left here = at (value_at id nodes) refl here
    where
      at : (found : Option (Node T)) → value_at id nodes ≡ found → IsSome found
          → linked_len (option_map_or (λ node. with_value id (asked true left node) nodes) found nodes) + cond (is_some (links_in found)) 1 0 ≡ linked_len nodes
      at None e h = absurd (cc)
      at (Some node) e h = omega (arith, count-with_value nodes has_links id node (asked true left node) e)

  node_values-closed : (nodes : ArenaState (Node T)) (gap : Option Between) → node_values (closed gap nodes) ≡ node_values nodes
  node_values-closed nodes None = refl
  node_values-closed nodes (Some gap) = node_values-pointed_prev (pointed_next gap.prev gap.next nodes) gap.next gap.prev ∙ node_values-pointed_next nodes gap.prev gap.next

  -- a node that answered true is detached, and those beside it stand beside each other
  pub unlinks : {nodes : ArenaState (Node T)} {front back : Option ℕ} (id : ℕ) (left : T) (gap : Option Between)
      → IsWaitLine nodes front back → IsSome (value_at id nodes) → gap ≡ links_at nodes id
      → Makes (closed gap (changed_at id (asked true left) nodes)) (closed_front gap front) (closed_back gap back) (with_waiter id left (detached id (list_of nodes front)))
  unlinks {nodes} {front} {back} id left None line here e =
      let made = changed_at id (asked true left) nodes in
      let ids = linked_of nodes front in
      let none : links_at nodes id ≡ None = sym e in
      let r = relinks_asked nodes id left here in
      let same : (other : ℕ) → links_at made other ≡ links_at nodes other =
      λ other. elim (cases_eq other id) [
        | inl is ↦ ap (links_at made) is ∙ r.changes ∙ e ∙ ap (links_at nodes) (sym is)
        | inr differs ↦ r.keeps other differs
      ] in
      let counted : length ids ≡ linked_len made = omega (arith, line.counted, rw none at (linked_len-asked nodes id left here)) in
      let whole = IsWaitLine-from {nodes = made} ids (IsDoublyLinked-same same line.line) counted in
      let off = IsOff-is_in id ids (sym (line.line.all id) ∙ ap is_some none) in
      record {
        line = whole.0;
        shows = list_is (node_values-changed_at nodes id (asked true left) left here (λ node. refl)) (whole.1 ∙ sym (without-IsOff id ids off));
      }
  unlinks {nodes} {front} {back} id left (Some gap) line here e =
      let made = changed_at id (asked true left) nodes in
      let half = pointed_next gap.prev gap.next made in
      let after = pointed_prev gap.next gap.prev half in
      let ids = linked_of nodes front in
      let some : links_at nodes id ≡ Some gap = sym e in
      let left_line = leaves line.line some (relinks_asked nodes id left here) (points_next made gap.prev gap.next) (points_prev half gap.next gap.prev) in
      let fewer : linked_len made + 1 ≡ linked_len nodes = rw some at (linked_len-asked nodes id left here) in
      let counted : length (without id ids) ≡ linked_len after =
      omega (arith, left_line.shorter, line.counted, fewer, linked_len-pointed_next made gap.prev gap.next, linked_len-pointed_prev half gap.next gap.prev) in
      let whole = IsWaitLine-from {nodes = after} (without id ids) left_line.line counted in
      record {
        line = whole.0;
        shows = list_is (node_values-closed made (Some gap) ∙ node_values-changed_at nodes id (asked true left) left here (λ node. refl)) whole.1;
      }

  -- a detached node goes
  pub removes : {nodes : ArenaState (Node T)} {front back : Option ℕ} (id : ℕ) → IsWaitLine nodes front back → IsSome (value_at id nodes)
      → links_at nodes id ≡ None → KeepsOthers id nodes (removed id nodes) → value_at id (removed id nodes) ≡ None
      → Makes (removed id nodes) front back (removed_waiter id (list_of nodes front))
  removes {nodes} {front} {back} id line here none others gone =
      let same : (other : ℕ) → links_at (removed id nodes) other ≡ links_at nodes other =
      λ other. elim (cases_eq other id) [
        | inl is ↦ ap (links_at (removed id nodes)) is ∙ ap links_in gone ∙ sym none ∙ ap (links_at nodes) (sym is)
        | inr differs ↦ ap links_in (others other differs)
      ] in
      let counted = at (value_at id nodes) refl here in
      let whole = IsWaitLine-from {nodes = removed id nodes} (linked_of nodes front) (IsDoublyLinked-same same line.line) (line.counted ∙ sym counted) in
      record { line = whole.0; shows = list_is (arena_map-removed (λ (n : Node T). n.value) nodes id) whole.1 }
    where
      at : (found : Option (Node T)) → value_at id nodes ≡ found → IsSome found → linked_len (removed id nodes) ≡ linked_len nodes
      at None e h = absurd (cc)
      at (Some node) e h =
          let detached : has_links (Some node) ≡ false = ap is_some (sym (ap links_in e) ∙ none) in
          let counted = count-removed nodes has_links id node refl e in
          omega (arith, rw detached at counted)

  -- what holds of what a line shows
  pub sound_list : {nodes : ArenaState (Node T)} {front back : Option ℕ} → IsWaitLine nodes front back → IsWaitList (list_of nodes front)
  sound_list {nodes} {front} line = record {
    here = λ id linked. shows_value nodes id (waits nodes (value_at id nodes) (line.line.all id ∙ linked));
    once = AreApart-IsDistinct (linked_of nodes front) line.line.apart;
  }

  -- who is not in the line has no links
  pub no_links : {nodes : ArenaState (Node T)} {front back : Option ℕ} (id : ℕ) → IsWaitLine nodes front back → is_linked id (list_of nodes front) ≡ false → links_at nodes id ≡ None
  no_links {nodes} id line detached = at (links_at nodes id) (line.line.all id ∙ detached)
    where
      at : (links : Option Between) → is_some links ≡ false → links ≡ None
      at None e = refl
      at (Some between) e = absurd (cc)

  -- a value was taken out of a slot
  pub record Loses (old new : ArenaState T) (id : ℕ) : Type 0 where
    pub others : KeepsOthers id old new
    pub len : occupied_len new + 1 ≡ occupied_len old

  pub loses : (nodes : ArenaState (Node T)) (id : ℕ) → KeepsOthers id nodes (removed id nodes)
      → occupied_len (removed id nodes) + 1 ≡ occupied_len nodes → Loses (node_values nodes) (node_values (removed id nodes)) id
  loses nodes id others len = record {
    others = others_shown nodes (removed id nodes) others;
    len = ap (λ n. n + 1) (len_is (removed id nodes)) ∙ len ∙ sym (len_is nodes);
  }

  -- those beside a node are linked still when it is asked
  pub neighbors_asked : {nodes : ArenaState (Node T)} {front back : Option ℕ} {id : ℕ} {between : Between} (left : T)
      → IsWaitLine nodes front back → IsSome (value_at id nodes) → links_at nodes id ≡ Some between
      → HasNeighbors (links_at (changed_at id (asked true left) nodes)) id between
  neighbors_asked {nodes} {front} {back} {id} {between} left line here linked =
      let beside = neighbors line.line linked in
      let keeps = (relinks_asked nodes id left here).keeps in
      record {
        prev = λ other e. let h = beside.prev other e in (ap is_some (keeps other h.1) ∙ h.0, h.1);
        next = λ other e. let h = beside.next other e in (ap is_some (keeps other h.1) ∙ h.0, h.1);
      }

  -- a node was detached, and another value may be written into it
  pub record Detaches (after : ArenaState (Node T)) (front back : Option ℕ) (id : ℕ) (left : T) (shown : WaitListState T) : Type 0 where
    pub line : IsWaitLine after front back
    pub there : IsSome (value_at id after)
    pub holds : value_at id (node_values after) ≡ Some left
    pub rewrites : (value : T) → Makes (changed_at id (with_node_value value) after) front back (with_waiter id value shown)

  pub detaches : {nodes : ArenaState (Node T)} {front back : Option ℕ} (id : ℕ) (left : T) (gap : Option Between)
      → IsWaitLine nodes front back → IsSome (value_at id nodes) → gap ≡ links_at nodes id
      → Detaches (closed gap (changed_at id (asked true left) nodes)) (closed_front gap front) (closed_back gap back) id left (detached id (list_of nodes front))
  detaches {nodes} {front} {back} id left gap line here e =
      let made = unlinks id left gap line here e in
      let shown_here : IsSome (value_at id (node_values nodes)) = shows_value nodes id here in
      let holds : value_at id (node_values (closed gap (changed_at id (asked true left) nodes))) ≡ Some left =
      ap (waiter_at id) made.shows ∙ value_at-with_value (node_values nodes) id left shown_here in
      let there = held (closed gap (changed_at id (asked true left) nodes)) id (ap is_some holds) in
      record {
        line = made.line;
        there = there;
        holds = holds;
        rewrites = λ value.
            let written = writes id value made.line there in
            record {
              line = written.line;
              shows = written.shows ∙ ap (with_waiter id value) made.shows ∙ ap (λ slots. with_slots slots) (set-set nodes_slots id (Some left) (Some value));
            };
      }
    where
      nodes_slots : List (Option T)
      nodes_slots = (node_values nodes).slots

      with_slots : List (Option T) → WaitListState T
      with_slots slots = record { nodes = record (node_values nodes) { slots = slots }; linked = without id (linked_of nodes front) }

  -- one node at most stands beside the first
  pub gap_visits-first : {nodes : ArenaState (Node T)} {front back : Option ℕ} {id : ℕ} {gap : Option Between} → IsWaitLine nodes front back
      → gap ≡ links_at nodes id → first_waiter (list_of nodes front) ≡ Some id → gap_visits gap ≤ 1
  gap_visits-first {nodes} {front} {back} {id} {gap} line e first =
      let at_front : front ≡ Some id = line.line.front_is ∙ first_is (linked_of nodes front) ∙ first in
      let between = e ∙ front_linked line.line id at_front in
      rw between (one_end (first_or None (drop 1 (linked_of nodes front))))
    where
      first_is : (ids : List ℕ) → first_or None ids ≡ slice_get ids 0
      first_is [] = refl
      first_is (x ∷ xs) = refl

      one_end : (next : Option ℕ) → 0 + cond (is_some next) 1 0 ≤ 1
      one_end None = omega arith
      one_end (Some next) = omega arith
