-- How the nodes of a line are linked. No public clause cites this page.
use Rattle.std.specs.Prelude.{◌≡◌, ◌≢◌, ℕ, ◌+◌, ◌<◌, List, [], ◌∷◌, length, count_by, Bool, ◌==◌, if◌then◌else◌, Option, Some, None, is_some}
use Rattle.std.specs.List.{list_any, AllByRecursion}
use Rattle.std.specs.Option.{option_map, option_and_then}
use Rattle.band_line.specs.Arena.{ArenaState, arena_map, occupied_len, value_at}
use Rattle.band_line.specs.Slots.{chain}
use Rattle.std.specs.Global.{Global}
use Rattle.std.specs.declared.boxed.Box.{Box}
use Rattle.band_line.specs.WaitList.{WaitListState, empty_list}
use Rattle.band_line.specs.Links.{with_prev, with_next}
use Rattle.band_line.specs.declared.link.Between.{Between}
use Rattle.band_line.specs.Store.{changed_at}
use Rattle.band_line.specs.declared.store.Node.{Node as StoreNode}

-- a value, and the slots that it stands between, if it is linked
abbrev pub Node : Type 0 → Type 0
Node T = StoreNode (Option Between) T

-- the first of these, or else what comes after them
abbrev pub first_or : Option ℕ → List ℕ → Option ℕ
first_or after [] = after
first_or after (id ∷ rest) = Some id

-- the last of these, or else what comes before them
abbrev pub last_or : Option ℕ → List ℕ → Option ℕ
last_or before [] = before
last_or before (id ∷ rest) = last_or (Some id) rest

-- each of these stands between its neighbors
abbrev pub AreLinked : (ℕ → Option Between) → Option ℕ → List ℕ → Option ℕ → Type 0
AreLinked links before [] after = Unit {0}
AreLinked links before (id ∷ rest) after =
    (links id ≡ Some (record { prev = before; next = first_or after rest }))
    × AreLinked links (Some id) rest after

-- no two of these are the same
abbrev pub AreApart : List ℕ → Type 0
AreApart [] = Unit {0}
AreApart (id ∷ rest) = AllByRecursion (λ other. other ≢ id) rest × AreApart rest

-- `front` is the first of these, `back` the last, and they are those that have links
pub record IsDoublyLinked (links : ℕ → Option Between) (ids : List ℕ) (front back : Option ℕ) : Type 0 where
  pub linked : AreLinked links None ids None
  pub apart : AreApart ids
  pub front_is : front ≡ first_or None ids
  pub back_is : back ≡ last_or None ids
  pub all : (id : ℕ) → is_some (links id) ≡ list_any (λ other. other == id) ids

module _ {T : Type 0} where
  -- the slots that the node in a slot stands between, if it is linked
  abbrev pub links_in : Option (Node T) → Option Between
  links_in slot = option_and_then (λ node. node.links) slot

  abbrev pub links_at : ArenaState (Node T) → ℕ → Option Between
  links_at nodes id = links_in (value_at id nodes)

  abbrev pub linked_len : ArenaState (Node T) → ℕ
  linked_len nodes = count_by (λ slot. is_some (links_in slot)) nodes.slots

  -- the linked nodes, from the front on
  abbrev pub linked_of : ArenaState (Node T) → Option ℕ → List ℕ
  linked_of nodes front =
      chain (λ id. option_map (λ links. links.next) (links_at nodes id)) (linked_len nodes) front

  abbrev pub list_of : ArenaState (Node T) → Option ℕ → WaitListState T
  list_of nodes front = record {
    nodes = arena_map (λ node. node.value) nodes;
    linked = linked_of nodes front;
  }

  -- a line that was not made yet has nobody
  abbrev pub list_in : Option (Box (WaitListState T) Global) → WaitListState T
  list_in None = empty_list
  list_in (Some line) = line.value

  -- a line was made for the sake of room, so a list that has neither nodes nor room has no line in memory
  abbrev pub IsMade : Option (Box (WaitListState T) Global) → Type 0
  IsMade None = Unit {0}
  IsMade (Some line) = 0 < occupied_len line.value.nodes + line.value.nodes.spare

  -- as many nodes, and as much room
  pub record HasAsManyNodes (old new : WaitListState T) : Type 0 where
    pub len : occupied_len new.nodes ≡ occupied_len old.nodes
    pub spare : new.nodes.spare ≡ old.nodes.spare

  pub record IsWaitLine (nodes : ArenaState (Node T)) (front back : Option ℕ) : Type 0 where
    pub line : IsDoublyLinked (links_at nodes) (linked_of nodes front) front back
    pub counted : length (linked_of nodes front) ≡ linked_len nodes

  abbrev pub with_node_prev : Option ℕ → Node T → Node T
  with_node_prev prev node = record node { links = option_map (with_prev prev) node.links }

  abbrev pub with_node_next : Option ℕ → Node T → Node T
  with_node_next next node = record node { links = option_map (with_next next) node.links }

  -- who stands after `prev`, if that is a node, is `next`
  abbrev pub pointed_next : Option ℕ → Option ℕ → ArenaState (Node T) → ArenaState (Node T)
  pointed_next None next nodes = nodes
  pointed_next (Some prev) next nodes = changed_at prev (with_node_next next) nodes

  abbrev pub pointed_prev : Option ℕ → Option ℕ → ArenaState (Node T) → ArenaState (Node T)
  pointed_prev None prev nodes = nodes
  pointed_prev (Some next) prev nodes = changed_at next (with_node_prev prev) nodes

  -- a node once it was asked: it has this value, and no links if the answer was true
  abbrev pub asked : Bool → T → Node T → Node T
  asked answer left node = record { links = if answer then None else node.links; value = left }

  -- those who stood beside a node with these links, if it was linked, stand beside each other
  abbrev pub closed : Option Between → ArenaState (Node T) → ArenaState (Node T)
  closed None nodes = nodes
  closed (Some links) nodes = pointed_prev links.next links.prev (pointed_next links.prev links.next nodes)

abbrev pub closed_front : Option Between → Option ℕ → Option ℕ
closed_front None front = front
closed_front (Some links) front = if is_some links.prev then front else links.next

abbrev pub closed_back : Option Between → Option ℕ → Option ℕ
closed_back None back = back
closed_back (Some links) back = if is_some links.next then back else links.prev

-- how many stood beside a node with these links
abbrev pub gap_visits : Option Between → ℕ
gap_visits None = 0
gap_visits (Some links) = (if is_some links.prev then 1 else 0) + (if is_some links.next then 1 else 0)
