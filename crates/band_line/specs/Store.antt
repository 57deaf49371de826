-- The nodes of a store: values, each with what links it.
use Rattle.std.specs.Prelude.{ℕ, Option}
use Rattle.std.specs.Option.{option_map, option_map_or}
use Rattle.band_line.specs.Arena.{ArenaState, arena_map, value_at, with_value}
use Rattle.band_line.specs.declared.store.Node.{Node}

-- the value in a slot, if there is one, is changed
abbrev pub changed_at : {A : Type 0} → ℕ → (A → A) → ArenaState A → ArenaState A
changed_at id change arena =
    option_map_or (λ value. with_value id (change value) arena) (value_at id arena) arena

module _ {K T : Type 0} where
  -- the value of a node, if there is one
  abbrev pub node_value : Option (Node K T) → Option T
  node_value slot = option_map (λ node. node.value) slot

  -- what links a node, if there is one
  abbrev pub node_links : Option (Node K T) → Option K
  node_links slot = option_map (λ node. node.links) slot

  abbrev pub with_node_value : T → Node K T → Node K T
  with_node_value value node = record node { value = value }

  abbrev pub with_node_links : K → Node K T → Node K T
  with_node_links links node = record node { links = links }

  -- an arena of the values alone
  abbrev pub node_values : ArenaState (Node K T) → ArenaState T
  node_values = arena_map (λ node. node.value)
