-- What the values of the nodes of a store come to, once a node changes.
use Rattle.std.proofs.Common.{◌≡◌, refl, ℕ, ap, sym, ◌∙◌, Option, Some, None, is_some, IsSome}
use Rattle.std.specs.Option.{option_map_or}
use Rattle.band_line.specs.Arena.{ArenaState, KeepsOthers, KeepsValues, value_at, occupied_len, with_value}
use Rattle.band_line.specs.Store.{node_value, node_values, changed_at}
use Rattle.band_line.specs.declared.store.Node.{Node}
use Rattle.band_line.proofs.ArenaMaps.{value_at-arena_map, occupied_len-arena_map, arena_map-with_value}

module _ {K T : Type 0} where
  abbrev value : Node K T → T
  value node = node.value

  pub value_is : (store : ArenaState (Node K T)) (id : ℕ) → value_at id (node_values store) ≡ node_value (value_at id store)
  value_is store id = value_at-arena_map value store id

  pub len_is : (store : ArenaState (Node K T)) → occupied_len (node_values store) ≡ occupied_len store
  len_is store = occupied_len-arena_map value store

  -- the value of a node is shown
  pub shows_value : (store : ArenaState (Node K T)) (id : ℕ) → IsSome (value_at id store) → IsSome (value_at id (node_values store))
  shows_value store id here = ap is_some (value_is store id) ∙ at (value_at id store) here
    where
      at : (slot : Option (Node K T)) → IsSome slot → IsSome (node_value slot)
      at None h = absurd (cc)
      at (Some node) h = refl

  -- a value that is shown is in a node
  pub held : (store : ArenaState (Node K T)) (id : ℕ) → IsSome (value_at id (node_values store)) → IsSome (value_at id store)
  held store id here = at (value_at id store) (ap is_some (sym (value_is store id)) ∙ here)
    where
      at : (slot : Option (Node K T)) → IsSome (node_value slot) → IsSome slot
      at None h = absurd (cc)
      at (Some node) h = refl

  -- a value that is written into a node is the one that is shown
  pub node_values-changed_at : (store : ArenaState (Node K T)) (id : ℕ) (change : Node K T → Node K T) (last : T) → IsSome (value_at id store)
      → ((node : Node K T) → (change node).value ≡ last) → node_values (changed_at id change store) ≡ with_value id last (node_values store)
  node_values-changed_at store id change last here written = at (value_at id store) here
    where
      at : (found : Option (Node K T)) → IsSome found → node_values (option_map_or (λ node. with_value id (change node) store) found store) ≡ with_value id last (node_values store)
      at None h = absurd (cc)
      at (Some node) h = arena_map-with_value value store id (change node) ∙ ap (λ v. with_value id v (node_values store)) (written node)

  pub others_shown : (old new : ArenaState (Node K T)) {id : ℕ} → KeepsOthers id old new → KeepsOthers id (node_values old) (node_values new)
  others_shown old new {id} keeps other apart = value_is new other ∙ ap node_value (keeps other apart) ∙ sym (value_is old other)

  pub values_shown : (old new : ArenaState (Node K T)) → KeepsValues old new → KeepsValues (node_values old) (node_values new)
  values_shown old new keeps other here = value_is new other ∙ ap node_value (keeps other (held old other here)) ∙ sym (value_is old other)
