-- How a store keeps its slots. No public clause cites this page.
use Rattle.std.specs.Prelude.{◌≡◌, ℕ, zero, suc, ◌+◌, ◌-◌, ◌≤◌, List, [], ◌∷◌, map, length, filter_map, Option, Some, None, IsSome, unwrap_or, slice_index_or}
use Rattle.band_line.specs.Arena.{ArenaState, slot_limit}
use Rattle.band_line.specs.Store.{node_value}
use Rattle.band_line.specs.declared.store.Node.{Node}
use Rattle.band_line.specs.declared.store.Slot.{Slot}
use Rattle.band_line.specs.declared.store.Slot.TheVariants.{Vacant, Occupied}

-- the first so many slots of a chain, where `next` tells the slot after each
abbrev pub chain : (ℕ → Option (Option ℕ)) → ℕ → Option ℕ → List ℕ
chain next zero first = []
chain next (suc count) None = []
chain next (suc count) (Some id) = id ∷ chain next count (unwrap_or (next id) None)

-- from the first on, each of these slots tells the next, and the last tells none
abbrev pub IsChain : (ℕ → Option (Option ℕ)) → Option ℕ → List ℕ → Type 0
IsChain next first [] = first ≡ None
IsChain next first (id ∷ rest) =
    (first ≡ Some id) × IsSome (next id) × IsChain next (unwrap_or (next id) None) rest

module _ {K T : Type 0} where
  -- what a slot has
  abbrev pub node_of : Slot K T → Option (Node K T)
  node_of (Vacant next) = None
  node_of (Occupied links value) = Some (record { links = links; value = value })

  abbrev pub nodes_of : List (Slot K T) → List (Node K T)
  nodes_of slots = filter_map (λ slot. slot) (map node_of slots)

  -- the values of the nodes
  abbrev pub values_of : List (Slot K T) → List T
  values_of slots = filter_map (λ slot. slot) (map node_value (map node_of slots))

  abbrev pub with_slot_value : T → Slot K T → Slot K T
  with_slot_value value (Vacant next) = Vacant next
  with_slot_value value (Occupied links last) = Occupied links value

  abbrev pub with_slot_links : K → Slot K T → Slot K T
  with_slot_links links (Vacant next) = Vacant next
  with_slot_links links (Occupied last value) = Occupied links value

  -- where a slot is vacant, the one that was vacated before it
  abbrev pub next_of : Slot K T → Option (Option ℕ)
  next_of (Vacant next) = Some next
  next_of (Occupied links value) = None

  abbrev pub next_at : List (Slot K T) → ℕ → Option (Option ℕ)
  next_at slots id = slice_index_or (map next_of slots) id None

  -- the vacant slots, of which there are all but `len`
  abbrev pub vacated_of : List (Slot K T) → ℕ → Option ℕ → List ℕ
  vacated_of slots len first = chain (next_at slots) (length slots - len) first

  abbrev pub state_of : List (Slot K T) → ℕ → ℕ → Option ℕ → ArenaState (Node K T)
  state_of slots capacity len first = record {
    slots = map node_of slots;
    vacated = vacated_of slots len first;
    spare = capacity - len;
  }

  pub record IsStore (slots : List (Slot K T)) (capacity len : ℕ) (first : Option ℕ) : Type 0 where
    pub counted : len ≡ length (nodes_of slots)
    pub chained : IsChain (next_at slots) first (vacated_of slots len first)
    pub all : len + length (vacated_of slots len first) ≡ length slots
    pub numbered : capacity ≤ slot_limit
