-- How each change of the slots keeps a store sound.
use Rattle.std.proofs.Common.{◌≡◌, ◌≢◌, refl, ℕ, suc, zero, ◌+◌, ◌-◌, ◌<◌, ◌≤◌, List, [], ◌∷◌, ◌++◌}
use Rattle.std.proofs.Common.{length, map, get_or, set, count_by, cond, arith, ap, sym, ◌∙◌, subst, Option, Some, None, is_some, IsSome, length-set}
use Rattle.std.specs.Prelude.{unwrap_or, filter_map}
use Rattle.std.specs.Option.{option_map}
use Rattle.std.proofs.lemmas.List.{get_or-map, map-set, map_push, length-map, length_push, get_or-set_same, get_or-set_other, get_or_past}
use Rattle.std.proofs.lemmas.List.Sums.{sum_by-set, sum_by-cons, sum_by_push}
use Rattle.band_line.specs.Arena.{ArenaState, inserted, with_value, removed, slot_limit}
use Rattle.band_line.specs.Slots.{with_slot_value, with_slot_links, IsChain, node_of, nodes_of, next_of, next_at, vacated_of, state_of, IsStore}
use Rattle.band_line.specs.Store.{changed_at, with_node_value, with_node_links}
use Rattle.band_line.specs.declared.store.Node.{Node}
use Rattle.band_line.specs.declared.store.Slot.{Slot}
use Rattle.band_line.specs.declared.store.Slot.TheVariants.{Vacant, Occupied}
use Rattle.band_line.proofs.Chains.{chain-none, chain-IsChain, first_is_off, end_is_off, IsChain-same}

module _ {T : Type 0} where
  abbrev one : Option T → ℕ
  one slot = cond (is_some slot) 1 0

  -- there are as many values as slots that have one
  pub length-values : (slots : List (Option T)) → length (filter_map (λ slot. slot) slots) ≡ count_by is_some slots
  length-values [] = refl
  length-values (None ∷ rest) = omega (arith, length-values rest, sum_by-cons one None rest)
  length-values (Some value ∷ rest) = omega (arith, length-values rest, sum_by-cons one (Some value) rest)

  pub length-values-set : (slots : List (Option T)) (id : ℕ) (slot : Option T) → id < length slots
      → length (filter_map (λ s. s) (set slots id slot)) + one (get_or slots id None) ≡ length (filter_map (λ s. s) slots) + one slot
  length-values-set slots id slot within = rw (length-values (set slots id slot), length-values slots) (sum_by-set one slots id slot None within)

  pub length-values_push : (slots : List (Option T)) (slot : Option T) → length (filter_map (λ s. s) (slots ++ slot ∷ [])) ≡ length (filter_map (λ s. s) slots) + one slot
  length-values_push slots slot = rw (length-values (slots ++ slot ∷ []), length-values slots) (sum_by_push one slots slot)

  -- a new slot at the end changes no other
  pub push_other : (slots : List (Option T)) (slot : Option T) (id : ℕ) → id ≢ length slots → get_or (slots ++ slot ∷ []) id None ≡ get_or slots id None
  push_other [] slot zero other = absurd (other refl)
  push_other [] slot (suc id) other = refl
  push_other (first ∷ rest) slot zero other = refl
  push_other (first ∷ rest) slot (suc id) other = push_other rest slot id (λ e. other (ap suc e))

  -- a slot that has a value is another than one that has none
  pub differs : (slots : List (Option T)) (id other : ℕ) → get_or slots id None ≡ None → IsSome (get_or slots other None) → other ≢ id
  differs slots id other vacant here same =
      let none : get_or slots other None ≡ None = ap (λ k. get_or slots k None) same ∙ vacant in
      let found = rw none at here in cc

Some-injective : {A : Type 0} {a b : A} → Some a ≡ Some b → a ≡ b
Some-injective e = cc

module _ {K T : Type 0} where
  -- what is found in a slot is what was put there last
  module _ (slots : List (Slot K T)) (id : ℕ) (slot : Slot K T) where
    pub node-set_same : id < length slots → get_or (map node_of (set slots id slot)) id None ≡ node_of slot
    node-set_same within = rw (map-set node_of slots id slot) (get_or-set_same (map node_of slots) id (node_of slot) None (omega (arith, length-map slots node_of)))

    next-set_same : id < length slots → next_at (set slots id slot) id ≡ next_of slot
    next-set_same within = rw (map-set next_of slots id slot) (get_or-set_same (map next_of slots) id (next_of slot) None (omega (arith, length-map slots next_of)))

    pub node-set_other : (other : ℕ) → other ≢ id → get_or (map node_of (set slots id slot)) other None ≡ get_or (map node_of slots) other None
    node-set_other other differs = rw (map-set node_of slots id slot) (get_or-set_other (map node_of slots) id other (node_of slot) None differs)

    next-set_other : (other : ℕ) → other ≢ id → next_at (set slots id slot) other ≡ next_at slots other
    next-set_other other differs = rw (map-set next_of slots id slot) (get_or-set_other (map next_of slots) id other (next_of slot) None differs)

    count-set : id < length slots → length (nodes_of (set slots id slot)) + one (get_or (map node_of slots) id None) ≡ length (nodes_of slots) + one (node_of slot)
    count-set within = rw (map-set node_of slots id slot) (length-values-set (map node_of slots) id (node_of slot) (omega (arith, length-map slots node_of)))

  -- a slot that has a value is there
  pub occupied_within : (slots : List (Slot K T)) (id : ℕ) → IsSome (get_or (map node_of slots) id None) → id < length slots
  occupied_within slots id here = let inside : id < length (map node_of slots) = grind (arith, get_or_past) in omega (arith, length-map slots node_of)

  -- a slot that has a value tells no next
  occupied_ends : (slots : List (Slot K T)) (id : ℕ) → IsSome (get_or (map node_of slots) id None) → next_at slots id ≡ None
  occupied_ends [] id here = refl
  occupied_ends (Vacant next ∷ rest) zero here = absurd (grind (arith))
  occupied_ends (Occupied links value ∷ rest) zero here = refl
  occupied_ends (slot ∷ rest) (suc id) here = occupied_ends rest id here

  -- a slot that tells a next has no value
  pub vacant_at : (slots : List (Slot K T)) (id : ℕ) → IsSome (next_at slots id) → get_or (map node_of slots) id None ≡ None
  vacant_at [] id there = refl
  vacant_at (Vacant next ∷ rest) zero there = refl
  vacant_at (Occupied links value ∷ rest) zero there = absurd (grind (arith))
  vacant_at (slot ∷ rest) (suc id) there = vacant_at rest id there

  pub vacant_within : (slots : List (Slot K T)) (id : ℕ) → IsSome (next_at slots id) → id < length slots
  vacant_within slots id there = let inside : id < length (map next_of slots) = grind (arith, get_or_past) in omega (arith, length-map slots next_of)

  module _ {slots : List (Slot K T)} {capacity len : ℕ} where
    -- the slot that was vacated last is vacant
    pub first_vacant : {first : Option ℕ} {id : ℕ} → IsStore slots capacity len first → first ≡ Some id → IsSome (next_at slots id)
    first_vacant {first} {id} sound begins = by_ids (vacated_of slots len first) sound.chained
      where
        by_ids : (ids : List ℕ) → IsChain (next_at slots) first ids → IsSome (next_at slots id)
        by_ids [] h = absurd (cc)
        by_ids (x ∷ rest) h = let a = h.0 in let same : x ≡ id = cc in subst (λ y. IsSome (next_at slots y)) same h.1

    pub first_within : {first : Option ℕ} {id : ℕ} → IsStore slots capacity len first → first ≡ Some id → id < length slots
    first_within {first} {id} sound begins = vacant_within slots id (first_vacant sound begins)

  -- a chain through all vacant slots makes an arena sound, and is what it shows
  IsStore-from : {slots : List (Slot K T)} {capacity len : ℕ} {first : Option ℕ} (ids : List ℕ) → len ≡ length (nodes_of slots)
      → IsChain (next_at slots) first ids → len + length ids ≡ length slots → capacity ≤ slot_limit
      → IsStore slots capacity len first × (vacated_of slots len first ≡ ids)
  IsStore-from {slots} {capacity} {len} {first} ids counted chained all numbered =
      let same : vacated_of slots len first ≡ ids = chain-IsChain (next_at slots) first ids (length slots - len) chained (omega arith) in
      (record { counted = counted; chained = rw same chained; all = rw same all; numbered = numbered }, same)

  -- what an insert or a removal leaves: a sound arena in this state, and all other slots as they were
  pub record Leaves (slots new : List (Slot K T)) (capacity len : ℕ) (first : Option ℕ) (shown : ArenaState (Node K T)) (id : ℕ) : Type 0 where
    pub sound : IsStore new capacity len first
    pub state : state_of new capacity len first ≡ shown
    pub others : (other : ℕ) → other ≢ id → get_or (map node_of new) other None ≡ get_or (map node_of slots) other None

  module _ {slots : List (Slot K T)} {capacity len : ℕ} where
    -- a value goes into the slot that was vacated last
    pub fills : {first next : Option ℕ} {id : ℕ} (node : Node K T) → IsStore slots capacity len first → first ≡ Some id
        → next_at slots id ≡ Some next
        → Leaves slots (set slots id (Occupied node.links node.value)) capacity (len + 1) next (inserted node (state_of slots capacity len first)) id
    fills {first} {next} {id} node sound begins read = by_ids (vacated_of slots len first) refl sound.chained sound.all
      where
        by_ids : (ids : List ℕ) → vacated_of slots len first ≡ ids → IsChain (next_at slots) first ids → len + length ids ≡ length slots
            → Leaves slots (set slots id (Occupied node.links node.value)) capacity (len + 1) next (inserted node (state_of slots capacity len first)) id
        by_ids [] e h all = absurd (cc)
        by_ids (x ∷ rest) e h all =
            let a = h.0 in
            let same : x ≡ id = cc in
            let there : IsSome (next_at slots id) = rw read refl in
            let within = vacant_within slots id there in
            let whole : IsChain (next_at slots) (Some id) (id ∷ rest) =
            subst (λ link. IsChain (next_at slots) link (id ∷ rest)) begins (subst (λ y. IsChain (next_at slots) first (y ∷ rest)) same h) in
            let after : IsChain (next_at slots) next rest = subst (λ n. IsChain (next_at slots) (unwrap_or n None) rest) read whole.2 in
            let kept =
            IsChain-same (next_at slots) (next_at (set slots id (Occupied node.links node.value))) id (next-set_other slots id (Occupied node.links node.value)) next rest
            (first_is_off (next_at slots) id rest whole) after in
            let counted = count-set slots id (Occupied node.links node.value) within in
            let made : IsStore (set slots id (Occupied node.links node.value)) capacity (len + 1) next × (vacated_of (set slots id (Occupied node.links node.value)) (len + 1) next ≡ rest) =
            IsStore-from rest (omega (arith, sound.counted, rw (vacant_at slots id there) at counted)) kept (omega (arith, length-set slots id (Occupied node.links node.value))) sound.numbered in
            let fewer : capacity - (len + 1) ≡ capacity - len - 1 = omega arith in
            record {
              sound = made.0;
              state = rw (e, made.1, map-set node_of slots id (Occupied node.links node.value), fewer, same) refl;
              others = node-set_other slots id (Occupied node.links node.value);
            }

    -- where no slot is vacant, each has a value
    pub all_occupied : {first : Option ℕ} → IsStore slots capacity len first → first ≡ None → (vacated_of slots len first ≡ []) × (len ≡ length slots)
    all_occupied {first} sound none =
        let empty : vacated_of slots len first ≡ [] = rw none (chain-none (next_at slots) (length slots - len)) in
        (empty, omega (arith, rw empty at sound.all))

    -- a value goes into a new slot
    pub pushes : {first : Option ℕ} (node : Node K T) → IsStore slots capacity len first → first ≡ None
        → Leaves slots (slots ++ Occupied node.links node.value ∷ []) capacity (len + 1) first (inserted node (state_of slots capacity len first)) (length slots)
    pushes {first} node sound none =
        let full = all_occupied sound none in
        let pushed = map_push node_of slots (Occupied node.links node.value) in
        let counted : length (nodes_of (slots ++ Occupied node.links node.value ∷ [])) ≡ length (nodes_of slots) + 1 = rw pushed (length-values_push (map node_of slots) (Some node)) in
        let made : IsStore (slots ++ Occupied node.links node.value ∷ []) capacity (len + 1) first × (vacated_of (slots ++ Occupied node.links node.value ∷ []) (len + 1) first ≡ []) =
        IsStore-from [] (omega (arith, sound.counted)) none (omega (arith, length_push slots (Occupied node.links node.value), full.1)) sound.numbered in
        let fewer : capacity - (len + 1) ≡ capacity - len - 1 = omega arith in
        record {
          sound = made.0;
          state = rw (made.1, pushed, full.0, fewer) refl;
          others = λ other differs. rw pushed (push_other (map node_of slots) (Some node) other (λ e. differs (e ∙ length-map slots node_of)));
        }

    -- where a slot has a value, there is one
    pub some_value : {first : Option ℕ} (id : ℕ) → IsStore slots capacity len first → IsSome (get_or (map node_of slots) id None) → 1 ≤ len
    some_value {first} id sound here =
        let counted = count-set slots id (Vacant first) (occupied_within slots id here) in
        omega (arith, sound.counted, rw here at counted)

    -- a value goes, and its slot is the one vacated last
    pub vacates : {first : Option ℕ} (id : ℕ) → length slots ≤ capacity → IsStore slots capacity len first
        → IsSome (get_or (map node_of slots) id None)
        → Leaves slots (set slots id (Vacant first)) capacity (len - 1) (Some id) (removed id (state_of slots capacity len first)) id
    vacates {first} id room sound here =
        let ids = vacated_of slots len first in
        let within = occupied_within slots id here in
        let other = next-set_other slots id (Vacant first) in
        let tells : next_at (set slots id (Vacant first)) id ≡ Some first = next-set_same slots id (Vacant first) within in
        let kept =
        IsChain-same (next_at slots) (next_at (set slots id (Vacant first))) id other first ids
        (end_is_off (next_at slots) id first ids (occupied_ends slots id here) sound.chained) sound.chained in
        let counted = count-set slots id (Vacant first) within in
        let some = some_value id sound here in
        let made : IsStore (set slots id (Vacant first)) capacity (len - 1) (Some id) × (vacated_of (set slots id (Vacant first)) (len - 1) (Some id) ≡ id ∷ ids) =
        IsStore-from (id ∷ ids) (omega (arith, sound.counted, rw here at counted)) (refl, rw tells refl, rw tells kept)
        (omega (arith, sound.all, sound.counted, length-set slots id (Vacant first))) sound.numbered in
        let more : capacity - (len - 1) ≡ capacity - len + 1 = omega (arith, sound.all) in
        record {
          sound = made.0;
          state = rw (made.1, map-set node_of slots id (Vacant first), more) refl;
          others = node-set_other slots id (Vacant first);
        }

    -- another value is written into a slot that has one
    pub rewrites : {first : Option ℕ} (id : ℕ) (node : Node K T) → IsStore slots capacity len first → IsSome (get_or (map node_of slots) id None)
        → IsStore (set slots id (Occupied node.links node.value)) capacity len first × (state_of (set slots id (Occupied node.links node.value)) capacity len first ≡ with_value id node (state_of slots capacity len first))
    rewrites {first} id node sound here =
        let ids = vacated_of slots len first in
        let kept =
        IsChain-same (next_at slots) (next_at (set slots id (Occupied node.links node.value))) id (next-set_other slots id (Occupied node.links node.value)) first ids
        (end_is_off (next_at slots) id first ids (occupied_ends slots id here) sound.chained) sound.chained in
        let counted = count-set slots id (Occupied node.links node.value) (occupied_within slots id here) in
        let made : IsStore (set slots id (Occupied node.links node.value)) capacity len first × (vacated_of (set slots id (Occupied node.links node.value)) len first ≡ ids) =
        IsStore-from ids (omega (arith, sound.counted, rw here at counted)) kept (omega (arith, sound.all, length-set slots id (Occupied node.links node.value))) sound.numbered in
        (made.0, rw (made.1, map-set node_of slots id (Occupied node.links node.value)) refl)

    -- a node that is found in a slot is changed
    pub changes : {first : Option ℕ} {slot : Slot K T} (id : ℕ) (new : Slot K T) (change : Node K T → Node K T)
        → IsStore slots capacity len first → IsSome (get_or (map node_of slots) id None) → slot ≡ get_or slots id slot
        → node_of new ≡ option_map change (node_of slot)
        → IsStore (set slots id new) capacity len first × (state_of (set slots id new) capacity len first ≡ changed_at id change (state_of slots capacity len first))
    changes {first} {slot} id new change sound here found is = by_slots slot new (get_or-map node_of slots id slot None (occupied_within slots id here) ∙ ap node_of (sym found)) is
      where
        by_slots : (slot new : Slot K T) → get_or (map node_of slots) id None ≡ node_of slot → node_of new ≡ option_map change (node_of slot)
            → IsStore (set slots id new) capacity len first × (state_of (set slots id new) capacity len first ≡ changed_at id change (state_of slots capacity len first))
        by_slots (Vacant next) new none is = let there = rw none at here in absurd (cc)
        by_slots (Occupied links value) (Vacant next) some is = absurd (cc)
        by_slots (Occupied links value) (Occupied new_links new_value) some is =
            let node : Node K T = record { links = links; value = value } in
            let same : (let made : Node K T = record { links = new_links; value = new_value } in made) ≡ change node = Some-injective is in
            let made = rewrites id (change node) sound here in
            rw (ap (λ (n : Node K T). n.links) same, ap (λ (n : Node K T). n.value) same, some) made

  -- what is found in a slot is what it has
  pub found_node : (slots : List (Slot K T)) (id : ℕ) (slot : Slot K T) → IsSome (get_or (map node_of slots) id None) → slot ≡ get_or slots id slot
      → get_or (map node_of slots) id None ≡ node_of slot
  found_node slots id slot here is = get_or-map node_of slots id slot None (occupied_within slots id here) ∙ ap node_of (sym is)

  pub with_slot_value-node_of : (value : T) (slot : Slot K T) → node_of (with_slot_value value slot) ≡ option_map (with_node_value value) (node_of slot)
  with_slot_value-node_of value (Vacant next) = refl
  with_slot_value-node_of value (Occupied links last) = refl

  pub with_slot_links-node_of : (links : K) (slot : Slot K T) → node_of (with_slot_links links slot) ≡ option_map (with_node_links links) (node_of slot)
  with_slot_links-node_of links (Vacant next) = refl
  with_slot_links-node_of links (Occupied last value) = refl
