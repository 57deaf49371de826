-- What is found in an arena after a change, and in one with each value mapped.
use Rattle.std.proofs.Common.{◌≡◌, ◌≢◌, refl, ℕ, ◌+◌, ◌<◌, List, [], ◌∷◌, length, map, drop}
use Rattle.std.proofs.Common.{get_or, set, arith, ap, sym, ◌∙◌, Option, Some, None, IsSome, Bool, false, cond, count_by, suc, zero, length-set}
use Rattle.std.specs.Prelude.{filter_map}
use Rattle.std.specs.Option.{option_map, option_map_or}
use Rattle.std.proofs.lemmas.List.{map-set, map_push, length-map, get_or-set_same, get_or-set_other, get_or_past, set-get_or}
use Rattle.std.proofs.lemmas.List.Sums.{sum_by-set, sum_by_push}
use Rattle.band_line.specs.Arena.{ArenaState, IsRewritten, arena_map, value_at, occupied_len, next_slot, filled, inserted, with_value, removed}
use Rattle.band_line.specs.Store.{changed_at}
use Rattle.band_line.proofs.ArenaLemmas.{length-values-set, push_other}

module _ {A : Type 0} (arena : ArenaState A) where
  pub there : (id : ℕ) (value : A) → value_at id arena ≡ Some value → id < length arena.slots
  there id value here = let found = here in grind (arith, get_or_past)

  pub value_at-with_value : (id : ℕ) (value : A) → IsSome (value_at id arena) → value_at id (with_value id value arena) ≡ Some value
  value_at-with_value id value here = get_or-set_same arena.slots id (Some value) None (let found = here in grind (arith, get_or_past))

  pub value_at-with_value_other : (id other : ℕ) (value : A) → other ≢ id → value_at other (with_value id value arena) ≡ value_at other arena
  value_at-with_value_other id other value differs = get_or-set_other arena.slots id other (Some value) None differs

  pub value_at-inserted_other : (value : A) (other : ℕ) → other ≢ next_slot arena → value_at other (inserted value arena) ≡ value_at other arena
  value_at-inserted_other value other = at arena.vacated
    where
      at : (vacated : List ℕ) → other ≢ get_or vacated 0 (length arena.slots) → get_or (filled value arena.slots vacated) other None ≡ get_or arena.slots other None
      at [] elsewhere = push_other arena.slots (Some value) other elsewhere
      at (id ∷ rest) elsewhere = get_or-set_other arena.slots id other (Some value) None elsewhere

  pub occupied_len-with_value : (id : ℕ) (value : A) → IsSome (value_at id arena) → occupied_len (with_value id value arena) ≡ occupied_len arena
  occupied_len-with_value id value here =
      let within : id < length arena.slots = let found = here in grind (arith, get_or_past) in
      let counted = length-values-set arena.slots id (Some value) within in
      omega (arith, rw here at counted)

  pub rewritten : (id : ℕ) (value : A) → IsSome (value_at id arena) → IsRewritten id value arena (with_value id value arena)
  rewritten id value here = record {
    value = value_at-with_value id value here;
    others = λ other differs. value_at-with_value_other id other value differs;
    len = occupied_len-with_value id value here;
  }

  module _ (id : ℕ) (change : A → A) where
    -- by what is found in the slot
    changed_same : (found : Option A) → value_at id arena ≡ found → value_at id (option_map_or (λ value. with_value id (change value) arena) found arena) ≡ option_map change found
    changed_same None e = e
    changed_same (Some value) e = value_at-with_value id (change value) (rw e refl)

    changed_other : (found : Option A) (other : ℕ) → other ≢ id → value_at other (option_map_or (λ value. with_value id (change value) arena) found arena) ≡ value_at other arena
    changed_other None other differs = refl
    changed_other (Some value) other differs = value_at-with_value_other id other (change value) differs

    pub value_at-changed_at : value_at id (changed_at id change arena) ≡ option_map change (value_at id arena)
    value_at-changed_at = changed_same (value_at id arena) refl

    pub value_at-changed_at_other : (other : ℕ) → other ≢ id → value_at other (changed_at id change arena) ≡ value_at other arena
    value_at-changed_at_other other differs = changed_other (value_at id arena) other differs

  -- a count of the slots
  module _ (p : Option A → Bool) where
    abbrev one : Option A → ℕ
    one slot = cond (p slot) 1 0

    count-set : (id : ℕ) (slot : Option A) → id < length arena.slots → count_by p (set arena.slots id slot) + one (value_at id arena) ≡ count_by p arena.slots + one slot
    count-set id slot within = sum_by-set one arena.slots id slot None within

    pub count-with_value : (id : ℕ) (old value : A) → value_at id arena ≡ Some old → count_by p (with_value id value arena).slots + one (Some old) ≡ count_by p arena.slots + one (Some value)
    count-with_value id old value here = rw here at (count-set id (Some value) (there id old here))

    pub count-removed : (id : ℕ) (old : A) → p None ≡ false → value_at id arena ≡ Some old → count_by p (removed id arena).slots + one (Some old) ≡ count_by p arena.slots
    count-removed id old none here =
        let counted : count_by p (removed id arena).slots + one (Some old) ≡ count_by p arena.slots + one None = rw here at (count-set id None (there id old here)) in
        let nothing : one None ≡ 0 = ap (λ b. cond b 1 0) none in
        omega (arith, counted, nothing)

    -- an insert fills a slot that was vacant
    count-filled : (value : A) (vacated : List ℕ) → p None ≡ false → get_or arena.slots (get_or vacated 0 (length arena.slots)) None ≡ None
        → get_or (filled value arena.slots vacated) (get_or vacated 0 (length arena.slots)) None ≡ Some value
        → count_by p (filled value arena.slots vacated) ≡ count_by p arena.slots + one (Some value)
    count-filled value [] none vacant here = sum_by_push one arena.slots (Some value)
    count-filled value (id ∷ rest) none vacant here =
        let within : id < length (set arena.slots id (Some value)) = let found = here in grind (arith, get_or_past) in
        let counted = count-set id (Some value) (omega (arith, length-set arena.slots id (Some value))) in
        let nothing : one (value_at id arena) ≡ 0 = rw vacant (ap (λ b. cond b 1 0) none) in
        omega (arith, counted, nothing)

    pub count-inserted : (value : A) → p None ≡ false → value_at (next_slot arena) arena ≡ None
        → value_at (next_slot arena) (inserted value arena) ≡ Some value
        → count_by p (inserted value arena).slots ≡ count_by p arena.slots + one (Some value)
    count-inserted value none vacant here = count-filled value arena.vacated none vacant here

-- a value that is written again changes nothing
pub with_value-same : {A : Type 0} (arena : ArenaState A) (id : ℕ) (value : A) → value_at id arena ≡ Some value → with_value id value arena ≡ arena
with_value-same arena id value here =
    let same : set arena.slots id (Some value) ≡ arena.slots = ap (set arena.slots id) (sym here) ∙ set-get_or arena.slots id None in
    ap (λ slots. record arena { slots = slots }) same

module _ {A B : Type 0} (f : A → B) (arena : ArenaState A) where
  pub value_at-arena_map : (id : ℕ) → value_at id (arena_map f arena) ≡ option_map f (value_at id arena)
  value_at-arena_map id = at arena.slots id
    where
      at : (slots : List (Option A)) (id : ℕ) → get_or (map (option_map f) slots) id None ≡ option_map f (get_or slots id None)
      at [] id = refl
      at (slot ∷ rest) zero = refl
      at (slot ∷ rest) (suc id) = at rest id

  pub occupied_len-arena_map : occupied_len (arena_map f arena) ≡ occupied_len arena
  occupied_len-arena_map = at arena.slots
    where
      at : (slots : List (Option A)) → length (filter_map (λ slot. slot) (map (option_map f) slots)) ≡ length (filter_map (λ slot. slot) slots)
      at [] = refl
      at (None ∷ rest) = at rest
      at (Some value ∷ rest) = ap suc (at rest)

  pub next_slot-arena_map : next_slot (arena_map f arena) ≡ next_slot arena
  next_slot-arena_map = ap (get_or arena.vacated 0) (length-map arena.slots (option_map f))

  pub arena_map-inserted : (value : A) → arena_map f (inserted value arena) ≡ inserted (f value) (arena_map f arena)
  arena_map-inserted value = ap (λ slots. record { slots = slots; vacated = drop 1 arena.vacated; spare = (inserted value arena).spare }) (at arena.vacated)
    where
      at : (vacated : List ℕ) → map (option_map f) (filled value arena.slots vacated) ≡ filled (f value) (map (option_map f) arena.slots) vacated
      at [] = map_push (option_map f) arena.slots (Some value)
      at (id ∷ rest) = map-set (option_map f) arena.slots id (Some value)

  pub arena_map-with_value : (id : ℕ) (value : A) → arena_map f (with_value id value arena) ≡ with_value id (f value) (arena_map f arena)
  arena_map-with_value id value = ap (λ slots. record { slots = slots; vacated = arena.vacated; spare = arena.spare }) (map-set (option_map f) arena.slots id (Some value))

  pub arena_map-removed : (id : ℕ) → arena_map f (removed id arena) ≡ removed id (arena_map f arena)
  arena_map-removed id = ap (λ slots. record { slots = slots; vacated = id ∷ arena.vacated; spare = (removed id arena).spare }) (map-set (option_map f) arena.slots id None)

  -- a change that f doesn't see
  pub arena_map-changed_at : (id : ℕ) (change : A → A) → ((value : A) → f (change value) ≡ f value) → arena_map f (changed_at id change arena) ≡ arena_map f arena
  arena_map-changed_at id change same = at (value_at id arena) refl
    where
      at : (found : Option A) → value_at id arena ≡ found → arena_map f (option_map_or (λ value. with_value id (change value) arena) found arena) ≡ arena_map f arena
      at None e = refl
      at (Some value) e =
          arena_map-with_value id (change value) ∙ ap (λ v. with_value id v (arena_map f arena)) (same value)
          ∙ with_value-same (arena_map f arena) id (f value) (value_at-arena_map id ∙ ap (option_map f) e)
