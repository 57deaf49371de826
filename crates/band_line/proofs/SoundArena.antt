-- What holds of every arena.
use Rattle.std.proofs.Common.{◌≡◌, ◌≢◌, refl, ℕ, ◌+◌, ◌<◌, ◌≤◌, map, get_or, set, count_by, cond, not, List, [], ◌∷◌, length, arith, ap, sym, ◌∙◌, subst, length-set, Option, Some, None, IsSome, is_some, Bool, true, false}
use Rattle.std.specs.Prelude.{◌==◌, filter_map, unwrap_or}
use Rattle.std.specs.List.{IsDistinct, AllByRecursion}
use Rattle.std.specs.Option.{option_map}
use Rattle.std.proofs.lemmas.Bool.Decides.{nat_tests}
use Rattle.std.proofs.lemmas.List.{length-map, get_or-map, get_or-set_other, get_or_past}
use Rattle.std.proofs.lemmas.List.Sums.{sum_by-set, sum_by-cons}
use Rattle.band_line.specs.Arena.{ArenaState, IsSoundArena, empty_arena, with_room, with_value, arena_map, value_at, slot_limit}
use Rattle.band_line.specs.Line.{AreApart}
use Rattle.band_line.specs.Slots.{IsChain, node_of, next_at, vacated_of, state_of, IsStore}
use Rattle.band_line.specs.declared.store.Slot.{Slot}
use Rattle.band_line.proofs.ArenaLemmas.{occupied_within, vacant_within, vacant_at, differs}
use Rattle.band_line.proofs.ArenaMaps.{value_at-arena_map, value_at-with_value, value_at-with_value_other, occupied_len-arena_map, occupied_len-with_value}
use Rattle.band_line.proofs.Chains.{first_is_off}
use Rattle.band_line.proofs.Linking.{is_in, IsOff-is_in, AreApart-IsDistinct}

-- no slot is twice in a chain
AreApart-IsChain : (next : ℕ → Option (Option ℕ)) (first : Option ℕ) (ids : List ℕ) → IsChain next first ids → AreApart ids
AreApart-IsChain next first [] h = tt
AreApart-IsChain next first (id ∷ rest) h = (first_is_off next id rest (refl, h.1, h.2), AreApart-IsChain next _ rest h.2)

-- each slot of a chain tells a next
chain_tells : (next : ℕ → Option (Option ℕ)) (first : Option ℕ) (ids : List ℕ) (id : ℕ) → IsChain next first ids → is_in id ids ≡ true → IsSome (next id)
chain_tells next first [] id h e = absurd (cc)
chain_tells next first (x ∷ xs) id h e = by_first (x == id) refl e (λ among. chain_tells next _ xs id h.2 among)
  where
    by_first : (same : Bool) → (x == id) ≡ same → is_in id (x ∷ xs) ≡ true → (is_in id xs ≡ true → IsSome (next id)) → IsSome (next id)
    by_first true is among rest = let same : x ≡ id = grind (arith, nat_tests) in subst (λ y. IsSome (next y)) same h.1
    by_first false is among rest = rest (rw is at among)

-- these are marked, each for itself, so there are as many marks
as_many_marks : (marks : List Bool) (ids : List ℕ) → AreApart ids → AllByRecursion (λ id. get_or marks id false ≡ true) ids → length ids ≤ count_by (λ mark. mark) marks
as_many_marks marks [] apart marked = omega arith
as_many_marks marks (x ∷ xs) apart marked =
    let within : x < length marks = let here = marked.0 in grind (arith, get_or_past) in
    let counted = sum_by-set (λ mark. cond mark 1 0) marks x false false within in
    omega (arith, rw marked.0 at counted, as_many_marks (set marks x false) xs apart.1 (kept xs apart.0 marked.1))
  where
    kept : (ids : List ℕ) → AllByRecursion (λ other. other ≢ x) ids → AllByRecursion (λ id. get_or marks id false ≡ true) ids
        → AllByRecursion (λ id. get_or (set marks x false) id false ≡ true) ids
    kept [] off marked = tt
    kept (y ∷ ys) off marked = (get_or-set_other marks x y false false off.0 ∙ marked.0, kept ys off.1 marked.1)

module _ {T : Type 0} where
  abbrev is_vacant : Option T → Bool
  is_vacant slot = not (is_some slot)

  -- each slot has a value or is vacant
  vacant_or_not : (slots : List (Option T)) → count_by (λ mark. mark) (map is_vacant slots) + length (filter_map (λ slot. slot) slots) ≡ length slots
  vacant_or_not [] = refl
  vacant_or_not (None ∷ rest) = omega (arith, vacant_or_not rest, sum_by-cons (λ mark. cond mark 1 0) true (map is_vacant rest))
  vacant_or_not (Some value ∷ rest) = omega (arith, vacant_or_not rest, sum_by-cons (λ mark. cond mark 1 0) false (map is_vacant rest))

  is_marked : (slots : List (Option T)) (id : ℕ) → id < length slots → get_or slots id None ≡ None → get_or (map is_vacant slots) id false ≡ true
  is_marked slots id within none = get_or-map is_vacant slots id None false within ∙ ap is_vacant none

  -- where there are as many vacated slots as have no value, those are all
  all_vacated : (slots : List (Option T)) (ids : List ℕ) → AreApart ids → AllByRecursion (λ id. get_or (map is_vacant slots) id false ≡ true) ids
      → length (filter_map (λ slot. slot) slots) + length ids ≡ length slots → (id : ℕ) → id < length slots → get_or slots id None ≡ None → is_in id ids ≡ true
  all_vacated slots ids apart marked all id within none = by_test (is_in id ids) refl
    where
      by_test : (among : Bool) → is_in id ids ≡ among → is_in id ids ≡ true
      by_test true e = e
      by_test false e =
          let more = as_many_marks (map is_vacant slots) (id ∷ ids) (IsOff-is_in id ids e, apart) (is_marked slots id within none, marked) in
          absurd (omega (arith, more, vacant_or_not slots, all))

module _ {K T : Type 0} where
  chain_marked : (slots : List (Slot K T)) (first : Option ℕ) (ids : List ℕ) → IsChain (next_at slots) first ids
      → AllByRecursion (λ id. get_or (map is_vacant (map node_of slots)) id false ≡ true) ids
  chain_marked slots first [] h = tt
  chain_marked slots first (id ∷ rest) h =
      let within = vacant_within slots id h.1 in
      (is_marked (map node_of slots) id (omega (arith, length-map slots node_of)) (vacant_at slots id h.1), chain_marked slots (unwrap_or (next_at slots id) None) rest h.2)

pub sound_arena : {K T : Type 0} {slots : List (Slot K T)} {capacity len : ℕ} {first : Option ℕ} → length slots ≤ capacity
    → IsStore slots capacity len first → IsSoundArena (state_of slots capacity len first)
sound_arena {K} {T} {slots} {capacity} {len} {first} fits sound =
    let many = length-map slots node_of in
    let ids = vacated_of slots len first in
    let apart = AreApart-IsChain (next_at slots) first ids sound.chained in
    record {
      here = λ id here. omega (arith, many, occupied_within slots id here);
      within = λ id among. omega (arith, many, vacant_within slots id (chain_tells (next_at slots) first ids id sound.chained among));
      vacant = λ id among. vacant_at slots id (chain_tells (next_at slots) first ids id sound.chained among);
      only = all_vacated (map node_of slots) ids apart (chain_marked slots first ids sound.chained) (omega (arith, many, sound.counted, sound.all));
      once = AreApart-IsDistinct ids apart;
      all = omega (arith, many, sound.counted, sound.all);
      room = omega (arith, many, sound.counted, sound.all);
      numbered = omega (arith, sound.counted, sound.all, sound.numbered);
    }

-- the same arena with each value mapped
pub sound_mapped : {A B : Type 0} (f : A → B) (arena : ArenaState A) → IsSoundArena arena → IsSoundArena (arena_map f arena)
sound_mapped {A} {B} f arena sound =
    let many = length-map arena.slots (option_map f) in
    let counted = occupied_len-arena_map f arena in
    record {
      here = λ id here. omega (arith, many, sound.here id (was (value_at id arena) (ap is_some (sym (value_at-arena_map f arena id)) ∙ here)));
      within = λ id among. omega (arith, many, sound.within id among);
      vacant = λ id among. value_at-arena_map f arena id ∙ ap (option_map f) (sound.vacant id among);
      only = λ id within none. sound.only id (omega (arith, many)) (had_none (value_at id arena) (sym (value_at-arena_map f arena id) ∙ none));
      once = sound.once;
      all = omega (arith, many, counted, sound.all);
      room = omega (arith, many, counted, sound.room);
      numbered = omega (arith, counted, sound.numbered);
    }
  where
    was : (slot : Option A) → IsSome (option_map f slot) → IsSome slot
    was None h = absurd (cc)
    was (Some value) h = refl

    had_none : (slot : Option A) → option_map f slot ≡ None → slot ≡ None
    had_none None h = refl
    had_none (Some value) h = absurd (cc)

-- another value in a slot that has one
pub sound_with_value : {T : Type 0} (arena : ArenaState T) (id : ℕ) (value : T) → IsSome (value_at id arena) → IsSoundArena arena → IsSoundArena (with_value id value arena)
sound_with_value {T} arena id value there sound =
    let many = length-set arena.slots id (Some value) in
    let counted = occupied_len-with_value arena id value there in
    let new = with_value id value arena in
    let found : IsSome (value_at id new) = ap is_some (value_at-with_value arena id value there) in
    let other_slot : (other : ℕ) → other ≢ id → value_at other new ≡ value_at other arena = λ other apart. value_at-with_value_other arena id other value apart in
    record {
      here = λ other here. let filled = here in grind (arith, get_or_past);
      within = λ other among. omega (arith, many, sound.within other among);
      vacant = λ other among.
          let none = sound.vacant other among in
          other_slot other (λ same. differs arena.slots other id none there (sym same)) ∙ none;
      only = λ other within none.
          let apart : other ≢ id = λ same. differs new.slots other id none found (sym same) in
          sound.only other (omega (arith, many, within)) (sym (other_slot other apart) ∙ none);
      once = sound.once;
      all = omega (arith, many, counted, sound.all);
      room = omega (arith, many, counted, sound.room);
      numbered = omega (arith, counted, sound.numbered);
    }

-- an arena without slots, and with room that there may be
pub sound_room : {T : Type 0} (spare : ℕ) → spare ≤ slot_limit → IsSoundArena (with_room spare (empty_arena {T = T}))
unfolding IsDistinct
sound_room spare fits = record {
  here = λ id here. absurd (cc);
  within = λ id among. absurd (cc);
  vacant = λ id among. refl;
  only = λ id within none. absurd (omega arith);
  once = tt;
  all = omega arith;
  room = omega arith;
  numbered = omega (arith, fits);
}

pub sound_empty : {T : Type 0} → IsSoundArena (empty_arena {T = T})
sound_empty = sound_room 0 (omega arith)
