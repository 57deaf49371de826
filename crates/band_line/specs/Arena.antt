-- What a contract sees of an arena, and what each call makes of it.
use Rattle.std.specs.Prelude.{◌≡◌, ◌≢◌, ℕ, ◌+◌, ◌-◌, ◌<◌, ◌≤◌, Bool, true, nat_eq, ◌==◌, List, [], ◌∷◌, ◌++◌, length, drop, map, filter_map, Option, Some, None, IsSome, slice_index_or, slice_set}
use Rattle.std.specs.List.{list_any, IsDistinct}
use Rattle.std.specs.Option.{option_map}

-- slots have numbers below this one, so there are no more
abbrev pub slot_limit : ℕ
slot_limit = 0xffff_fffe

-- what each slot has, a value or nothing; the vacated slots, the latest first; and how many inserts need
-- no memory
pub record ArenaState (T : Type 0) : Type 0 where
  pub slots : List (Option T)
  pub vacated : List ℕ
  pub spare : ℕ

module _ {T : Type 0} where
  abbrev pub empty_arena : ArenaState T
  empty_arena = record { slots = []; vacated = []; spare = 0 }

  -- the value in a slot, if there is one
  abbrev pub value_at : ℕ → ArenaState T → Option T
  value_at id arena = slice_index_or arena.slots id None

  -- the values, by their slots
  abbrev pub values : ArenaState T → List T
  values arena = filter_map (λ slot. slot) arena.slots

  abbrev pub occupied_len : ArenaState T → ℕ
  occupied_len arena = length (values arena)

  abbrev pub is_vacated : ℕ → ArenaState T → Bool
  is_vacated id arena = list_any (λ other. other == id) arena.vacated

  -- what holds of every arena: the vacated slots are those of its slots that have no value, each stands there
  -- once, and is room; and values and room together are no more than there are numbers of slots
  pub record IsSoundArena (arena : ArenaState T) : Type 0 where
    pub here : (id : ℕ) → IsSome (value_at id arena) → id < length arena.slots
    pub within : (id : ℕ) → is_vacated id arena ≡ true → id < length arena.slots
    pub vacant : (id : ℕ) → is_vacated id arena ≡ true → value_at id arena ≡ None
    pub only : (id : ℕ) → id < length arena.slots → value_at id arena ≡ None → is_vacated id arena ≡ true
    pub once : IsDistinct nat_eq arena.vacated
    pub all : occupied_len arena + length arena.vacated ≡ length arena.slots
    pub room : length arena.slots ≤ occupied_len arena + arena.spare
    pub numbered : occupied_len arena + arena.spare ≤ slot_limit

  -- each value is still in its slot
  abbrev pub KeepsValues : ArenaState T → ArenaState T → Type 0
  KeepsValues old new = (id : ℕ) → IsSome (value_at id old) → value_at id new ≡ value_at id old

  -- each other slot has what it had
  abbrev pub KeepsOthers : ℕ → ArenaState T → ArenaState T → Type 0
  KeepsOthers id old new = (other : ℕ) → other ≢ id → value_at other new ≡ value_at other old

  -- the slot of the next insert: the one that was vacated last, or else a new one
  abbrev pub next_slot : ArenaState T → ℕ
  next_slot arena = slice_index_or arena.vacated 0 (length arena.slots)

  -- the slots once a value is put into the first of these vacant ones, or else into a new one
  abbrev pub filled : T → List (Option T) → List ℕ → List (Option T)
  filled value slots [] = slots ++ Some value ∷ []
  filled value slots (id ∷ others) = slice_set slots id (Some value)

  abbrev pub inserted : T → ArenaState T → ArenaState T
  inserted value arena = record {
    slots = filled value arena.slots arena.vacated;
    vacated = drop 1 arena.vacated;
    spare = arena.spare - 1;
  }

  -- after another value was written into a slot that has one
  abbrev pub with_value : ℕ → T → ArenaState T → ArenaState T
  with_value id value arena = record arena { slots = slice_set arena.slots id (Some value) }

  -- a value that was in a slot is another now
  pub record IsRewritten (id : ℕ) (last : T) (old new : ArenaState T) : Type 0 where
    pub value : value_at id new ≡ Some last
    pub others : KeepsOthers id old new
    pub len : occupied_len new ≡ occupied_len old

  abbrev pub removed : ℕ → ArenaState T → ArenaState T
  removed id arena = record {
    slots = slice_set arena.slots id None;
    vacated = id ∷ arena.vacated;
    spare = arena.spare + 1;
  }

  -- with other room
  abbrev pub with_room : ℕ → ArenaState T → ArenaState T
  with_room spare arena = record arena { spare = spare }

-- the same with each value mapped
abbrev pub arena_map : {A B : Type 0} → (A → B) → ArenaState A → ArenaState B
arena_map f arena = record {
  slots = map (option_map f) arena.slots;
  vacated = arena.vacated;
  spare = arena.spare;
}
