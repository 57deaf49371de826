-- What a contract sees of a wait list, and what each call makes of it.
use Rattle.std.specs.Prelude.{◌≡◌, ◌≢◌, ℕ, ◌+◌, Bool, true, false, not, nat_eq, ◌==◌, List, [], ◌∷◌, ◌++◌, length, filter, drop, Option, Some, None, IsSome, MatchOption, slice_get}
use Rattle.std.specs.List.{list_any, IsDistinct}
use Rattle.std.specs.Option.{option_and_then}
use Rattle.std.specs.Borrow.{MutBor}
use Rattle.std.specs.Fn.{Once, FnOnceReturnsAtMut}
use Rattle.band_line.specs.Arena.{ArenaState, KeepsOthers, occupied_len, empty_arena, value_at, next_slot, inserted, with_value, removed, with_room}

-- the values of all nodes, and the slots of the linked ones, from the front to the back
pub record WaitListState (T : Type 0) : Type 0 where
  pub nodes : ArenaState T
  pub linked : List ℕ

module _ {T : Type 0} where
  abbrev pub empty_list : WaitListState T
  empty_list = record { nodes = empty_arena; linked = [] }

  -- the value of a node, linked or detached
  abbrev pub waiter_at : ℕ → WaitListState T → Option T
  waiter_at id list = value_at id list.nodes

  abbrev pub is_linked : ℕ → WaitListState T → Bool
  is_linked id list = list_any (λ other. other == id) list.linked

  -- the node at the front
  abbrev pub first_waiter : WaitListState T → Option ℕ
  first_waiter list = slice_get list.linked 0

  abbrev pub first_value : WaitListState T → Option T
  first_value list = option_and_then (λ id. waiter_at id list) (first_waiter list)

  -- what holds of every wait list: who is linked has a value, and is linked once
  pub record IsWaitList (list : WaitListState T) : Type 0 where
    pub here : (id : ℕ) → is_linked id list ≡ true → IsSome (waiter_at id list)
    pub once : IsDistinct nat_eq list.linked

  -- a node that was unlinked, and not removed
  pub record IsDetached (id : ℕ) (list : WaitListState T) : Type 0 where
    pub here : IsSome (waiter_at id list)
    pub not_linked : is_linked id list ≡ false

  abbrev pub pushed_front : T → WaitListState T → WaitListState T
  pushed_front value list = record {
    nodes = inserted value list.nodes;
    linked = next_slot list.nodes ∷ list.linked;
  }

  abbrev pub pushed_back : T → WaitListState T → WaitListState T
  pushed_back value list = record {
    nodes = inserted value list.nodes;
    linked = list.linked ++ next_slot list.nodes ∷ [];
  }

  -- after another value was written into a node
  abbrev pub with_waiter : ℕ → T → WaitListState T → WaitListState T
  with_waiter id value list = record list { nodes = with_value id value list.nodes }

  -- the node is not linked, and keeps its value
  abbrev pub detached : ℕ → WaitListState T → WaitListState T
  detached id list = record list { linked = filter (λ other. not (other == id)) list.linked }

  -- a node that answered true is not linked, and has the value that was left in it last
  abbrev pub unlinked : ℕ → T → WaitListState T → WaitListState T
  unlinked id value list = with_waiter id value (detached id list)

  -- a node is linked, and each other is linked if it was
  pub record Joins (id : ℕ) (old new : WaitListState T) : Type 0 where
    pub linked : is_linked id new ≡ true
    pub others : (other : ℕ) → other ≢ id → is_linked other new ≡ is_linked other old

  -- another value was written into a node
  pub record IsWritten (id : ℕ) (last : T) (old new : WaitListState T) : Type 0 where
    pub state : new ≡ with_waiter id last old
    pub value : waiter_at id new ≡ Some last
    pub others : KeepsOthers id old.nodes new.nodes
    pub linked : new.linked ≡ old.linked
    pub len : occupied_len new.nodes ≡ occupied_len old.nodes
    pub spare : new.nodes.spare ≡ old.nodes.spare

  -- a node answered true, and this is the value that was left in it last. Where it was detached already, the
  -- line is as it was
  pub record IsUnlinked (id : ℕ) (last : T) (old new : WaitListState T) : Type 0 where
    pub state : new ≡ unlinked id last old
    pub detached : IsDetached id new
    pub value : waiter_at id new ≡ Some last
    pub others : KeepsOthers id old.nodes new.nodes
    pub linked : (other : ℕ) → other ≢ id → is_linked other new ≡ is_linked other old
    pub first : first_waiter old ≡ Some id → new.linked ≡ drop 1 old.linked
    pub fewer : is_linked id old ≡ true → length new.linked + 1 ≡ length old.linked
    pub already : is_linked id old ≡ false → new.linked ≡ old.linked
    pub len : occupied_len new.nodes ≡ occupied_len old.nodes
    pub spare : new.nodes.spare ≡ old.nodes.spare

  -- the node is gone
  abbrev pub removed_waiter : ℕ → WaitListState T → WaitListState T
  removed_waiter id list = record list { nodes = removed id list.nodes }

  -- with other room
  abbrev pub with_list_room : ℕ → WaitListState T → WaitListState T
  with_list_room spare list = record list { nodes = with_room spare list.nodes }

module _ {T F : Type 0} (g : Once F (MutBor T × Unit {0}) (Bool × (MutBor T × Unit {0}))) (f : F) where
  -- f may give this answer at a `&mut` to the value, and leave that one there
  abbrev pub AnswersLeaving : Option T → Bool → T → Type 0
  AnswersLeaving None answer left = ⊥
  AnswersLeaving (Some before) answer left = FnOnceReturnsAtMut g f before answer left

  -- f answered false: only the value that it left is new
  abbrev pub KeepsWaiter : ℕ → WaitListState T → WaitListState T → Type 0
  KeepsWaiter id old new =
      (left : T) × AnswersLeaving (waiter_at id old) false left × IsWritten id left old new

  -- nobody was asked where nobody is linked
  abbrev pub KeepsFirst : WaitListState T → WaitListState T → Type 0
  KeepsFirst old new = MatchOption (first_waiter old) (new ≡ old) (λ id. KeepsWaiter id old new)
