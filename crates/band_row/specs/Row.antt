-- What a contract sees of a row, and what each call makes of it.
use Rattle.std.specs.Prelude.{◌≡◌, ℕ, ◌+◌, ◌-◌, ◌*◌, ◌<◌, ◌≤◌, Bool, true, false, ◌==◌, List, [], ◌∷◌, ◌++◌, map, length, ℤ, pos, ◌+ℤ◌, ◌≤ℤ◌, Option, Some, None, IsSome, if◌then◌else◌, Result, Ok, Err}
use Rattle.std.specs.List.Sorted.{IsPermutation}
use Rattle.std.specs.Option.{option_map, option_map_or}
use Rattle.std.specs.declared.alloc.AllocError.{AllocError}
use Rattle.band_balance.specs.Line.{Entry, entry_of, requests, total, entry_named, without, u64_max}
use Rattle.band_partial.specs.PartialLine.{Node, PartialLine, AreAlikeParts, AreInOrder, debt, debts, free_of, line_of, requests_of}
use Rattle.band_partial.specs.Moves.{enqueue, owe, collect, leave_new_waker, cancel_request, end_requests}
use Rattle.band_line.specs.WaitList.{WaitListState, IsWaitList, waiter_at, is_linked}
use Rattle.band_base.specs.declared.waker.Waker.{Waker}
use Rattle.band_row.specs.declared.row.Found.{Found}
use Rattle.band_row.specs.declared.row.Found.TheVariants.{Waits, Granted, Ended}
use Rattle.band_row.specs.declared.wait_node.WaitNode.{WaitNode}

-- what is available, the list of nodes, and the wakers to wake, the oldest first
pub record RowState : Type 0 where
  pub word : ℕ
  pub list : WaitListState WaitNode
  pub wakes : List ℕ

abbrev pub is_slot : ℕ → ℕ → Bool
is_slot slot name = slot == name

-- what the value of a slot stands for
abbrev pub node_of : ℕ → WaitNode → Node
node_of slot node = record {
  slot = slot;
  size = node.size;
  needed = node.needed;
  waker = option_map (λ waker. waker.0) node.waker;
}

abbrev pub node_at : WaitListState WaitNode → ℕ → Node
node_at list slot = option_map_or (node_of slot) (waiter_at slot list) (debt slot 0 0)

-- the linked nodes, from the front to the back
abbrev pub linked_nodes : WaitListState WaitNode → List Node
linked_nodes list = map (node_at list) list.linked

-- how much was granted to a node: one that needs nothing has its size
abbrev pub granted_to : WaitNode → Option ℕ
granted_to node = if node.needed == 0 then Some node.size else None

-- how much a node asked for that was ended
abbrev pub ended_of_node : WaitNode → Option ℕ
ended_of_node node = if node.ended then Some node.size else None

abbrev pub size_by : (WaitNode → Option ℕ) → Option WaitNode → Option ℕ
size_by size None = None
size_by size (Some node) = size node

abbrev pub with_entry : ℕ → Option ℕ → List (Entry ℕ) → List (Entry ℕ)
with_entry slot None entries = entries
with_entry slot (Some size) entries = record { name = slot; size = size } ∷ entries

-- the nodes that have such a size, by their slots
abbrev pub entries_from : (WaitNode → Option ℕ) → ℕ → List (Option WaitNode) → List (Entry ℕ)
entries_from size slot [] = []
entries_from size slot (first ∷ rest) = with_entry slot (size_by size first) (entries_from size (slot + 1) rest)

-- those granted
abbrev pub granted_of : WaitListState WaitNode → List (Entry ℕ)
granted_of list = entries_from granted_to 0 list.nodes.slots

-- those ended
abbrev pub ended_of : WaitListState WaitNode → List (Entry ℕ)
ended_of list = entries_from ended_of_node 0 list.nodes.slots

-- the partial line that a row is
abbrev pub part : RowState → PartialLine
part row = record {
  word = row.word;
  nodes = linked_nodes row.list;
  granted = granted_of row.list;
  wakes = row.wakes;
}

-- a node that is not linked was granted, and needs nothing, or it was ended
abbrev pub NeedsAs : Bool → ℕ → Type 0
NeedsAs false needed = needed ≡ 0
NeedsAs true needed = 0 < needed

-- its waker was handed over
pub record IsAnswered (node : WaitNode) : Type 0 where
  pub needs : NeedsAs node.ended node.needed
  pub no_waker : node.waker ≡ None
  pub some : 0 < node.size

-- by whether it is linked
abbrev pub IsInPlace : Bool → WaitNode → Type 0
IsInPlace true node = node.ended ≡ false
IsInPlace false node = IsAnswered node

-- what holds of every row
pub record IsRow (row : RowState) : Type 0 where
  pub list : IsWaitList row.list
  pub in_order : AreInOrder (linked_nodes row.list)
  pub each : (slot : ℕ) (node : WaitNode) → waiter_at slot row.list ≡ Some node
      → IsInPlace (is_linked slot row.list) node

-- who has a slot: those ended, those granted, and those that wait
abbrev pub asked : RowState → List (Entry ℕ)
asked row = ended_of row.list ++ requests (line_of (part row))

abbrev pub HasRequest : ℕ → RowState → Type 0
HasRequest slot row = IsSome (entry_named (is_slot slot) (asked row))

-- with n more, what is free and granted is no more than the largest count
abbrev pub Holds : ℕ → PartialLine → Type 0
Holds n line = (free_of line.word line.nodes +ℤ pos (total line.granted + n)) ≤ℤ pos u64_max

-- a request goes to the end under a slot that nobody has, or nothing changes
abbrev pub Enqueues : ℕ → ℕ → RowState → Result ℕ AllocError → RowState → Type 0
Enqueues size waker old (Ok slot) new =
    (entry_named (is_slot slot) (asked old) ≡ None) × (part new ≡ enqueue slot size waker (part old))
Enqueues size waker old (Err error) new = part new ≡ part old

-- a debt goes to the front, or nothing changes
abbrev pub Owes : ℕ → PartialLine → Result ℕ AllocError → PartialLine → Type 0
Owes n old (Ok slot) new = new ≡ owe slot n old
Owes n old (Err error) new = new ≡ old

-- no more and no fewer were ended
abbrev pub SameEnded : RowState → RowState → Type 0
SameEnded old new = ended_of new.list ≡ ended_of old.list

-- one that was ended leaves, and nothing else changes
abbrev pub EndedLeaves : ℕ → RowState → RowState → Type 0
EndedLeaves slot old new =
    (part new ≡ part old) × (ended_of new.list ≡ without (is_slot slot) (ended_of old.list))

-- a later poll: one that was granted leaves, and so does one that was ended; one that waits leaves its new waker
abbrev pub PollsNode : ℕ → ℕ → RowState → Found → RowState → Type 0
PollsNode slot waker old (Granted size) new =
    (entry_named (is_slot slot) (ended_of old.list) ≡ None)
    × (entry_named (is_slot slot) (part old).granted ≡ Some (record { name = slot; size = size }))
    × (part new ≡ collect (is_slot slot) (part old))
    × SameEnded old new
PollsNode slot waker old Waits new =
    (entry_named (is_slot slot) (ended_of old.list) ≡ None)
    × (entry_named (is_slot slot) (part old).granted ≡ None)
    × (part new ≡ leave_new_waker (is_slot slot) waker (part old))
    × SameEnded old new
PollsNode slot waker old Ended new =
    IsSome (entry_named (is_slot slot) (ended_of old.list)) × EndedLeaves slot old new

-- a cancelled request leaves. What it was granted, or else its share, is passed on, up to the order of those granted
abbrev pub CancelsAs : Option (Entry ℕ) → ℕ → RowState → RowState → Type 0
CancelsAs (Some ended) slot old new =
    AreAlikeParts (part old) (part new) × (ended_of new.list ≡ without (is_slot slot) (ended_of old.list))
CancelsAs None slot old new =
    AreAlikeParts (cancel_request (is_slot slot) (part old)) (part new) × SameEnded old new

abbrev pub Cancels : ℕ → RowState → RowState → Type 0
Cancels slot old new = CancelsAs (entry_named (is_slot slot) (ended_of old.list)) slot old new

-- all that wait are ended, in whatever order those ended are kept
pub record EndsAll (old new : RowState) : Type 0 where
  pub slot : ℕ
  pub becomes : part new ≡ end_requests slot (part old)
  pub ended : IsPermutation (ended_of old.list ++ map entry_of (requests_of (part old).nodes)) (ended_of new.list)

-- the oldest waker to wake, if there is one
abbrev pub TakesWake : PartialLine → Option Waker → PartialLine → Type 0
TakesWake old None new = (old.wakes ≡ []) × (new ≡ old)
TakesWake old (Some waker) new = (old.wakes ≡ waker.0 ∷ new.wakes) × (new ≡ record old { wakes = new.wakes })

-- how many requests were granted or ended, each of which is woken, and how many debts are gone
abbrev pub served : PartialLine → PartialLine → ℕ
served old new = (length new.wakes - length old.wakes) + (debts old.nodes - debts new.nodes)
