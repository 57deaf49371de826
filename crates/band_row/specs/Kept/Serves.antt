-- How a row is given out, node by node.
use Rattle.std.specs.Prelude.{◌≡◌, ◌≢◌, ℕ, false, ◌+◌, ◌-◌, ◌*◌, ◌<◌, ◌≤◌, ◌==◌, length, if◌then◌else◌, Option, Some, None}
use Rattle.std.specs.Prelude.{List, ◌++◌, map, true}
use Rattle.std.specs.List.Sorted.{IsPermutation}
use Rattle.band_balance.specs.Line.{Entry, entry_of, entry_named}
use Rattle.band_partial.specs.PartialLine.{Node, PartialLine, AreAlikeParts, debts, requests_of}
use Rattle.band_partial.specs.Moves.{give_out, collect, share_under, without_node}
use Rattle.band_line.specs.Arena.{KeepsOthers}
use Rattle.band_line.specs.WaitList.{WaitListState, IsWaitList, waiter_at, is_linked, detached, IsUnlinked, IsWritten}
use Rattle.band_row.specs.declared.wait_node.WaitNode.{WaitNode}
use Rattle.band_row.specs.Row.{RowState, SameEnded, EndedLeaves, is_slot, part, ended_of, served}

-- a node is in the list no more
pub record IsGone (id : ℕ) (old new : WaitListState WaitNode) : Type 0 where
  pub vacant : waiter_at id new ≡ None
  pub others : KeepsOthers id old.nodes new.nodes
  pub linked : new.linked ≡ (detached id old).linked
  pub links : (other : ℕ) → other ≢ id → is_linked other new ≡ is_linked other old
  pub already : is_linked id old ≡ false → new.linked ≡ old.linked
  pub sound : IsWaitList new

-- a request is out of the row, and this is what it had
abbrev pub EndsAs : Option (Entry ℕ) → ℕ → PartialLine → ℕ → PartialLine → Type 0
EndsAs (Some granted) slot old had new = (had ≡ granted.size) × (new ≡ collect (is_slot slot) old)
EndsAs None slot old had new =
    (had ≡ share_under (is_slot slot) old.nodes)
    × (new ≡ record old { nodes = without_node (is_slot slot) old.nodes })

-- where it was ended, it had nothing
abbrev pub EndsBy : Option (Entry ℕ) → ℕ → RowState → ℕ → RowState → Type 0
EndsBy (Some ended) slot old had new = (had ≡ 0) × EndedLeaves slot old new
EndsBy None slot old had new =
    EndsAs (entry_named (is_slot slot) (part old).granted) slot (part old) had (part new) × SameEnded old new

abbrev pub Ends : ℕ → RowState → ℕ → RowState → Type 0
Ends slot old had new = EndsBy (entry_named (is_slot slot) (ended_of old.list)) slot old had new

-- Some nodes in front are linked no more. Those that were requests are ended, and those that were debts are gone.
-- Each took four visits at most.
pub record EndsFirst (old new : RowState) (before after : ℕ) : Type 0 where
  pub gone : List Node
  pub nodes : (part old).nodes ≡ gone ++ (part new).nodes
  pub word : new.word ≡ old.word
  pub granted : (part new).granted ≡ (part old).granted
  pub wakes : new.wakes ≡ old.wakes ++ map (λ w. w.waker) (requests_of gone)
  pub ended : IsPermutation (ended_of old.list ++ map entry_of (requests_of gone)) (ended_of new.list)
  -- there is room for a debt, where one is gone
  pub room : 0 < debts gone → 0 < new.list.nodes.spare
  pub spare : old.list.nodes.spare ≤ new.list.nodes.spare
  pub no_fewer : before ≤ after
  pub no_more : after ≤ before + 4 * length gone

-- some nodes were served: what is given out in all stays the same, and each took four visits at most. One visit
-- more is made where all that is available goes to a node that needs more
pub record Serves (old new : PartialLine) (before after : ℕ) : Type 0 where
  pub gives : AreAlikeParts (give_out old) (give_out new)
  pub wakes : length old.wakes ≤ length new.wakes
  pub debts : debts new.nodes ≤ debts old.nodes
  pub no_fewer : before ≤ after
  pub no_more : after ≤ before + (4 * served old new) + (if new.word == 0 then 1 else 0)

-- after its grant
abbrev pub granted_node : WaitNode → WaitNode
granted_node node = record { size = node.size; needed = 0; waker = None; ended = false }

-- the node in front leaves the line where it needs no more than this, and the answer is what it was; else it has
-- it from now on
abbrev pub ServesNode :
    ℕ → ℕ → WaitListState WaitNode → Option WaitNode → WaitListState WaitNode → Type 0
ServesNode slot permits old (Some node) new =
    (waiter_at slot old ≡ Some node)
    × (node.needed ≤ permits)
    × IsUnlinked slot (granted_node node) old new
ServesNode slot permits old None new = (node : WaitNode)
    × (waiter_at slot old ≡ Some node)
    × (permits < node.needed)
    × IsWritten slot (record node { needed = node.needed - permits }) old new

-- after it was ended
abbrev pub ended_node : WaitNode → WaitNode
ended_node node = record { size = node.size; needed = node.needed; waker = None; ended = true }

abbrev pub EndsNode : ℕ → WaitListState WaitNode → WaitNode → WaitListState WaitNode → Type 0
EndsNode slot old node new =
    (waiter_at slot old ≡ Some node) × IsUnlinked slot (ended_node node) old new
