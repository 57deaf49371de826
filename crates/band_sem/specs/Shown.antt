-- The nodes of the line, and what they stand for.
use Rattle.std.specs.Prelude.{◌≡◌}
use Rattle.band_balance.specs.Line.{available}
use Rattle.band_partial.specs.PartialLine.{StandsFor, debts}
use Rattle.band_line.specs.WaitList.{WaitListState}
use Rattle.band_row.specs.declared.wait_node.WaitNode.{WaitNode}
use Rattle.band_row.specs.Row.{RowState, IsRow, part, linked_nodes, ended_of}
use Rattle.band_sem.specs.Semaphore.{SemaphoreState}

-- the nodes with what is available and the wakers to wake
abbrev pub row_of : SemaphoreState → WaitListState WaitNode → RowState
row_of state list = record { word = available state.line; list = list; wakes = state.line.wakes }

-- The linked nodes are debts, and then those that wait, of whom only the first may have a share; the others were
-- granted or ended. With what is available they stand for the line.
pub record ShowsLine (state : SemaphoreState) (list : WaitListState WaitNode) : Type 0 where
  pub stands : StandsFor state.line (part (row_of state list))
  pub debts : state.debts ≡ debts (linked_nodes list)
  pub row : IsRow (row_of state list)
  pub ended : state.ended ≡ ended_of list
