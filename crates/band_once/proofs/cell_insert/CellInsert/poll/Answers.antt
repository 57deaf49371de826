use Rattle.band_once.proofs.cell_insert.CellInsert.poll.Goals.{in-Ok-NotNeeded, in-Ok-Waits, in-Ok-Holds, in-Err}
use Rattle.band_once.proofs.cell_insert.CellInsert.poll.Goals as goal

pub returns-clause-whole : goal.returns-clause-whole
returns-clause-whole g c =
    elim c.match-ask.branch [
      | in-Ok-NotNeeded w ↦ rw w.cell-is c.ask.ensures.whole
      | in-Ok-Waits w ↦ rw w.cell-is c.ask.ensures.whole
      | in-Ok-Holds w ↦ rw w.cell-is w.go_on.ensures.whole
      | in-Err w ↦ rw w.cell-is c.ask.ensures.whole
    ]
