use Rattle.std.specs.Prelude.{length}
use Rattle.band_row.specs.Kept.Serves.{EndsFirst}
use Rattle.band_row.specs.Row.{IsRow}
use Rattle.band_row.proofs.row.Row.end_linked.Given as goal

abbrev pub invariant-loop-first : goal.invariant-loop-first
invariant-loop-first g l = record { ends : EndsFirst l.fn.self l.self l.fn.steps l.steps }

abbrev pub decreases-loop-first : goal.decreases-loop-first
decreases-loop-first g l = length l.self.list.linked
