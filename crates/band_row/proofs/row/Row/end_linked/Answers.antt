use Rattle.band_row.proofs.Closing.{ends-then}
use Rattle.band_row.proofs.row.Row.end_linked.Goals as goal

pub loop-first-preserved : goal.loop-first-preserved
loop-first-preserved g c = record { ends = ends-then _ _ _ _ _ _ c.loop-first.invariant.ends c.end_first.ensures.ends }
