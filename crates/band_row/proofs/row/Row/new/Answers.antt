use Rattle.band_row.proofs.Moving.{kept, opened, uncounted}
use Rattle.band_row.proofs.row.Row.new.Goals as goal

pub invariant_of-result : goal.invariant_of-result
invariant_of-result c = rw (c.new.ensures.empty, c.new-2.ensures) (kept (opened c.args.permits) (uncounted c.args.permits))

pub returns-clause-row : goal.returns-clause-row
returns-clause-row c = rw (c.new.ensures.empty, c.new-2.ensures) (opened c.args.permits).row
