use Rattle.std.proofs.Common.{◌≤◌, sym, subst, arith}
use Rattle.band_partial.specs.PartialLine.{PartialLine, debts}
use Rattle.band_partial.proofs.Ending.{debts-ended}
use Rattle.band_row.specs.Row.{part}
use Rattle.band_sem.proofs.store.Store.close.Goals as goal

pub returns-clause-visits : goal.returns-clause-visits
returns-clause-visits g c =
    let old = part c.args.self.now.row in
    let ends = c.close.ensures.ends in
    let visits = c.close.ensures.visits in
    let fewer : debts (part c.close.new.self).nodes ≤ debts old.nodes = subst (λ (p : PartialLine). debts p.nodes ≤ debts old.nodes) (sym ends.becomes) (debts-ended old ends.slot) in
    record { no_fewer = omega (arith, visits.no_fewer); no_more = omega (arith, visits.no_more); no_debt = fewer }
