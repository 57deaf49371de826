use Rattle.band_partial.proofs.Order.{line-alike, settled-alike, give_out-alike}
use Rattle.band_partial.proofs.laws.give_out_looks_at_no_order.Goals as goal

pub returns-clause-line : goal.returns-clause-line
returns-clause-line c = line-alike

pub returns-clause-settled : goal.returns-clause-settled
returns-clause-settled c = settled-alike

pub returns-clause-gives_out : goal.returns-clause-gives_out
returns-clause-gives_out c = give_out-alike
