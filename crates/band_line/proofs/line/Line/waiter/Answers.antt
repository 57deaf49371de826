use Rattle.std.proofs.Common.{sym, ◌∙◌}
use Rattle.band_line.proofs.NodeValues.{value_is}
use Rattle.band_line.proofs.line.Line.waiter.Goals as goal

pub returns-clause-value : goal.returns-clause-value
returns-clause-value g c = rw (← c.self.view_is) (c.get.ensures.value ∙ sym (value_is c.self.inside.nodes c.args.id))
