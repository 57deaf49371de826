use Rattle.std.proofs.Common.{sym, ◌∙◌}
use Rattle.band_line.proofs.NodeValues.{len_is}
use Rattle.band_line.proofs.line.Line.occupied_len.Goals as goal

pub returns-clause-len : goal.returns-clause-len
returns-clause-len g c = rw (← c.self.view_is) (c.len.ensures.len ∙ sym (len_is c.self.inside.nodes))
