use Rattle.std.proofs.Common.{◌∙◌, append_assoc, to_z-of_z}
use Rattle.std.proofs.lemmas.Result.{on_ok_weaker}
use Rattle.band_play.proofs.print.push_figures.Goals as goal

pub returns : goal.returns
returns c = on_ok_weaker c.writeln.result (λ e. e ∙ (simp (append_assoc, to_z-of_z c.ranges.free))) c.writeln.ensures.bytes
