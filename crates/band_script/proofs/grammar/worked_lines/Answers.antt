use Rattle.std.proofs.Common.{refl}
use Rattle.std.specs.Fmt.{digits}
use Rattle.band_script.specs.Grammar.{call_of}
use Rattle.band_script.proofs.grammar.worked_lines.Goals as goal

pub returns : goal.returns
unfolding call_of digits
returns c = record { each_call = refl; each_other = refl }
