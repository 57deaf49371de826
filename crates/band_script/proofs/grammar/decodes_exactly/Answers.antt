use Rattle.band_script.proofs.Decoding.{call_of_line}
use Rattle.band_script.proofs.grammar.decodes_exactly.Goals as goal

pub returns : goal.returns
returns c = call_of_line
