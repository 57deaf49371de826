use Rattle.band_script.proofs.Decoding.{one_call_of_line}
use Rattle.band_script.proofs.grammar.one_call.Goals as goal

pub returns : goal.returns
returns c = one_call_of_line
