use Rattle.band_script.proofs.Lengths.{line_length, longest_line_is}
use Rattle.band_script.proofs.grammar.longest_line.Goals as goal

pub returns-clause-most : goal.returns-clause-most
returns-clause-most c = line_length

pub returns-clause-reached : goal.returns-clause-reached
returns-clause-reached c = longest_line_is
