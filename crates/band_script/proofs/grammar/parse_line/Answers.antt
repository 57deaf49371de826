use Rattle.std.proofs.Common.{None, ◌∙◌}
use Rattle.band_script.proofs.Decoding.{decoded, decoded_as}
use Rattle.band_script.proofs.GrammarLemmas.{begins}
use Rattle.band_script.proofs.grammar.parse_line.Goals as goal

pub returns-in_err-form-clause-exact : goal.returns-in_err-form-clause-exact
returns-in_err-form-clause-exact c =
    rw c.from_residual.ensures (decoded c.args.line.now None (λ call is. c.in_err-form.ensures call _ (is.1 ∙ begins call)))

pub returns-in-OneName-clause-exact : goal.returns-in-OneName-clause-exact
returns-in-OneName-clause-exact c = decoded_as c.args.line.now _ c.read_one_name.result (rw c.in-OneName.is at c.in_ok-form.ensures) c.read_one_name.ensures

pub returns-in-NameNumber-clause-exact : goal.returns-in-NameNumber-clause-exact
returns-in-NameNumber-clause-exact c = decoded_as c.args.line.now _ c.read_name_number.result (rw c.in-NameNumber.is at c.in_ok-form.ensures) c.read_name_number.ensures

pub returns-in-TwoNames-clause-exact : goal.returns-in-TwoNames-clause-exact
returns-in-TwoNames-clause-exact c = decoded_as c.args.line.now _ c.read_two_names.result (rw c.in-TwoNames.is at c.in_ok-form.ensures) c.read_two_names.ensures

pub returns-in-TwoNamesNumber-clause-exact : goal.returns-in-TwoNamesNumber-clause-exact
returns-in-TwoNamesNumber-clause-exact c = decoded_as c.args.line.now _ c.read_two_names_number.result (rw c.in-TwoNamesNumber.is at c.in_ok-form.ensures) c.read_two_names_number.ensures

pub returns-in-Rw-clause-exact : goal.returns-in-Rw-clause-exact
returns-in-Rw-clause-exact c = decoded_as c.args.line.now _ c.read_rw.result (rw c.in-Rw.is at c.in_ok-form.ensures) c.read_rw.ensures

pub returns-in-Ask-clause-exact : goal.returns-in-Ask-clause-exact
returns-in-Ask-clause-exact c = decoded_as c.args.line.now _ c.read_ask.result (rw c.in-Ask.is at c.in_ok-form.ensures) c.read_ask.ensures
