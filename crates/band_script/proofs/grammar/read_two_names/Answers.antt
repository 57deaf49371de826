use Rattle.std.proofs.Common.{[], ◌∷◌, refl}
use Rattle.band_script.specs.declared.form.Form.TheVariants as forms
use Rattle.band_script.proofs.GrammarLemmas.{no_two_names, written_line}
use Rattle.band_script.proofs.grammar.read_two_names.Goals as goal

pub returns-in_err-first : goal.returns-in_err-first
returns-in_err-first c = rw c.from_residual.ensures (no_two_names c.args.rest.now c.args.form c.in_err-first.ensures)

pub returns : goal.returns
returns c =
    let read = c.in_ok-first in
    written_line _ (forms.TwoNames c.args.form) c.args.rest.now (read.first ∷ read.second ∷ []) [] c.call.result refl c.call.ensures read.ensures
