use Rattle.std.proofs.Common.{[], ◌∷◌, refl}
use Rattle.band_script.specs.declared.form.Form.TheVariants as forms
use Rattle.band_script.proofs.GrammarLemmas.{no_one_name, written_line}
use Rattle.band_script.proofs.grammar.read_one_name.Goals as goal

pub returns-in_err-name : goal.returns-in_err-name
returns-in_err-name c = rw c.from_residual.ensures (no_one_name c.args.rest.now c.args.form c.in_err-name.ensures)

pub returns : goal.returns
returns c = written_line _ (forms.OneName c.args.form) c.args.rest.now (c.in_ok-name.name ∷ []) [] c.call.result refl c.call.ensures c.in_ok-name.ensures
