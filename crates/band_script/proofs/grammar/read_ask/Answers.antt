use Rattle.std.proofs.Common.{[], ◌∷◌, refl}
use Rattle.band_script.specs.declared.call.Call.TheVariants as calls
use Rattle.band_script.specs.declared.form.Form.TheVariants as forms
use Rattle.band_script.proofs.GrammarLemmas.{no_ask, written_line}
use Rattle.band_script.proofs.grammar.read_ask.Goals as goal

pub returns-in_err-made : goal.returns-in_err-made
returns-in_err-made c = rw c.from_residual.ensures (no_ask c.args.rest.now c.in_err-made.ensures)

pub returns : goal.returns
returns c =
    let read = c.in_ok-made in
    let call = calls.Ask read.made read.of read.n read.waker in
    written_line _ forms.Ask c.args.rest.now (read.made ∷ read.of ∷ []) (read.n ∷ read.waker ∷ []) call refl (refl, refl) read.ensures
