use Rattle.std.proofs.Common.{◌≡◌, [], ◌∷◌, Some, None, refl, ◌<◌, arith}
use Rattle.std.proofs.lemmas.Bool.{lt-ltb}
use Rattle.band_script.specs.declared.call.Call.TheVariants as calls
use Rattle.band_script.specs.declared.form.Form.TheVariants as forms
use Rattle.band_script.proofs.GrammarLemmas.{no_rw, no_rw_for_none, written_line}
use Rattle.band_script.proofs.grammar.read_rw.Goals as goal

pub returns-in_err-made : goal.returns-in_err-made
returns-in_err-made c = rw c.from_residual.ensures (no_rw c.args.rest.now c.in_err-made.ensures)

pub returns-in-None : goal.returns-in-None
returns-in-None c =
    let call = calls.Rw c.in_ok-made.made None in
    written_line _ forms.Rw c.args.rest.now (c.in_ok-made.made ∷ []) [] call refl (refl, refl) (rw c.in-None.is at c.in_ok-made.ensures)

pub returns-in-Some-eq0 : goal.returns-in-Some-eq0
returns-in-Some-eq0 c =
    let zero : c.in_ok-made.n ≡ Some 0 = cc in
    no_rw_for_none c.args.rest.now c.in_ok-made.made (rw zero at c.in_ok-made.ensures.1)

pub returns-in-Some : goal.returns-in-Some
returns-in-Some c =
    let some : 0 < c.in-Some.n = grind arith in
    let call = calls.Rw c.in_ok-made.made (Some c.in-Some.n) in
    let read = rw c.in-Some.is at c.in_ok-made.ensures in
    written_line _ forms.Rw c.args.rest.now (c.in_ok-made.made ∷ []) (c.in-Some.n ∷ []) call refl (refl, lt-ltb _ _ some) read
