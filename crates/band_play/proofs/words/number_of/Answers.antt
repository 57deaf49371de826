use Rattle.std.proofs.Common.{sym, ◌∙◌}
use Rattle.band_play.proofs.Spelling.{not_read, not_spelled}
use Rattle.band_play.proofs.words.number_of.Goals as goal

pub returns-in-Err-clause-none : goal.returns-in-Err-clause-none
returns-in-Err-clause-none c = λ n same fits. not_read c.as_str.result.now c.parse.result _ c.parse.ensures.value.0 c.in-Err.is n (c.as_str.ensures.value ∙ same) fits

pub returns-else-is_spelling-clause-none : goal.returns-else-is_spelling-clause-none
returns-else-is_spelling-clause-none c = λ n same fits.
    not_spelled c.as_str.result.now c.parse.result c.in-Ok.n c.is_spelling.result c.parse.ensures.value.0 c.in-Ok.is
    (λ is. c.as_str.ensures.value ∙ c.is_spelling.ensures.0 is, λ is. c.is_spelling.ensures.1 (sym c.as_str.ensures.value ∙ is))
    c.if-is_spelling.false n (c.as_str.ensures.value ∙ same) fits
