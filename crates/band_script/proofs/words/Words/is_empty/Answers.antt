use Rattle.band_script.proofs.WordLemmas.{some_word}
use Rattle.band_script.proofs.words.Words.is_empty.Goals as goal

pub returns-in-Some : goal.returns-in-Some
returns-in-Some c = rw c.in-Some.is (λ none. cc, λ none. absurd (some_word c.in-Some.field-0.now none))
