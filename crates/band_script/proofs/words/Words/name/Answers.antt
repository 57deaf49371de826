use Rattle.band_script.specs.Name.{IsName}
use Rattle.band_script.proofs.NameLemmas.{name_has_no_space}
use Rattle.band_script.proofs.WordLemmas.{no_first, goes_on, first_read}
use Rattle.band_script.proofs.words.Words.name.Goals as goal

pub returns-in_err-name : goal.returns-in_err-name
returns-in_err-name c =
    rw (c.branch-self.ensures, c.in_ok-self.is, c.from_residual-in_err-name.ensures) (no_first IsName (λ name. name) c.in_ok-self.field-0.now c.in_err-name.ensures)

pub returns-in_err-self-2 : goal.returns-in_err-self-2
returns-in_err-self-2 c =
    rw (c.branch-self.ensures, c.in_ok-self.is, c.from_residual-in_err-self-2.ensures)
    (goes_on IsName (λ name. name) c.in_ok-self.field-0.now (c.in_ok-name.name, c.in_ok-name.rest) c.in_ok-name.ensures c.in_err-self-2.ensures)

pub returns : goal.returns
returns c =
    let front = c.in_ok-name.ensures in
    rw (c.branch-self.ensures, c.in_ok-self.is)
    (front.0, first_read IsName (λ name. name) c.in_ok-self.field-0.now (c.in_ok-name.name, c.in_ok-name.rest) c.in_ok-self-2.field-0.rest front c.in_ok-self-2.ensures (name_has_no_space _ front.0))
