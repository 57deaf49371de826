use Rattle.std.specs.Fmt.{decimal}
use Rattle.band_script.specs.Number.{IsNumber}
use Rattle.band_script.proofs.NumberLemmas.{number_has_no_space}
use Rattle.band_script.proofs.WordLemmas.{no_first, goes_on, first_read}
use Rattle.band_script.proofs.words.Words.number.Goals as goal

pub returns-in_err-n : goal.returns-in_err-n
returns-in_err-n c =
    rw (c.branch-self.ensures, c.in_ok-self.is, c.from_residual-in_err-n.ensures) (no_first IsNumber decimal c.in_ok-self.field-0.now c.in_err-n.ensures)

pub returns-in_err-self-2 : goal.returns-in_err-self-2
returns-in_err-self-2 c =
    rw (c.branch-self.ensures, c.in_ok-self.is, c.from_residual-in_err-self-2.ensures)
    (goes_on IsNumber decimal c.in_ok-self.field-0.now (c.in_ok-n.n, c.in_ok-n.rest) c.in_ok-n.ensures c.in_err-self-2.ensures)

pub returns : goal.returns
returns c =
    let front = c.in_ok-n.ensures in
    rw (c.branch-self.ensures, c.in_ok-self.is)
    (front.0, first_read IsNumber decimal c.in_ok-self.field-0.now (c.in_ok-n.n, c.in_ok-n.rest) c.in_ok-self-2.field-0.rest front c.in_ok-self-2.ensures (number_has_no_space _ front.0))
