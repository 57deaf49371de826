use Rattle.std.proofs.Common.{[]}
use Rattle.std.proofs.lemmas.Bool.{and_parts}
use Rattle.band_script.proofs.operands.two_names_number.Goals as goal

pub returns-in_err-n : goal.returns-in_err-n
returns-in_err-n c =
    rw c.from_residual-in_err-n.ensures
    (λ read are words. c.in_err-n.ensures read.2 [] (and_parts _ _ (and_parts _ _ are).1).0 (cc (c.in_ok-first.ensures.1, c.in_ok-second.ensures.1)))
