use Rattle.std.proofs.Common.{[], ◌∷◌}
use Rattle.std.specs.Fmt.{decimal}
use Rattle.std.proofs.lemmas.Bool.{and_parts}
use Rattle.band_script.proofs.operands.two_names_two_numbers.Goals as goal

pub returns-in_err-n : goal.returns-in_err-n
returns-in_err-n c =
    rw c.from_residual-in_err-n.ensures
    (λ read are words. c.in_err-n.ensures read.2 (decimal read.3 ∷ []) (and_parts _ _ (and_parts _ _ are).1).0 (cc (c.in_ok-first.ensures.1, c.in_ok-second.ensures.1)))

pub returns-in_err-m : goal.returns-in_err-m
returns-in_err-m c =
    rw c.from_residual-in_err-m.ensures
    (λ read are words. c.in_err-m.ensures read.3 [] (and_parts _ _ (and_parts _ _ (and_parts _ _ are).1).1).0 (cc (c.in_ok-first.ensures.1, c.in_ok-second.ensures.1, c.in_ok-n.ensures.1)))
