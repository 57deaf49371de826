use Rattle.std.proofs.Common.{◌≡◌, ◌++◌, get_or, sym, ◌∙◌, ap, refl, arith}
use Rattle.std.specs.Fmt.{decimal}
use Rattle.band_script.proofs.Fronts.{from_place}
use Rattle.band_script.proofs.NumberLemmas.{digits_front, first_of_number, zero_read}
use Rattle.band_script.proofs.number.split_number.Goals as goal
use Rattle.band_script.proofs.number.split_number.Goals.{in_default-via-then-text-lt1, in_default-via-else-text-lt1+in_default+then-text-lt48, in_default-via-else-text-lt1+in_default+else-text-lt48+else-text-lt58}

pub returns-in-48 : goal.returns-in-48
returns-in-48 c =
    let text = c.args.text.now in
    let zero : get_or text 0 0 ≡ 48 = omega arith in
    let read = zero_read text (omega arith) zero in
    let left = from_place text 1 in
    (refl, read.0 ∙ ap (λ rest. decimal 0 ++ rest) (sym left), λ n rest is ends same. read.1 n rest is ends same ∙ sym left)

pub returns-in-49-to-57 : goal.returns-in-49-to-57
returns-in-49-to-57 c = digits_front c.args.text.now c.split_digits.result (omega arith) (omega arith) (omega arith) c.split_digits.ensures

pub returns-in_default : goal.returns-in_default
returns-in_default c n rest is ends same =
    let first = first_of_number c.args.text.now n rest is same in
    elim c.in_default.branch [
      | in_default-via-then-text-lt1 w ↦ grind (arith, first.0, first.1, first.2)
      | in_default-via-else-text-lt1+in_default+then-text-lt48 w ↦ grind (arith, first.0, first.1, first.2)
      | in_default-via-else-text-lt1+in_default+else-text-lt48+else-text-lt58 w ↦ grind (arith, first.0, first.1, first.2)
    ]
