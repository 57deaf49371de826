use Rattle.std.proofs.Common.{◌≡◌, ◌+◌, ◌*◌, ◌-◌, ◌^◌, ◌≤◌, length, get_or, sym, ap, ◌∙◌, below_more, arith, take, drop}
use Rattle.band_script.proofs.NumberLemmas.{digits_read, digits_more, digits_over}
use Rattle.band_script.proofs.number.split_digits.Goals as goal

pub returns-then-not-is_ascii_digit : goal.returns-then-not-is_ascii_digit
returns-then-not-is_ascii_digit c =
    let so_far = c.loop-i.invariant in
    digits_read c.args.text.now c.loop-i.i c.loop-i.n (omega arith) so_far.digits (λ _. sym c.is_ascii_digit.ensures.value ∙ c.if-not-is_ascii_digit.true) so_far.value so_far.fits

pub returns-in_err-checked_mul : goal.returns-in_err-checked_mul
returns-in_err-checked_mul c =
    let so_far = c.loop-i.invariant in
    let is = sym c.is_ascii_digit.ensures.value ∙ c.if-not-is_ascii_digit.false in
    let over : 2 ^ 64 ≤ c.loop-i.n * 10 + (get_or c.args.text.now c.loop-i.i 0 - 48) = omega (arith, c.in_err-checked_mul.ensures) in
    rw c.from_residual.ensures (digits_over c.args.text.now c.loop-i.i c.loop-i.n (omega arith) so_far.digits is so_far.value over)

pub returns-in_err-n : goal.returns-in_err-n
returns-in_err-n c =
    let so_far = c.loop-i.invariant in
    let is = sym c.is_ascii_digit.ensures.value ∙ c.if-not-is_ascii_digit.false in
    let over : 2 ^ 64 ≤ c.loop-i.n * 10 + (get_or c.args.text.now c.loop-i.i 0 - 48) = omega (arith, c.in_err-n.ensures, c.in_ok-checked_mul.ensures, c.from.ensures) in
    rw c.from_residual-in_err-n.ensures (digits_over c.args.text.now c.loop-i.i c.loop-i.n (omega arith) so_far.digits is so_far.value over)

pub loop-i-preserved : goal.loop-i-preserved
loop-i-preserved c =
    let so_far = c.loop-i.invariant in
    let is = sym c.is_ascii_digit.ensures.value ∙ c.if-not-is_ascii_digit.false in
    let more = digits_more c.args.text.now c.loop-i.i c.loop-i.n (omega arith) is so_far.value in
    record {
      digits = below_more _ _ so_far.digits is;
      value = omega (arith, more, c.in_ok-n.ensures, c.in_ok-checked_mul.ensures, c.from.ensures);
      fits = omega (arith, c.in_ok-n.ensures);
    }

pub returns : goal.returns
returns c =
    let so_far = c.loop-i.invariant in
    let text = c.args.text.now in
    let whole : c.loop-i.i ≡ length text = omega arith in
    let read = digits_read text c.loop-i.i c.loop-i.n (omega arith) so_far.digits (λ more. absurd (omega arith)) so_far.value so_far.fits in
    (read.0, read.1, ap (λ n. take (length text - n) (drop n text)) (sym whole) ∙ read.2)
