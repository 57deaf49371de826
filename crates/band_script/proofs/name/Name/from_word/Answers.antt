use Rattle.std.proofs.Common.{◌≡◌, [], length, sym, ap, append-nil, arith}
use Rattle.band_script.proofs.name.Name.from_word.Goals as goal

pub returns-in_err-name-clause-is_name : goal.returns-in_err-name-clause-is_name
returns-in_err-name-clause-is_name c =
    rw c.from_residual.ensures (λ some. cc, λ is. absurd (c.in_err-name.ensures c.args.word.now [] is tt (sym (append-nil c.args.word.now))))

pub returns-in_default-clause-is_name : goal.returns-in_default-clause-is_name
returns-in_default-clause-is_name c = (
  λ some. cc,
  λ is.
      let whole : [] ≡ c.in_ok-name.rest.now = c.in_ok-name.ensures.2 c.args.word.now [] is tt (sym (append-nil c.args.word.now)) in
      absurd (omega (arith, ap length whole)),
)
