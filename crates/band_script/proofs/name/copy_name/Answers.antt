use Rattle.std.proofs.Common.{sym, ◌∙◌, ap, below_more, arith, ◌≡◌, get_or}
use Rattle.std.proofs.Math.ListN.{set}
use Rattle.band_script.proofs.NameLemmas.{front_len, padded_more}
use Rattle.band_script.proofs.name.copy_name.Goals as goal

pub returns-then-not-is_name_byte-clause-len : goal.returns-then-not-is_name_byte-clause-len
returns-then-not-is_name_byte-clause-len c =
    front_len c.args.text.now c.loop-i.i (omega arith) (omega arith) c.loop-i.invariant.passed (λ _ _. sym c.is_name_byte.ensures ∙ c.if-not-is_name_byte.true)

pub loop-i-preserved : goal.loop-i-preserved
loop-i-preserved c =
    let text = c.args.text.now in
    let i = c.loop-i.i in
    record {
      passed = below_more _ _ c.loop-i.invariant.passed (sym c.is_name_byte.ensures ∙ c.if-not-is_name_byte.false);
      copied = ap (λ kept. set kept i (get_or text i 0)) c.loop-i.invariant.copied ∙ padded_more text i (omega arith) (omega arith);
    }

pub returns-clause-len : goal.returns-clause-len
returns-clause-len c =
    let whole : c.loop-i.i ≡ c.min-room.result = omega arith in
    sym whole ∙ front_len c.args.text.now c.loop-i.i (omega arith) (omega arith) c.loop-i.invariant.passed (λ room more. absurd (omega arith))
