use Rattle.std.proofs.Common.{refl, ◌∙◌, subst}
use Rattle.band_partial.specs.PartialLine.{PartialLine, AreAlikeParts, IsSettled}
use Rattle.band_partial.specs.Moves.{give_out}
use Rattle.band_partial.proofs.Steps.{gives_out_done}
use Rattle.band_row.specs.Row.{part}
use Rattle.band_row.proofs.Parts.{serves-then}
use Rattle.band_row.proofs.row.Row.give_out.Goals as goal

pub loop-first-preserved : goal.loop-first-preserved
loop-first-preserved g c = record {
  serves = serves-then _ _ _ _ _ _ c.loop-first.invariant.serves (c.in-Some.ensures.some refl) c.serve.ensures.serves;
  ended = c.serve.ensures.ended ∙ c.loop-first.invariant.ended;
  holds = c.serve.ensures.holds;
}

pub returns-clause-part : goal.returns-clause-part
returns-clause-part g c =
    let settled : IsSettled (part c.loop-first.self) = record {
      in_order = c.first_to_serve.ensures.row.in_order;
      given_out = rw c.in_default.is at c.first_to_serve.ensures.none;
    } in
    subst (λ (line : PartialLine). AreAlikeParts (give_out (part c.args.self.now)) line) (gives_out_done (part c.loop-first.self) settled) c.loop-first.invariant.serves.gives

pub returns-clause-debts : goal.returns-clause-debts
returns-clause-debts g c = c.loop-first.invariant.serves.debts

pub returns-clause-ended : goal.returns-clause-ended
returns-clause-ended g c = c.loop-first.invariant.ended
