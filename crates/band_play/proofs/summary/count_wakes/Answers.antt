use Rattle.std.proofs.Common.{sym, ◌∙◌, ap, ◌∷◌, length, length-append, arith}
use Rattle.band_play.proofs.Wakes.{one_wake, no_wake, no_wakes}
use Rattle.band_play.proofs.summary.count_wakes.Goals as goal

pub loop-line-preserved-then-is_wake : goal.loop-line-preserved-then-is_wake
loop-line-preserved-then-is_wake c =
    let parts = c.in-Some.ensures in
    let one = one_wake c.loop-line.rest.now c.in-Some.line.now c.in-Some.after.now parts.0 parts.1 (sym c.is_wake.ensures ∙ c.if-is_wake.true) in
    record {
      wakes = omega (arith, c.loop-line.invariant.wakes, one);
      within = omega (arith, c.loop-line.invariant.within, ap length parts.0, length-append c.in-Some.line.now (10 ∷ c.in-Some.after.now));
    }

pub loop-line-preserved : goal.loop-line-preserved
loop-line-preserved c =
    let parts = c.in-Some.ensures in
    let none = no_wake c.loop-line.rest.now c.in-Some.line.now c.in-Some.after.now parts.0 parts.1 (sym c.is_wake.ensures ∙ c.if-is_wake.false) in
    record {
      wakes = omega (arith, c.loop-line.invariant.wakes, none);
      within = omega (arith, c.loop-line.invariant.within, ap length parts.0, length-append c.in-Some.line.now (10 ∷ c.in-Some.after.now));
    }

pub returns : goal.returns
returns c = omega (arith, c.loop-line.invariant.wakes, no_wakes c.loop-line.rest.now c.in_default.ensures)
