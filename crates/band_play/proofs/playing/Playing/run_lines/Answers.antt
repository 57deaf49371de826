use Rattle.std.proofs.Common.{refl, length-append, ◌∷◌, arith, ap, length}
use Rattle.band_play.proofs.Pieces.{line_more, all_run, malformed_in}
use Rattle.band_play.proofs.Visits.{ran_nothing, pays_malformed, visits_malformed, pays_wanting, visits_line, pays_all, visits_all}
use Rattle.band_play.proofs.playing.Playing.run_lines.Goals as goal

pub returns-in_default-take_call-clause-runs : goal.returns-in_default-take_call-clause-runs
returns-in_default-take_call-clause-runs g c = λ given front run.
    malformed_in _ _ c.in-Some.end.now c.in-Some.after.now _ c.loop-end.self c.loop-end.invariant.ran.upto c.in-Some.ensures.0 c.in-Some.ensures.1 c.in_default-take_call.ensures.call given front run

pub returns-in_default-take_call-clause-visits : goal.returns-in_default-take_call-clause-visits
returns-in_default-take_call-clause-visits g c =
    pays_malformed _ _ c.in-Some.end.now c.in-Some.after.now _ c.loop-end.self c.loop-end.invariant.ran c.in-Some.ensures.0 c.in-Some.ensures.1 c.in_default-take_call.ensures.call _ refl

pub returns-in_default-take_call-clause-joins : goal.returns-in_default-take_call-clause-joins
returns-in_default-take_call-clause-joins g c =
    visits_malformed _ _ c.in-Some.end.now c.in-Some.after.now _ c.loop-end.self c.loop-end.invariant.ran c.in-Some.ensures.0 c.in-Some.ensures.1 c.in_default-take_call.ensures.call

pub loop-end-init : goal.loop-end-init
loop-end-init g c = record { ran = ran_nothing c.args.piece.now c.args.self.now; quiet = c.requires.quiet; count = omega arith }

pub loop-end-preserved : goal.loop-end-preserved
loop-end-preserved g c = record {
  ran = record {
    upto = line_more _ _ c.in-Some.end.now c.in-Some.after.now c.in-Some-take_call.call _ c.loop-end.self _ c.loop-end.invariant.ran.upto
        c.in-Some.ensures.0 c.in-Some.ensures.1 c.in-Some-take_call.ensures.call c.in_ok-tell_call.ensures.tells refl c.take_call.ensures.emptied;
    no_fewer = omega (arith, c.loop-end.invariant.ran.no_fewer, c.tell_call.ensures.visits.no_fewer);
    no_more = omega (arith, c.loop-end.invariant.ran.no_more, c.tell_call.ensures.visits.no_more);
    joins = visits_line _ _ c.in-Some.end.now c.in-Some.after.now _ c.loop-end.self c.loop-end.invariant.ran c.in-Some.ensures.0 c.in-Some.ensures.1
        c.in-Some-take_call.call _ c.in-Some-take_call.ensures.call c.in_ok-tell_call.ensures.joins;
  };
  quiet = c.in_ok-tell_call.ensures.quiet;
  count = omega (arith, c.loop-end.invariant.count, ap length c.in-Some.ensures.0, length-append c.in-Some.end.now (10 ∷ c.in-Some.after.now));
}

pub returns-clause-runs : goal.returns-clause-runs
returns-clause-runs g c = λ given front run.
    all_run _ _ _ c.loop-end.self _ c.loop-end.invariant.ran.upto c.in_default.ensures refl refl refl c.push.ensures given front run

pub returns-clause-visits : goal.returns-clause-visits
returns-clause-visits g c = pays_all _ _ _ c.loop-end.self c.loop-end.invariant.ran c.in_default.ensures _ refl

pub returns-clause-joins : goal.returns-clause-joins
returns-clause-joins g c = visits_all _ _ _ c.loop-end.self c.loop-end.invariant.ran c.in_default.ensures

pub returns-in_err-tell_call-clause-visits : goal.returns-in_err-tell_call-clause-visits
returns-in_err-tell_call-clause-visits g c =
    pays_wanting _ _ c.in-Some.end.now c.in-Some.after.now _ c.loop-end.self c.loop-end.invariant.ran c.in-Some.ensures.0 c.in-Some.ensures.1
    c.in-Some-take_call.call _ c.in-Some-take_call.ensures.call c.tell_call.ensures.visits.no_fewer c.tell_call.ensures.visits.no_more
