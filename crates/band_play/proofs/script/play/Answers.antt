use Rattle.std.proofs.Common.{◌≡◌, ◌≤◌, [], length, ap, ◌∙◌, sym, length-take, refl, arith}
use Rattle.std.proofs.lemmas.Result.{err_from_is_err_and, IfErr-at_err}
use Rattle.std.specs.Result.{result_from_control_flow}
use Rattle.band_play.specs.declared.fault.PlayFault.TheVariants as faults
use Rattle.band_play.specs.Play.{End, end_of}
use Rattle.band_play.proofs.Answering.{answers_read, answers_end, answers_over, answers_fault, keeps_up, keeps_up_still, nothing_given, front_fault, front_over, none_in}
use Rattle.band_play.proofs.Visits.{visited_nothing, visited_more, few_taken, few_still, few_at_end, few_by_fault, joined_taken, joined_still, joined_at_end, joined_by_fault}
use Rattle.band_play.proofs.script.play.Goals as goal

pub returns-in_err-given-clause-plays : goal.returns-in_err-given-clause-plays
returns-in_err-given-clause-plays g c =
    let p = err_from_is_err_and c.from_residual.result c.from_residual.ensures.1 in
    let source : End = end_of g.S.Source.left g.S.Source.faults c.args.src.now c.read_piece.new.src in
    let sink : End = end_of g.D.Sink.written g.D.Sink.faults c.args.dst.now c.pieces.dst in
    rw (p.1, p.2) (record {
      answers = answers_read _ _ c.pieces.playing source sink _ _ c.pieces.invariant.visited.so_far c.in_err-given.ensures.err c.pieces.invariant.reads_never_fall c.in_err-given.ensures.failed;
      keeps_up = keeps_up_still _ _ [] c.pieces.playing _ _ _ _ _ c.pieces.invariant.visited.so_far (nothing_given [] _ _ c.in_err-given.ensures.err refl) refl;
      reads_never_fall = omega (arith, c.read_piece.ensures.never_fall, c.pieces.invariant.reads_never_fall);
      writes_never_fall = c.pieces.invariant.writes_never_fall;
    })

pub returns-then-is_empty-clause-plays : goal.returns-then-is_empty-clause-plays
returns-then-is_empty-clause-plays g c =
    let none = none_in c.in_ok-given.given.now c.if-is_empty.ensures in
    let source : End = end_of g.S.Source.left g.S.Source.faults c.args.src.now c.read_piece.new.src in
    let sink : End = end_of g.D.Sink.written g.D.Sink.faults c.args.dst.now c.pieces.dst in
    rw c.end.ensures (record {
      answers = answers_end _ _ c.in_ok-given.given.now c.pieces.playing source sink _ c.pieces.invariant.visited.so_far c.in_ok-given.ensures.front none (c.in_ok-given.ensures.end none);
      keeps_up = keeps_up_still _ _ c.in_ok-given.given.now c.pieces.playing _ _ _ _ _ c.pieces.invariant.visited.so_far c.in_ok-given.ensures.front none;
      reads_never_fall = omega (arith, c.read_piece.ensures.never_fall, c.pieces.invariant.reads_never_fall);
      writes_never_fall = c.pieces.invariant.writes_never_fall;
    })

pub returns-in_err-feed-clause-plays : goal.returns-in_err-feed-clause-plays
returns-in_err-feed-clause-plays g c =
    let p = err_from_is_err_and c.from_residual-in_err-feed.result c.from_residual-in_err-feed.ensures.1 in
    let source : End = end_of g.S.Source.left g.S.Source.faults c.args.src.now c.read_piece.new.src in
    let sink : End = end_of g.D.Sink.written g.D.Sink.faults c.args.dst.now c.feed.new.dst in
    rw (p.1, p.2) (record {
      answers = answers_fault c.in_err-feed.field-0.0 _ _ c.in_ok-given.given.now c.within.result.now c.pieces.playing source sink _ _ _ c.pieces.invariant.visited.so_far
          c.in_ok-given.ensures.front c.pieces.invariant.writes_never_fall c.within.ensures c.in_err-feed.ensures.stops;
      keeps_up = keeps_up _ _ c.in_ok-given.given.now _ c.pieces.playing _ _ _ _ _ _ c.pieces.invariant.visited.so_far
          c.in_ok-given.ensures.front c.in_ok-given.ensures.fits c.in_ok-given.ensures.count c.feed.ensures.adds.1
          (front_fault c.in_err-feed.field-0.0 _ _ c.in_ok-given.given.now c.within.result.now c.pieces.playing _ _ _ _ _ _ _ c.pieces.invariant.visited.so_far c.within.ensures c.in_err-feed.ensures.stops);
      reads_never_fall = omega (arith, c.read_piece.ensures.never_fall, c.pieces.invariant.reads_never_fall);
      writes_never_fall = omega (arith, c.feed.ensures.never_fall, c.pieces.invariant.writes_never_fall);
    })

pub returns-then-given-left-clause-plays : goal.returns-then-given-left-clause-plays
returns-then-given-left-clause-plays g c =
    let source : End = end_of g.S.Source.left g.S.Source.faults c.args.src.now c.read_piece.new.src in
    let sink : End = end_of g.D.Sink.written g.D.Sink.faults c.args.dst.now c.feed.new.dst in
    record {
      answers = answers_over _ _ c.in_ok-given.given.now c.within.result.now c.pieces.playing c.feed.new.self source sink _ _ c.pieces.invariant.visited.so_far
          c.in_ok-given.ensures.front c.if-given-left.true c.in_ok-given.ensures.count c.within.ensures c.in_ok-feed.ensures.plays;
      keeps_up = keeps_up _ _ c.in_ok-given.given.now _ c.pieces.playing _ _ _ _ _ _ c.pieces.invariant.visited.so_far
          c.in_ok-given.ensures.front c.in_ok-given.ensures.fits c.in_ok-given.ensures.count c.feed.ensures.adds.1
          (front_over _ _ c.in_ok-given.given.now c.within.result.now c.pieces.playing c.feed.new.self _ _ _ _ _ c.pieces.invariant.visited.so_far c.within.ensures c.in_ok-feed.ensures.plays);
      reads_never_fall = omega (arith, c.read_piece.ensures.never_fall, c.pieces.invariant.reads_never_fall);
      writes_never_fall = omega (arith, c.feed.ensures.never_fall, c.pieces.invariant.writes_never_fall);
    }

pub pieces-init : goal.pieces-init
pieces-init g c = record {
  visited = visited_nothing c.args.limit c.new-playing.result _ _ c.new-playing.ensures.run c.new-playing.ensures.emptied c.new-playing.ensures.load;
  quiet = c.new-playing.ensures.quiet;
  count = omega (arith, c.new-playing.ensures.lines);
  no_fewer = omega arith;
  reads_never_fall = omega arith;
  writes_never_fall = omega arith;
}

pub pieces-preserved : goal.pieces-preserved
pieces-preserved g c =
    let fits : length c.in_ok-given.given.now ≤ c.pieces.left = c.if-given-left.false in
    let cut : length c.within.result.now ≤ length c.in_ok-given.given.now = omega (arith, ap length c.within.ensures, length-take c.pieces.left c.in_ok-given.given.now) in
    record {
      visited = visited_more _ _ c.in_ok-given.given.now c.within.result.now c.pieces.playing _ _ _ _ _ _ _ _ c.pieces.invariant.visited
          c.in_ok-given.ensures.front c.within.ensures _ c.feed.new.self _ fits (omega arith) c.in_ok-feed.ensures.plays c.feed.ensures.visits (c.feed.ensures.joins (λ e. cc));
      quiet = c.in_ok-feed.ensures.quiet;
      count = omega (arith, c.in_ok-feed.ensures.lines, c.pieces.invariant.count);
      no_fewer = omega (arith, c.pieces.invariant.no_fewer, c.feed.ensures.visits.no_fewer);
      reads_never_fall = omega (arith, c.read_piece.ensures.never_fall, c.pieces.invariant.reads_never_fall);
      writes_never_fall = omega (arith, c.feed.ensures.never_fall, c.pieces.invariant.writes_never_fall);
    }

pub returns-in_err-given-clause-visits : goal.returns-in_err-given-clause-visits
returns-in_err-given-clause-visits g c =
    let p = err_from_is_err_and c.from_residual.result c.from_residual.ensures.1 in
    let nothing = nothing_given [] _ _ c.in_err-given.ensures.err refl in
    rw (p.1, p.2) (record {
      no_fewer = c.pieces.invariant.no_fewer;
      answered = tt;
      taken = few_still _ _ [] c.pieces.playing _ _ _ _ _ _ _ c.pieces.invariant.visited nothing refl;
      joined = joined_still _ _ [] c.pieces.playing _ _ _ _ _ _ _ c.pieces.invariant.visited nothing refl;
    })

pub returns-then-is_empty-clause-visits : goal.returns-then-is_empty-clause-visits
returns-then-is_empty-clause-visits g c =
    let none = none_in c.in_ok-given.given.now c.if-is_empty.ensures in
    rw c.end.ensures (record {
      no_fewer = c.pieces.invariant.no_fewer;
      answered = few_at_end _ _ c.in_ok-given.given.now c.pieces.playing _ _ _ _ _ _ _ c.pieces.invariant.visited c.in_ok-given.ensures.front none;
      taken = few_still _ _ c.in_ok-given.given.now c.pieces.playing _ _ _ _ _ _ _ c.pieces.invariant.visited c.in_ok-given.ensures.front none;
      joined = joined_at_end _ _ c.in_ok-given.given.now c.pieces.playing _ _ _ _ _ _ _ c.pieces.invariant.visited c.in_ok-given.ensures.front none;
    })

pub returns-in_err-feed-clause-visits : goal.returns-in_err-feed-clause-visits
returns-in_err-feed-clause-visits g c =
    let p = err_from_is_err_and c.from_residual-in_err-feed.result c.from_residual-in_err-feed.ensures.1 in
    rw (p.1, p.2) (record {
      no_fewer = omega (arith, c.pieces.invariant.no_fewer, c.feed.ensures.visits.no_fewer);
      answered = few_by_fault _ _ c.in_ok-given.given.now c.within.result.now c.pieces.playing _ _ _ _ _ _ _ _ c.pieces.invariant.visited
          c.in_ok-given.ensures.front c.within.ensures c.feed.new.self c.feed.ensures.visits c.in_ok-given.ensures.fits c.in_err-feed.field-0.0 _ _ _ c.in_err-feed.ensures.stops;
      taken = few_taken _ _ c.in_ok-given.given.now c.within.result.now c.pieces.playing _ _ _ _ _ _ _ _ c.pieces.invariant.visited
          c.in_ok-given.ensures.front c.within.ensures c.feed.new.self c.feed.ensures.visits;
      joined = joined_by_fault _ _ c.in_ok-given.given.now c.within.result.now c.pieces.playing _ _ _ _ _ _ _ _ c.pieces.invariant.visited
          c.in_ok-given.ensures.front c.within.ensures c.feed.new.self c.feed.ensures.visits c.in_ok-given.ensures.fits c.in_err-feed.field-0.0
          (λ other. c.feed.ensures.joins (λ e. other (IfErr-at_err (λ fault. fault ≡ faults.NoMemory) (sym e ∙ c.branch-feed.ensures ∙ ap (λ f. result_from_control_flow f) c.in_err-feed.is) refl)));
    })

pub returns-then-given-left-clause-visits : goal.returns-then-given-left-clause-visits
returns-then-given-left-clause-visits g c = record {
  no_fewer = omega (arith, c.pieces.invariant.no_fewer, c.feed.ensures.visits.no_fewer);
  answered = tt;
  taken = few_taken _ _ c.in_ok-given.given.now c.within.result.now c.pieces.playing _ _ _ _ _ _ _ _ c.pieces.invariant.visited
      c.in_ok-given.ensures.front c.within.ensures c.feed.new.self c.feed.ensures.visits;
  joined = joined_taken _ _ c.in_ok-given.given.now c.within.result.now c.pieces.playing _ _ _ _ _ _ _ _ c.pieces.invariant.visited
      c.in_ok-given.ensures.front c.within.ensures (c.feed.ensures.joins (λ e. cc));
}
