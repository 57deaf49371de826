use Rattle.std.proofs.Common.{ℕ, [], Option, Err, subst, ap, ◌∙◌}
use Rattle.std.proofs.lemmas.Result.{err_from_is_err_and}
use Rattle.band_play.specs.Playing.{RunsPiece}
use Rattle.std.proofs.KnownBytes.{Appends-nil}
use Rattle.band_play.proofs.Pieces.{piece_played, piece_malformed, piece_unwritten, piece_unfinished}
use Rattle.band_play.proofs.Visits.{pays_written}
use Rattle.band_play.proofs.playing.Playing.feed.Goals as goal

pub returns-in_err-malformed-clause-stops : goal.returns-in_err-malformed-clause-stops
returns-in_err-malformed-clause-stops g c =
    let p = err_from_is_err_and c.from_residual.result c.from_residual.ensures.1 in
    rw p.1 (λ given start played. piece_unfinished p.0 c.args.piece.now c.args.self.now _ _ _ p.2 given start played)

pub returns-in_err-write_text-clause-stops : goal.returns-in_err-write_text-clause-stops
returns-in_err-write_text-clause-stops g c =
    let p = err_from_is_err_and c.from_residual-in_err-write_text.result c.from_residual-in_err-write_text.ensures.1 in
    rw p.1 (λ given start played. piece_unwritten c.in_ok-malformed.malformed c.in_err-write_text.field-0.0 p.0 c.args.piece.now c.args.self.now c.run_lines.new.self _ _ _ _ p.2
    c.in_ok-malformed.ensures.runs c.in_err-write_text.ensures.err (λ e. c.in_err-write_text.ensures.failed (cc)) given start played)

pub returns-in-None-clause-plays : goal.returns-in-None-clause-plays
returns-in-None-clause-plays g c = λ given start played.
    let P : Option ℕ → Type 0 = λ m. RunsPiece m c.args.piece.now c.args.self.now c.run_lines.new.self in
    piece_played c.args.piece.now c.args.self.now c.run_lines.new.self c.write_text.new.self _ _
    (subst P c.in-None.is c.in_ok-malformed.ensures.runs) c.in_ok-write_text.ensures.ok c.write_text.ensures.others c.in_ok-write_text.ensures.emptied given start played

pub returns-in-Some-clause-stops : goal.returns-in-Some-clause-stops
returns-in-Some-clause-stops g c = λ given start played.
    let P : Option ℕ → Type 0 = λ m. RunsPiece m c.args.piece.now c.args.self.now c.run_lines.new.self in
    piece_malformed c.args.piece.now c.in-Some.line c.args.self.now c.run_lines.new.self _ _ (subst P c.in-Some.is c.in_ok-malformed.ensures.runs) c.in_ok-write_text.ensures.ok given start played

pub returns-in_err-malformed-clause-adds : goal.returns-in_err-malformed-clause-adds
returns-in_err-malformed-clause-adds g c = ([], Appends-nil (g.D.Sink.written c.args.dst.now))

pub returns-in_err-write_text-clause-adds : goal.returns-in_err-write_text-clause-adds
returns-in_err-write_text-clause-adds g c = (c.in_err-write_text.ensures.err.prefix, c.in_err-write_text.ensures.err.appended)

pub returns-in-None-clause-adds : goal.returns-in-None-clause-adds
returns-in-None-clause-adds g c = (_, c.in_ok-write_text.ensures.ok)

pub returns-in-Some-clause-adds : goal.returns-in-Some-clause-adds
returns-in-Some-clause-adds g c = (_, c.in_ok-write_text.ensures.ok)

pub returns-in_err-malformed-clause-joins : goal.returns-in_err-malformed-clause-joins
returns-in_err-malformed-clause-joins g c =
    let p = err_from_is_err_and c.from_residual.result c.from_residual.ensures.1 in
    λ other. absurd (other (p.1 ∙ ap (λ f. Err f) p.2))

pub returns-in_err-write_text-clause-visits : goal.returns-in_err-write_text-clause-visits
returns-in_err-write_text-clause-visits g c = pays_written _ _ c.run_lines.new.self c.write_text.new.self c.run_lines.ensures.visits c.write_text.ensures.others

pub returns-in-None-clause-visits : goal.returns-in-None-clause-visits
returns-in-None-clause-visits g c = pays_written _ _ c.run_lines.new.self c.write_text.new.self c.run_lines.ensures.visits c.write_text.ensures.others

pub returns-in-Some-clause-visits : goal.returns-in-Some-clause-visits
returns-in-Some-clause-visits g c = pays_written _ _ c.run_lines.new.self c.write_text.new.self c.run_lines.ensures.visits c.write_text.ensures.others
