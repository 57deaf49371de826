use Rattle.std.proofs.Common.{inr, rules, subst}
use Rattle.band_play.specs.Play.{ToldWith, AskToPlay, end_of}
use Rattle.band_play.proofs.Spelling.{not_asked}
use Rattle.band_play.proofs.program.run.Goals as goal

pub returns-in-None-clause-runs : goal.returns-in-None-clause-runs
returns-in-None-clause-runs g c =
    inr (inr (
      (not_asked _ _ c.asks_to_play.ensures c.if-asks_to_play.false, c.in-None.ensures.none),
      subst (λ text. ToldWith 2 text c.tell.result (end_of g.E.Sink.written g.E.Sink.faults c.args.err.now c.tell.new.err)) c.as_bytes.ensures.value c.tell.ensures.told,
    ))
