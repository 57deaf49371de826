use Rattle.std.proofs.lemmas.Result.{on_ok_weaker}
use Rattle.band_play.proofs.Telling.{tells}
use Rattle.band_play.proofs.lines.tell_call.Goals as goal

pub returns-clause-tells : goal.returns-clause-tells
returns-clause-tells g c =
    on_ok_weaker c.push_wakes.result
    (λ added. tells c.args.call c.args.player.now c.step.new.self c.push_wakes.new.player _ _ _ _ c.in_ok-reply.ensures.follows c.in_ok-push_reply.ensures added c.push_wakes.ensures.state)
    c.push_wakes.ensures.added

pub returns-clause-joins : goal.returns-clause-joins
returns-clause-joins g c = on_ok_weaker c.push_wakes.result (λ (quiet : _). c.in_ok-reply.ensures.joins) c.push_wakes.ensures.quiet
