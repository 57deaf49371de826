use Rattle.std.proofs.Common.{sym, ◌∙◌}
use Rattle.band_event.proofs.Queues.{nobody-queued}
use Rattle.band_event.proofs.queue.Queue.call_all.Goals as goal

pub returns-clause-calls : goal.returns-clause-calls
returns-clause-calls g c =
    sym (nobody-queued c.call_first.new.self c.call_first.ensures.queued (c.call_first.ensures.empty c.loop-test.false))
    ∙ c.call_first.ensures.all ∙ c.loop.invariant.all
