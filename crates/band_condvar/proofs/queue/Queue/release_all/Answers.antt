use Rattle.std.proofs.Common.{refl, sym, ◌∙◌}
use Rattle.band_condvar.proofs.Queues.{nobody-queued}
use Rattle.band_condvar.proofs.queue.Queue.release_all.Goals as goal

pub returns-clause-state : goal.returns-clause-state
returns-clause-state g c =
    sym (nobody-queued c.call_first.new.self c.call_first.ensures.sound.queued (c.call_first.ensures.empty c.loop-test.false))
    ∙ c.call_first.ensures.all refl ∙ c.loop.invariant.all
