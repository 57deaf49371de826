use Rattle.band_sem.proofs.Own.{IsOwn-polled}
use Rattle.band_sem.proofs.closes.hears.Goals as goal

pub poll_once-second-requires-clause-own : goal.poll_once-second-requires-clause-own
poll_once-second-requires-clause-own g c =
    IsOwn-polled c.args.request c.poll_once-first.new.self 1 c.args.sem.now c.poll_once-first.new.sem c.poll_once-first.result c.requires.own c.poll_once-first.ensures.polls
