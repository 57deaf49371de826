use Rattle.band_sem.proofs.Own.{IsOwn-polled, IsOwn-polls, IsOwn-cancels}
use Rattle.band_uses.proofs.places.another_asks.Goals as goal

pub cancel-requires-clause-own : goal.cancel-requires-clause-own
cancel-requires-clause-own g c =
    IsOwn-polled c.args.other c.poll_once-answer.new.self 0 c.args.sem.now c.poll_once-answer.new.sem c.poll_once-answer.result c.requires.others c.poll_once-answer.ensures.polls

pub returns : goal.returns
returns g c =
    let after = IsOwn-polls c.args.mine.now c.args.sem.now c.poll_once-answer.new.sem c.requires.own c.args.other c.poll_once-answer.new.self 0 c.poll_once-answer.result c.requires.apart c.poll_once-answer.ensures.polls in
    IsOwn-cancels c.args.mine.now c.poll_once-answer.new.sem c.cancel.new.sem after.0 c.poll_once-answer.new.self.stage after.1 c.cancel.ensures.state c.cancel.ensures.lawful
