use Rattle.band_sem.proofs.Own.{IsOwn-polled}
use Rattle.band_sem.proofs.Requests.{AreOwn-polls, AreOwn-push}
use Rattle.band_sem.proofs.callers.polls.Goals as goal

pub returns-in-Ok-Ready : goal.returns-in-Ok-Ready
returns-in-Ok-Ready g c =
    (AreOwn-polls c.args.request c.args.sem.now c.poll_once.new.sem c.poll_once.new.self c.args.waker.0 c.poll_once.result c.args.requests.now.items c.requires.others c.requires.apart
    c.poll_once.ensures.polls).0

pub returns-in-Ok-Pending : goal.returns-in-Ok-Pending
returns-in-Ok-Pending g c =
    let kept = AreOwn-polls c.args.request c.args.sem.now c.poll_once.new.sem c.poll_once.new.self c.args.waker.0 c.poll_once.result c.args.requests.now.items c.requires.others c.requires.apart
    c.poll_once.ensures.polls in
    let mine = IsOwn-polled c.args.request c.poll_once.new.self c.args.waker.0 c.args.sem.now c.poll_once.new.sem c.poll_once.result c.requires.own c.poll_once.ensures.polls in
    rw c.keeps_request.ensures (AreOwn-push c.poll_once.new.sem c.args.requests.now.items c.poll_once.new.self kept.0 mine kept.1)

pub returns-in-Err-Closed : goal.returns-in-Err-Closed
returns-in-Err-Closed g c =
    (AreOwn-polls c.args.request c.args.sem.now c.poll_once.new.sem c.poll_once.new.self c.args.waker.0 c.poll_once.result c.args.requests.now.items c.requires.others c.requires.apart
    c.poll_once.ensures.polls).0
