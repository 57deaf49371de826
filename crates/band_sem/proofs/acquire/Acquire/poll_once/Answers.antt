use Rattle.std.proofs.Common.{refl}
use Rattle.band_sem.proofs.Laws.{KeepsOrder-same, KeepsOrder-first_poll, KeepsOrder-later_poll}
use Rattle.band_sem.proofs.Whole.{StaysWhole-first_poll, StaysWhole-later_poll}
use Rattle.band_sem.proofs.acquire.Acquire.poll_once.Goals as goal

pub returns-in-NotPolled-clause-order : goal.returns-in-NotPolled-clause-order
returns-in-NotPolled-clause-order g c =
    KeepsOrder-first_poll c.args.sem.now c.poll_first.new.sem c.args.self.now c.poll_first.new.self c.args.waker.0 c.poll_first.result c.poll_first.ensures.polls

pub returns-in-Joined-clause-order : goal.returns-in-Joined-clause-order
returns-in-Joined-clause-order g c =
    KeepsOrder-later_poll c.args.sem.now c.poll_later.new.sem c.in-Joined.slot c.args.self.now c.poll_later.new.self c.args.waker.0 c.poll_later.result c.poll_later.ensures.polls

pub returns-in-Finished-clause-order : goal.returns-in-Finished-clause-order
returns-in-Finished-clause-order g c = KeepsOrder-same c.args.sem.now.line c.args.sem.now.line refl

pub returns-in-NotPolled-clause-whole : goal.returns-in-NotPolled-clause-whole
returns-in-NotPolled-clause-whole g c = StaysWhole-first_poll c.args.sem.now c.poll_first.new.sem c.args.self.now c.poll_first.new.self c.args.waker.0 c.poll_first.result c.poll_first.ensures.polls

pub returns-in-Joined-clause-whole : goal.returns-in-Joined-clause-whole
returns-in-Joined-clause-whole g c = StaysWhole-later_poll c.args.sem.now c.poll_later.new.sem c.in-Joined.slot c.args.self.now c.poll_later.new.self c.args.waker.0 c.poll_later.result c.poll_later.ensures.polls
