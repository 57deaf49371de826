use Rattle.std.proofs.Common.{inr}
use Rattle.band_oneshot.proofs.Sending.{sent_last}
use Rattle.band_oneshot.proofs.sender.Sender.send.Goals as goal

pub returns-then-woken-clause-sends : goal.returns-then-woken-clause-sends
returns-then-woken-clause-sends g c = rw c.if-woken.true at (sent_last c.args.message c.in-Awaking.waker c.args.self
    c.in-Awaking.sending c.finish-woken.result.0 c.finish-woken.result.1 c.in-Awaking.ensures.begins
    c.finish-woken.ensures)

pub returns-else-woken-clause-sends : goal.returns-else-woken-clause-sends
returns-else-woken-clause-sends g c = inr (
  c.in-Awaking.waker,
  rw c.if-woken.false at (sent_last c.args.message c.in-Awaking.waker
      c.args.self c.in-Awaking.sending c.finish-woken.result.0 c.finish-woken.result.1
      c.in-Awaking.ensures.begins c.finish-woken.ensures),
)
