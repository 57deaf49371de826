use Rattle.std.proofs.Common.{Some}
use Rattle.band_oneshot.specs.declared.view.Held.TheVariants as held
use Rattle.band_oneshot.specs.Kept.Plays.{receiver_of}
use Rattle.band_oneshot.proofs.Slots.{begins_with}
use Rattle.band_oneshot.proofs.Waiting.{polls_empty, polls_again, looked_at, fetched_at}
use Rattle.band_oneshot.proofs.recv.Recv.poll.Goals as goal

pub returns-then-found-eq-EMPTY-clause-polls : goal.returns-then-found-eq-EMPTY-clause-polls
returns-then-found-eq-EMPTY-clause-polls g c =
    let looked = looked_at _ _ _ c.args.self.now _ c.poll_load-found.ensures.play.1 c.if-found-eq-EMPTY.true c.self.view_is in
    polls_empty _ c.args.self.now (receiver_of c.register.new.self.seat.me.0) c.register.result (rw looked at c.register.ensures.registers)

pub register-requires-then-now-eq-RECEIVING-clause-slot : goal.register-requires-then-now-eq-RECEIVING-clause-slot
register-requires-then-now-eq-RECEIVING-clause-slot g c =
    let there = c.receiving_to_empty-now.ensures.play.2 c.if-now-eq-RECEIVING.true in
    (Some (held.Waker there.0), begins_with _ _ _ there.1)

pub returns-then-now-eq-RECEIVING-clause-polls : goal.returns-then-now-eq-RECEIVING-clause-polls
returns-then-now-eq-RECEIVING-clause-polls g c =
    let looked = looked_at _ _ _ c.args.self.now _ c.poll_load-found.ensures.play.1 c.if-found-eq-RECEIVING.true c.self.view_is in
    let back = fetched_at _ _ _ _ c.receiving_to_empty-now.ensures.play.1 c.if-now-eq-RECEIVING.true looked in
    polls_again _ c.args.self.now (receiver_of c.register-then-now-eq-RECEIVING.new.self.seat.me.0) c.register-then-now-eq-RECEIVING.result
    (rw back at c.register-then-now-eq-RECEIVING.ensures.registers)
