use Rattle.std.proofs.Common.{ap, sym, ◌∙◌, subst, Ok}
use Rattle.band_condvar.specs.Condvar.{with_room}
use Rattle.band_condvar.specs.Waits.{monitor, test, PollsWhile}
use Rattle.band_condvar.proofs.Order.{asked-order}
use Rattle.band_condvar.proofs.While.{made-room, while-waits, while-asks}
use Rattle.band_condvar.proofs.wait_while.CondWaitWhile.poll.Goals as goal

pub unreachable-requires : goal.unreachable-requires
unreachable-requires g c =
    let old = c.cv.inside.queue in
    let made = c.reserve.new.self in
    let room = made-room c.reserve.result c.is_err.result c.has_turn.new.queue made c.is_err.ensures.value c.if-is_err.false c.reserve.ensures.ok in
    while-waits g.F.FnMut c.self.inside.wait c.args.waker old made c.args.m.now (sym c.has_turn.ensures.turn ∙ c.if-not-has_turn.false)
    (room ∙ ap (λ q. with_room made.line.nodes.spare made.room q) c.has_turn.ensures.same)
    c.acquire.new.self.stage (monitor c.acquire.new.queue c.acquire.new.m) (rw c.in-Pending.is at c.in_ok-guard.ensures.acquires)

pub returns-clause-polls : goal.returns-clause-polls
returns-clause-polls g c =
    let old = c.cv.inside.queue in
    let made = c.reserve.new.self in
    let after = test c.ask.new.self.condition c.ask.new.value in
    let new = monitor c.ask.new.queue c.ask.new.m in
    let room = made-room c.reserve.result c.is_err.result c.has_turn.new.queue made c.is_err.ensures.value c.if-is_err.false c.reserve.ensures.ok in
    let polls = while-asks g.F.FnMut c.self.inside.wait c.args.waker old made c.args.m.now (sym c.has_turn.ensures.turn ∙ c.if-not-has_turn.false)
    (room ∙ ap (λ q. with_room made.line.nodes.spare made.room q) c.has_turn.ensures.same)
    c.in-Ready.guard c.ask.result (test c.self.inside.condition c.args.value.now) after
    c.acquire.new.self.stage (monitor c.acquire.new.queue c.acquire.new.m) c.ask.new.self.wait new
    (rw c.in-Ready.is at c.in_ok-guard.ensures.acquires) c.ask.ensures.asks (c.ask.ensures.of ∙ c.acquire.ensures.of) in
    let at_cv = subst (λ cv. PollsWhile g.F.FnMut c.self.inside.wait c.args.waker (test c.self.inside.condition c.args.value.now) (monitor cv c.args.m.now) (Ok c.ask.result)
    after c.ask.new.self.wait new) c.cv.view_is polls in
    subst (λ self. PollsWhile g.F.FnMut self.wait c.args.waker (test self.condition c.args.value.now) (monitor c.args.cv.now c.args.m.now) (Ok c.ask.result)
    after c.ask.new.self.wait new) c.self.view_is at_cv

pub returns-clause-order : goal.returns-clause-order
returns-clause-order g c =
    asked-order g.F.FnMut c.self.inside.wait.stage c.self.inside.wait.of c.args.waker (monitor c.reserve.new.self c.args.m.now) c.in-Ready.guard c.in-Ready.guard c.acquire.new.self.stage
    (monitor c.acquire.new.queue c.acquire.new.m) c.ask.result (test c.self.inside.condition c.args.value.now) (test c.ask.new.self.condition c.ask.new.value) c.ask.new.self.wait.stage
    (monitor c.ask.new.queue c.ask.new.m) (rw c.in-Ready.is at c.in_ok-guard.ensures.acquires) c.acquire.ensures.order c.ask.ensures.asks
