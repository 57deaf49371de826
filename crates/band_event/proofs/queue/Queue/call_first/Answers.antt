use Rattle.std.proofs.Common.{◌≡◌, ◌-◌, ◌++◌, ◌∷◌, [], true, false, Some, ap, sym, ◌∙◌, subst, arith}
use Rattle.band_event.specs.Event.{is_queued, all_called}
use Rattle.band_event.proofs.Queues.{all-called, stay-called, StaysAt}
use Rattle.band_event.proofs.queue.Queue.call_first.Goals as goal

pub unreachable-requires : goal.unreachable-requires
unreachable-requires g c =
    let linked = rw c.in-Some.is at c.first.ensures.linked in
    let was = c.call.ensures.was ∙ ap Some c.in-Called.is in
    let never : false ≡ true = ap is_queued (sym was) ∙ c.self.invariant.queued c.in-Some.first ∙ linked in
    cc

pub returns-clause-all : goal.returns-clause-all
returns-clause-all g c =
    let first = sym c.first.ensures.first ∙ c.in-Some.is in
    let was = c.call.ensures.was ∙ ap Some c.in-Queued.is in
    let spare = c.self.inside.wakes.spare in
    let waiting = c.self.inside.waiting in
    let wakers = c.self.inside.wakes.wakers in
    let fewer = c.call.ensures.state.fewer (rw c.in-Some.is at c.first.ensures.linked) in
    let counted = c.self.invariant.counted in
    let room : (spare - 1) - (waiting - 1) ≡ spare - waiting = omega arith in
    ap (λ wakes. all_called (record { line = c.call.new.list; wakes = wakes.wakers; room = wakes.spare - (waiting - 1) })) c.push.ensures
    ∙ ap (λ room. all_called (record { line = c.call.new.list; wakes = wakers ++ c.in-Queued.waker.0 ∷ []; room = room })) room
    ∙ all-called (record { line = c.self.inside.list; wakes = wakers; room = spare - waiting }) c.call.new.list c.in-Some.first c.in-Queued.waker
    c.call.ensures.sound first was c.call.ensures.state
    ∙ ap all_called c.self.view_is

pub returns-clause-stay : goal.returns-clause-stay
returns-clause-stay g c other =
    subst (λ queue. StaysAt other queue.line c.call.new.list) c.self.view_is
    (stay-called c.self.inside.list c.call.new.list c.in-Some.first c.call.result c.call.ensures.was c.call.ensures.state other)
