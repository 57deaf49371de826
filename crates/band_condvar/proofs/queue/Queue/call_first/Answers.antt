use Rattle.std.proofs.Common.{◌≡◌, ◌-◌, ◌++◌, ◌∷◌, [], Some, ap, sym, ◌∙◌, subst, arith}
use Rattle.band_line.specs.WaitList.{IsUnlinked}
use Rattle.band_condvar.specs.Condvar.{AllStay, all_notified}
use Rattle.band_condvar.proofs.Queues.{stay-called, all-notified}
use Rattle.band_condvar.proofs.queue.Queue.call_first.Goals as goal

pub returns-clause-stay : goal.returns-clause-stay
returns-clause-stay g c =
    subst (λ queue. AllStay queue (record { line = c.call.new.list; wakes = c.push.new.self.wakers; room = c.push.new.self.spare - (c.self.inside.waiting - 1) })) c.self.view_is
    (stay-called c.self.inside.list c.call.new.list c.in-Some.first c.args.place c.in-Queued.waker (c.call.ensures.was ∙ ap Some c.in-Queued.is) c.call.ensures.state
    c.self.inside.wakes.wakers c.push.new.self.wakers (c.self.inside.wakes.spare - c.self.inside.waiting) (c.push.new.self.spare - (c.self.inside.waiting - 1)))

pub returns-clause-all : goal.returns-clause-all
returns-clause-all g c released =
    let first = sym c.first.ensures.first ∙ c.in-Some.is in
    let was = c.call.ensures.was ∙ ap Some c.in-Queued.is in
    let unlinked = subst (λ place. IsUnlinked c.in-Some.first place c.self.inside.list c.call.new.list) released c.call.ensures.state in
    let spare = c.self.inside.wakes.spare in
    let waiting = c.self.inside.waiting in
    let wakers = c.self.inside.wakes.wakers in
    let fewer = c.call.ensures.state.fewer (rw c.in-Some.is at c.first.ensures.linked) in
    let counted = c.self.invariant.counted in
    let room : (spare - 1) - (waiting - 1) ≡ spare - waiting = omega arith in
    ap (λ wakes. all_notified (record { line = c.call.new.list; wakes = wakes.wakers; room = wakes.spare - (waiting - 1) })) c.push.ensures
    ∙ ap (λ room. all_notified (record { line = c.call.new.list; wakes = wakers ++ c.in-Queued.waker.0 ∷ []; room = room })) room
    ∙ all-notified c.call.new.list (record { line = c.self.inside.list; wakes = wakers; room = spare - waiting }) c.in-Some.first c.in-Queued.waker
    c.call.ensures.sound first was unlinked
    ∙ ap all_notified c.self.view_is
