use Rattle.std.proofs.Common.{◌≡◌, ◌+◌, ◌-◌, Some, ap, sym, ◌∙◌, arith}
use Rattle.band_line.specs.WaitList.{waiter_at, detached, removed_waiter}
use Rattle.band_event.specs.Event.{is_queued, room_of, without}
use Rattle.band_event.specs.declared.place.Place.TheVariants.{Called}
use Rattle.band_line.proofs.Leaving.{vacated}
use Rattle.band_event.proofs.Queues.{kept-queued, kept-called}
use Rattle.band_event.proofs.queue.Queue.cancel.Goals as goal

pub invariant_of-self : goal.invariant_of-self
invariant_of-self g c =
    kept-queued c.self.inside.list c.call-place.new.list c.remove_unlinked_waiter.new.self
    c.args.id c.self.inside.waiting c.self.inside.wakes.spare c.in-Queued.field-0 c.self.invariant c.call-place.ensures.state
    (c.call-place.ensures.was ∙ ap Some c.in-Queued.is)
    c.remove_unlinked_waiter.ensures.state c.remove_unlinked_waiter.ensures.vacant c.remove_unlinked_waiter.ensures.others

pub invariant_of-self-in-Called : goal.invariant_of-self-in-Called
invariant_of-self-in-Called g c =
    kept-called c.self.inside.list c.call-place.new.list c.remove_unlinked_waiter.new.self
    c.args.id c.self.inside.waiting c.self.inside.wakes.spare c.self.invariant c.call-place.ensures.state
    (c.call-place.ensures.was ∙ ap Some c.in-Called.is)
    c.remove_unlinked_waiter.ensures.state c.remove_unlinked_waiter.ensures.vacant c.remove_unlinked_waiter.ensures.others

pub returns-in-Queued-clause-state : goal.returns-in-Queued-clause-state
returns-in-Queued-clause-state g c =
    let spare = c.self.inside.wakes.spare in
    let waiting = c.self.inside.waiting in
    let was = c.call-place.ensures.was ∙ ap Some c.in-Queued.is in
    let fewer = c.call-place.ensures.state.fewer (sym (c.self.invariant.queued c.args.id) ∙ ap is_queued was) in
    let counted = c.self.invariant.counted in
    let fits = c.self.invariant.room in
    let one : room_of (waiter_at c.args.id c.self.inside.list) ≡ 1 = ap room_of was in
    let room : spare - (waiting - 1) ≡ (spare - waiting) + room_of (waiter_at c.args.id c.self.inside.list) = omega arith in
    ap (λ line. record { line = line; wakes = c.self.inside.wakes.wakers; room = spare - (waiting - 1) })
    (vacated c.call-place.new.list c.remove_unlinked_waiter.new.self c.self.inside.list c.args.id Called
    c.call-place.ensures.state.state c.remove_unlinked_waiter.ensures.state)
    ∙ ap (λ room. record { line = removed_waiter c.args.id (detached c.args.id c.self.inside.list); wakes = c.self.inside.wakes.wakers; room = room }) room
    ∙ ap (without c.args.id) c.self.view_is
