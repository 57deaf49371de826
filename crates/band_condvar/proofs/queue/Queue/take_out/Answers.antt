use Rattle.std.proofs.Common.{◌≡◌, ◌+◌, ◌-◌, Some, ap, sym, ◌∙◌, arith}
use Rattle.band_line.specs.WaitList.{waiter_at, detached, removed_waiter}
use Rattle.band_line.proofs.Leaving.{vacated}
use Rattle.band_condvar.specs.Condvar.{is_queued, room_of, without}
use Rattle.band_condvar.specs.declared.place.Place.TheVariants.{Released}
use Rattle.band_condvar.proofs.queue.Queue.take_out.Goals as goal

pub returns-in-Queued-clause-state : goal.returns-in-Queued-clause-state
returns-in-Queued-clause-state g c =
    let spare = c.self.inside.wakes.spare in
    let waiting = c.self.inside.waiting in
    let was = c.call-place.ensures.was ∙ ap Some c.in-Queued.is in
    let fewer = c.call-place.ensures.state.fewer (sym (c.self.invariant.queued c.args.id) ∙ ap is_queued was) in
    let counted = c.self.invariant.counted in
    let fits = c.self.invariant.fits in
    let one : room_of (waiter_at c.args.id c.self.inside.list) ≡ 1 = ap room_of was in
    let room : spare - (waiting - 1) ≡ (spare - waiting) + room_of (waiter_at c.args.id c.self.inside.list) = omega arith in
    ap (λ line. record { line = line; wakes = c.self.inside.wakes.wakers; room = spare - (waiting - 1) })
    (vacated c.call-place.new.list c.remove_unlinked_waiter.new.self c.self.inside.list c.args.id Released
    c.call-place.ensures.state.state c.remove_unlinked_waiter.ensures.state)
    ∙ ap (λ room. record { line = removed_waiter c.args.id (detached c.args.id c.self.inside.list); wakes = c.self.inside.wakes.wakers; room = room }) room
    ∙ ap (without c.args.id) c.self.view_is

pub returns-in-Chosen-clause-state : goal.returns-in-Chosen-clause-state
returns-in-Chosen-clause-state g c =
    let left = c.self.inside.wakes.spare - c.self.inside.waiting in
    let none : room_of (waiter_at c.args.id c.self.inside.list) ≡ 0 = ap room_of (c.call-place.ensures.was ∙ ap Some c.in-Chosen.is) in
    let room : left ≡ left + room_of (waiter_at c.args.id c.self.inside.list) = omega arith in
    ap (λ line. record { line = line; wakes = c.self.inside.wakes.wakers; room = left })
    (vacated c.call-place.new.list c.remove_unlinked_waiter.new.self c.self.inside.list c.args.id Released
    c.call-place.ensures.state.state c.remove_unlinked_waiter.ensures.state)
    ∙ ap (λ room. record { line = removed_waiter c.args.id (detached c.args.id c.self.inside.list); wakes = c.self.inside.wakes.wakers; room = room }) room
    ∙ ap (without c.args.id) c.self.view_is
