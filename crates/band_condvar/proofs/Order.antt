-- A poll that had the mutex, and gives it back to wait again, keeps the order of those that wait for it.
use Rattle.std.proofs.Common.{◌≡◌, ℕ, ℤ, arith, sym, subst, pos, ◌+ℤ◌, ◌-ℤ◌, Option, Some, None, Bool, Ok}
use Rattle.std.specs.Borrow.{MutBor}
use Rattle.std.specs.Fn.{Mut}
use Rattle.std.proofs.lemmas.Int.{ints}
use Rattle.band_balance.specs.Line.{Entry, Line, AreAlike, entry_named, poll_granted, take_permits, give_back, settle, withdraw}
use Rattle.band_base.specs.declared.poll.Poll.{Poll}
use Rattle.band_base.specs.declared.poll.Poll.TheVariants.{Ready, Pending}
use Rattle.band_base.specs.declared.waker.Waker.{Waker}
use Rattle.band_sem.specs.Laws.{KeepsOrder}
use Rattle.band_sem.specs.Permit.{Permit}
use Rattle.band_sem.specs.Semaphore.{SemaphoreState, IsLike, is_slot, taken, given_back}
use Rattle.band_sem.proofs.Laws.{KeepsOrder-gives_back, KeepsOrder-cancels}
use Rattle.band_condvar.specs.declared.place.Place.{Place}
use Rattle.band_condvar.specs.declared.place.Place.TheVariants.{Queued, Chosen, Released}
use Rattle.band_condvar.specs.Condvar.{gone}
use Rattle.band_signal.specs.WaitQueue.{place_at}
use Rattle.band_condvar.specs.Waits.{Stage, Enqueue, Registered, Reacquiring, Finished, Monitor, monitor, Test, PollsPlace, Acquires, Asks}

-- who was granted a permit and gives it back leaves the line as one that is cancelled
given_up : (slot : ℕ) (old new : Line ℕ) → entry_named (is_slot slot) old.granted ≡ Some (record { name = slot; size = 1 })
    → AreAlike (give_back 1 (poll_granted (is_slot slot) old)) new → KeepsOrder old new
given_up slot old new there alike =
    KeepsOrder-cancels slot old new (subst (λ (found : Option (Entry ℕ)). AreAlike (settle (withdraw found (is_slot slot) old)) new) (sym there) alike)

-- who took a permit and gives it back leaves the line as one that gives nothing back
put_back : (old new : Line ℕ) → AreAlike (give_back 1 (take_permits 1 old)) new → KeepsOrder old new
put_back old new alike =
    KeepsOrder-gives_back 0 old new (subst (λ (z : ℤ). AreAlike (settle (record old { free = z })) new) (same old.free) alike)
  where
    same : (z : ℤ) → (z -ℤ pos 1) +ℤ pos 1 ≡ z +ℤ pos 0
    same z = omega (arith, ints)

gives_back : (stage : Stage) (of : ℕ) (waker : Waker) (old : Monitor) (guard : Permit) (between : Stage) (had : Monitor) (mutex : SemaphoreState)
    → Acquires stage of waker old (Ok (Ready guard)) between had → IsLike (given_back 1 had.mutex) mutex → KeepsOrder old.mutex.line mutex.line
gives_back (Enqueue guard') of waker old guard between had mutex (is, ends, same) like =
    KeepsOrder-gives_back 1 old.mutex.line mutex.line (subst (λ (m : Monitor). AreAlike (give_back 1 m.mutex.line) mutex.line) same like.line)
gives_back (Registered slot) of waker old guard between had mutex polls like = by_place (place_at slot old.condvar) polls
  where
    took : had ≡ monitor (gone slot old.condvar) (taken 1 old.mutex) → KeepsOrder old.mutex.line mutex.line
    took same = put_back old.mutex.line mutex.line (subst (λ (m : Monitor). AreAlike (give_back 1 m.mutex.line) mutex.line) same like.line)

    by_place : (place : Option Place) → PollsPlace place slot of waker old (Ok (Ready guard)) between had → KeepsOrder old.mutex.line mutex.line
    by_place (Some (Queued before)) (is, ends, same) = absurd (cc)
    by_place (Some Chosen) (served, gives, ends, same) = took same
    by_place (Some Released) (served, gives, ends, same) = took same
    by_place None polls = absurd polls
gives_back (Reacquiring baton slot) of waker old guard between had mutex (there, gives, ends, same) like =
    given_up slot old.mutex.line mutex.line there (subst (λ (m : Monitor). AreAlike (give_back 1 m.mutex.line) mutex.line) same like.line)
gives_back Finished of waker old guard between had mutex (is, ends, same) like = absurd (cc)

-- one that has the guard asks its condition: it has the mutex still, or gives it back
pub asked-order : {F T : Type 0} (g : Mut F (MutBor T × Unit {0}) (Bool × (MutBor T × Unit {0})))
    (stage : Stage) (of : ℕ) (waker : Waker) (old : Monitor) (guard given : Permit) (between : Stage) (had : Monitor)
    (answer : Poll Permit) (before after : Test F T) (next : Stage) (new : Monitor) → Acquires stage of waker old (Ok (Ready guard)) between had → KeepsOrder old.mutex.line had.mutex.line
    → Asks g given waker before had (Ok answer) after next new → KeepsOrder old.mutex.line new.mutex.line
asked-order g stage of waker old guard given between had (Ready kept) before after next new has order (answers, gives, ends, (room, mutex)) =
    subst (λ (m : SemaphoreState). KeepsOrder old.mutex.line m.line) (sym mutex) order
asked-order g stage of waker old guard given between had Pending before after next new has order (answers, (ends, vacant, joins, like)) =
    gives_back stage of waker old guard between had new.mutex has like
