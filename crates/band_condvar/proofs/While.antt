-- A poll of a wait with a condition, put together: room is made, the guard is had or not, and then the condition is asked.
use Rattle.std.proofs.Common.{◌≡◌, refl, ℕ, ◌+◌, ap, sym, ◌∙◌, subst, inl, inr, arith, Bool, true, false, not, ◌⊎◌, Option, Some, None, is_some, Result, Ok, Err}
use Rattle.std.specs.Borrow.{MutBor}
use Rattle.std.specs.Fn.{Mut, Called, CalledAtMut}
use Rattle.std.specs.Prelude.{◌&&◌, OnOk, MatchBool}
use Rattle.std.specs.Result.{is_err}
use Rattle.std.specs.declared.alloc.AllocError.{AllocError}
use Rattle.band_balance.specs.Line.{is_served}
use Rattle.band_base.specs.declared.poll.Poll.{Poll}
use Rattle.band_base.specs.declared.poll.Poll.TheVariants.{Ready, Pending}
use Rattle.band_base.specs.declared.poll.PollError.{PollError}
use Rattle.band_base.specs.declared.poll.PollError.TheVariants as errors
use Rattle.band_base.specs.declared.waker.Waker.{Waker}
use Rattle.band_sem.specs.Permit.{Permit}
use Rattle.band_sem.specs.Semaphore as sem
use Rattle.band_sem.specs.Semaphore.{SemaphoreState, is_slot, is_granted, taken, received}
use Rattle.band_condvar.specs.declared.place.Place.{Place}
use Rattle.band_condvar.specs.declared.place.Place.TheVariants.{Queued, Chosen, Released}
use Rattle.band_signal.specs.WaitQueue.{place_at}
use Rattle.band_condvar.specs.Batons.{chosen_count, batons, one_if, ended_while}
use Rattle.band_condvar.specs.Condvar.{CondvarState, is_queued, with_waker, gone, with_room}
use Rattle.band_condvar.specs.Waits.{Stage, Enqueue, Registered, Reacquiring, Finished, Wait, Monitor, monitor, Test, Registers, Leaves, PollsPlace, PollsAt, Acquires, Answers, Asks, AsksInTurn, PollsWhileIf, PollsWhile, IsRoomier, JoinsMutex, has_turn, has_baton}
use Rattle.band_condvar.proofs.Batons.{joins, poll-keeps, acquires-keep, none-ended}

-- a call at a `&mut`, by the values there
pub called-at : {F T : Type 0} (g : Mut F (MutBor T × Unit {0}) (Bool × (MutBor T × Unit {0}))) {f f' : F} {lent left : MutBor T} {r : Bool}
    → Called g f (lent, tt) (r, (left, tt)) f' → CalledAtMut g f lent.now r f' left.now
called-at g {f} {f'} {lent} {left} {r} called = record { shown = lent; shows = refl; left = left; called = called; leaves = refl }

-- The room that was made shows in nothing else.
module _ (of : ℕ) (waker : Waker) (old : CondvarState) (mutex : SemaphoreState) (spare room : ℕ) where
  abbrev was : Monitor
  was = monitor old mutex

  abbrev made : Monitor
  made = monitor (with_room spare room old) mutex

  by_leaving : (baton : Bool) (slot : ℕ) (answer : Poll Permit) (next : Stage) (new : Monitor) → Leaves baton slot of waker made (Ok answer) next new
      → (held : Monitor) × Leaves baton slot of waker was (Ok answer) next held × IsRoomier held new
  by_leaving baton slot (Ready guard) next new (served, gives, ends, same) =
      let held : Monitor = monitor (gone slot old) (taken 1 mutex) in
      (held, (served, gives, ends, refl), subst (λ (n : Monitor). IsRoomier held n) (sym same) (refl, refl))
  by_leaving baton slot Pending next new (waits, (place, fresh, ends, same)) =
      let held : Monitor = monitor (gone slot old) (sem.joined place 1 waker.0 mutex) in
      (held, (waits, (place, fresh, ends, refl)), subst (λ (n : Monitor). IsRoomier held n) (sym same) (refl, refl))

  by_place : (place : Option Place) (slot : ℕ) (answer : Poll Permit) (next : Stage) (new : Monitor) → PollsPlace place slot of waker made (Ok answer) next new
      → (held : Monitor) × PollsPlace place slot of waker was (Ok answer) next held × IsRoomier held new
  by_place (Some (Queued before)) slot answer next new (is, ends, same) =
      let held : Monitor = monitor (with_waker slot waker old) mutex in
      (held, (is, ends, refl), subst (λ (n : Monitor). IsRoomier held n) (sym same) (refl, refl))
  by_place (Some Chosen) slot answer next new leaves = by_leaving true slot answer next new leaves
  by_place (Some Released) slot answer next new leaves = by_leaving false slot answer next new leaves
  by_place None slot answer next new polls = absurd polls

  pub roomier : (stage : Stage) (answer : Poll Permit) (next : Stage) (new : Monitor) → Acquires stage of waker made (Ok answer) next new
      → (held : Monitor) × Acquires stage of waker was (Ok answer) next held × IsRoomier held new
  roomier (Enqueue guard) answer next new (is, ends, same) =
      (was, (is, ends, refl), subst (λ (n : Monitor). IsRoomier was n) (sym same) (refl, refl))
  roomier (Registered slot) answer next new polls = by_place (place_at slot old) slot answer next new polls
  roomier (Reacquiring baton slot) (Ready guard) next new (there, gives, ends, same) =
      let held : Monitor = monitor old (received slot 1 mutex) in
      (held, (there, gives, ends, refl), subst (λ (n : Monitor). IsRoomier held n) (sym same) (refl, refl))
  roomier (Reacquiring baton slot) Pending next new (none, ends, same) =
      let held : Monitor = monitor old (sem.with_waker slot waker.0 mutex) in
      (held, (none, ends, refl), subst (λ (n : Monitor). IsRoomier held n) (sym same) (refl, refl))
  roomier Finished answer next new (is, ends, same) = absurd (cc)

-- who has the guard is finished
finishes : (stage : Stage) (of : ℕ) (waker : Waker) (old : Monitor) (guard : Permit) (next : Stage) (new : Monitor) → Acquires stage of waker old (Ok (Ready guard)) next new
    → next ≡ Finished
finishes (Enqueue guard') of waker old guard next new (is, ends, same) = ends
finishes (Registered slot) of waker old guard next new polls = by_place (place_at slot old.condvar) polls
  where
    by_place : (place : Option Place) → PollsPlace place slot of waker old (Ok (Ready guard)) next new → next ≡ Finished
    by_place (Some (Queued before)) (is, ends, same) = absurd (cc)
    by_place (Some Chosen) (served, gives, ends, same) = ends
    by_place (Some Released) (served, gives, ends, same) = ends
    by_place None polls = absurd polls
finishes (Reacquiring baton slot) of waker old guard next new (there, gives, ends, same) = ends
finishes Finished of waker old guard next new (is, ends, same) = absurd (cc)

-- whose turn it was has the guard
turn_at : (slot of : ℕ) (waker : Waker) (old : Monitor) (guard : Permit) (next : Stage) (new : Monitor) (place : Option Place)
    → PollsPlace place slot of waker old (Ok (Ready guard)) next new → (not (is_queued place) && is_served 1 old.mutex.line) ≡ true
turn_at slot of waker old guard next new (Some (Queued before)) (is, ends, same) = absurd (cc)
turn_at slot of waker old guard next new (Some Chosen) (served, gives, ends, same) = served
turn_at slot of waker old guard next new (Some Released) (served, gives, ends, same) = served
turn_at slot of waker old guard next new None polls = absurd polls

pub had-turn : (stage : Stage) (of : ℕ) (waker : Waker) (old : Monitor) (guard : Permit) (next : Stage) (new : Monitor)
    → Acquires stage of waker old (Ok (Ready guard)) next new → has_turn stage old ≡ true
had-turn (Enqueue guard') of waker old guard next new has = refl
had-turn (Registered slot) of waker old guard next new has = turn_at slot of waker old guard next new (place_at slot old.condvar) has
had-turn (Reacquiring baton slot) of waker old guard next new (there, gives, ends, same) = ap is_some there
had-turn Finished of waker old guard next new (is, ends, same) = absurd (cc)

-- and who goes on without it had no turn
no_turn_at : (slot of : ℕ) (waker : Waker) (old : Monitor) (next : Stage) (new : Monitor) (place : Option Place)
    → PollsPlace place slot of waker old (Ok Pending) next new → (not (is_queued place) && is_served 1 old.mutex.line) ≡ false
no_turn_at slot of waker old next new (Some (Queued before)) polls = refl
no_turn_at slot of waker old next new (Some Chosen) (waits, joins) = waits
no_turn_at slot of waker old next new (Some Released) (waits, joins) = waits
no_turn_at slot of waker old next new None polls = absurd polls

no-turn : (stage : Stage) (of : ℕ) (waker : Waker) (old : Monitor) (next : Stage) (new : Monitor)
    → Acquires stage of waker old (Ok Pending) next new → has_turn stage old ≡ false
no-turn (Enqueue guard) of waker old next new (is, ends, same) = absurd (cc)
no-turn (Registered slot) of waker old next new waits = no_turn_at slot of waker old next new (place_at slot old.condvar) waits
no-turn (Reacquiring baton slot) of waker old next new (none, ends, same) = ap is_some none
no-turn Finished of waker old next new (is, ends, same) = refl

-- who has no turn is polled as one that is to have the guard
polled : (stage : Stage) (of : ℕ) (waker : Waker) (old : Monitor) (result : Result (Poll Permit) PollError) (next : Stage) (new : Monitor) → has_turn stage old ≡ false
    → PollsAt stage of waker old result next new → Acquires stage of waker old result next new
polled (Enqueue guard) of waker old result next new may polls = absurd (cc)
polled (Registered slot) of waker old result next new may polls = polls
polled (Reacquiring baton slot) of waker old result next new may polls = polls
polled Finished of waker old result next new may polls = polls

-- more room, and more again
more-room : (held had new : Monitor) → IsRoomier held had → IsRoomier had new → IsRoomier held new
more-room held had new (room, mutex) (room', mutex') =
    (room' ∙ ap (with_room new.condvar.line.nodes.spare new.condvar.room) room, mutex' ∙ mutex)

-- room was made where that didn't fail
pub made-room : (made : Result Unit AllocError) (failed : Bool) (old new : CondvarState) → failed ≡ is_err made → failed ≡ false
    → OnOk made (new ≡ with_room new.line.nodes.spare new.room old) → new ≡ with_room new.line.nodes.spare new.room old
made-room (Ok done) failed old new is not ok = ok
made-room (Err error) failed old new is not ok = absurd (let never : true ≡ false = sym is ∙ not in cc)

-- who registers does so whatever room there was
registers_all_the_same : (guard : Permit) (waker : Waker) (held had : Monitor) (next : Stage) (new : Monitor) → IsRoomier held had
    → Registers guard waker had (Ok Pending) next new → Registers guard waker held (Ok Pending) next new
registers_all_the_same guard waker held had next new (room, mutex) registers =
    subst (λ (m : SemaphoreState). Registers guard waker (monitor held.condvar m) (Ok Pending) next new) mutex
    (subst (λ (c : CondvarState). Registers guard waker (monitor c had.mutex) (Ok Pending) next new) room registers)

module _ {F T : Type 0} (g : Mut F (MutBor T × Unit {0}) (Bool × (MutBor T × Unit {0}))) (wait : Wait) (waker : Waker) (old made : CondvarState) (mutex : SemaphoreState)
    (may : has_turn wait.stage (monitor old mutex) ≡ true) (room : made ≡ with_room made.line.nodes.spare made.room old) where
  in-room : (answer : Poll Permit) (next : Stage) (had : Monitor) → Acquires wait.stage wait.of waker (monitor made mutex) (Ok answer) next had
      → (held : Monitor) × Acquires wait.stage wait.of waker (monitor old mutex) (Ok answer) next held × IsRoomier held had
  in-room answer next had acquires =
      roomier wait.of waker old mutex made.line.nodes.spare made.room wait.stage answer next had
      (subst (λ (c : CondvarState). Acquires wait.stage wait.of waker (monitor c mutex) (Ok answer) next had) room acquires)

  asks : (result : Result (Poll Permit) PollError) (before after : Test F T) (next : Wait) (new : Monitor)
      → AsksInTurn g wait.stage wait.of waker before (monitor old mutex) result after next.stage new → next.of ≡ wait.of
      → PollsWhile g wait waker before (monitor old mutex) result after next new
  asks result before after next new polls of =
      (subst (λ b. PollsWhileIf g b wait.stage wait.of waker before (monitor old mutex) result after next.stage new) (sym may) polls, of)

  -- in its turn none goes on without the guard
  pub while-waits : (next : Stage) (had : Monitor) → Acquires wait.stage wait.of waker (monitor made mutex) (Ok Pending) next had → ⊥
  while-waits next had acquires =
      let found = in-room Pending next had acquires in
      let never : true ≡ false = sym may ∙ no-turn wait.stage wait.of waker (monitor old mutex) next found.0 found.1 in
      absurd (cc)

  pub while-asks : (guard : Permit) (answer : Poll Permit) (before after : Test F T) (between : Stage) (had : Monitor) (next : Wait) (new : Monitor)
      → Acquires wait.stage wait.of waker (monitor made mutex) (Ok (Ready guard)) between had
      → Asks g guard waker before had (Ok answer) after next.stage new → next.of ≡ wait.of
      → PollsWhile g wait waker before (monitor old mutex) (Ok answer) after next new
  while-asks guard answer before after between had next new acquires asked of = by_answer answer asked
    where
      found : (held : Monitor) × Acquires wait.stage wait.of waker (monitor old mutex) (Ok (Ready guard)) between held × IsRoomier held had
      found = in-room (Ready guard) between had acquires

      has : Acquires wait.stage wait.of waker (monitor old mutex) (Ok (Ready guard)) Finished found.0
      has =
          subst (λ s. Acquires wait.stage wait.of waker (monitor old mutex) (Ok (Ready guard)) s found.0)
          (finishes wait.stage wait.of waker (monitor made mutex) guard between had acquires) found.1

      by_answer : (answer : Poll Permit) → Asks g guard waker before had (Ok answer) after next.stage new
          → PollsWhile g wait waker before (monitor old mutex) (Ok answer) after next new
      by_answer (Ready given) (answers, gives, ends, roomy) =
          asks (Ok (Ready given)) before after next new (
            found.0,
            subst (λ p. Acquires wait.stage wait.of waker (monitor old mutex) (Ok (Ready p)) Finished found.0) (sym gives) has,
            (answers, refl, ends, more-room found.0 had new found.2 roomy),
          ) of
      by_answer Pending (answers, registers) =
          asks (Ok Pending) before after next new
          (guard, found.0, has, (answers, registers_all_the_same guard waker found.0 had next.stage new found.2 registers)) of

-- What a poll of a wait with a condition tells of the condition.
module _ {F T : Type 0} (g : Mut F (MutBor T × Unit {0}) (Bool × (MutBor T × Unit {0}))) where
  -- one that has no turn is not ready
  waits-still : (stage : Stage) (of : ℕ) (waker : Waker) (old new : Monitor) (guard : Permit) (next : Stage) → has_turn stage old ≡ false
      → PollsAt stage of waker old (Ok (Ready guard)) next new → ⊥
  waits-still (Enqueue guard') of waker old new guard next may polls = polls
  waits-still (Registered slot) of waker old new guard next may polls =
      absurd (let never : true ≡ false = sym (turn_at slot of waker old guard next new (place_at slot old.condvar) polls) ∙ may in cc)
  waits-still (Reacquiring baton slot) of waker old new guard next may polls =
      absurd (let never : true ≡ false = sym (ap is_some polls.0) ∙ may in cc)
  waits-still Finished of waker old new guard next may (answers, ends, is) = absurd (cc)

  pub ends-at-false : (wait next : Wait) (waker : Waker) (before after : Test F T) (old new : Monitor) (guard : Permit)
      → PollsWhile g wait waker before old (Ok (Ready guard)) after next new → (has_turn wait.stage old ≡ true) × Answers g before false after
  ends-at-false wait next waker before after old new guard (polls, of) = by_may (has_turn wait.stage old) refl polls
    where
      by_may : (b : Bool) → has_turn wait.stage old ≡ b → PollsWhileIf g b wait.stage wait.of waker before old (Ok (Ready guard)) after next.stage new
          → (has_turn wait.stage old ≡ true) × Answers g before false after
      by_may true is (held, has, asked) = (is, asked.0)
      by_may false is polled = absurd (waits-still wait.stage wait.of waker old new guard next.stage is polled.0)

  pub goes-on-at-true : (wait next : Wait) (waker : Waker) (before after : Test F T) (old new : Monitor)
      → PollsWhile g wait waker before old (Ok Pending) after next new → MatchBool (has_turn wait.stage old) (Answers g before true after) (after ≡ before)
  goes-on-at-true wait next waker before after old new (polls, of) = by_may (has_turn wait.stage old) refl polls
    where
      by_may : (b : Bool) → has_turn wait.stage old ≡ b → PollsWhileIf g b wait.stage wait.of waker before old (Ok Pending) after next.stage new
          → MatchBool (has_turn wait.stage old) (Answers g before true after) (after ≡ before)
      by_may true is (guard, held, has, asked) = rw is asked.0
      by_may false is (polls, same) = rw is same

  pub refused-unasked : (wait next : Wait) (waker : Waker) (before after : Test F T) (old new : Monitor) (error : PollError)
      → PollsWhile g wait waker before old (Err error) after next new → after ≡ before
  refused-unasked wait next waker before after old new error (polls, of) = by_may (has_turn wait.stage old) error polls
    where
      by_may : (b : Bool) (error : PollError) → PollsWhileIf g b wait.stage wait.of waker before old (Err error) after next.stage new → after ≡ before
      by_may true errors.NoMemory (none, same, ends, left) = same
      by_may true error polls = absurd polls
      by_may false error polled = polled.1

  -- where a poll finds no memory
  pub no-memory : (wait next : Wait) (waker : Waker) (before after : Test F T) (old new : Monitor) → PollsWhile g wait waker before old (Err errors.NoMemory) after next new
      → (has_turn wait.stage old ≡ true) ⊎ JoinsMutex wait.stage old
  no-memory wait next waker before after old new (polls, of) = by_may (has_turn wait.stage old) refl polls
    where
      at_place : (slot : ℕ) (place : Option Place) → PollsPlace place slot wait.of waker old (Err errors.NoMemory) next.stage new
          → (is_queued place ≡ false) × (is_served 1 old.mutex.line ≡ false)
      at_place slot (Some (Queued seen)) (answers, ends, is) = absurd (cc)
      at_place slot (Some Chosen) (waits, ends, is) = (refl, waits)
      at_place slot (Some Released) (waits, ends, is) = (refl, waits)
      at_place slot None polls = absurd polls

      joins_mutex : (stage : Stage) → has_turn stage old ≡ false → PollsAt stage wait.of waker old (Err errors.NoMemory) next.stage new → JoinsMutex stage old
      joins_mutex (Enqueue guard) may polls = absurd (cc)
      joins_mutex (Registered slot) may polls = at_place slot (place_at slot old.condvar) polls
      joins_mutex (Reacquiring baton slot) may polls = absurd polls
      joins_mutex Finished may (answers, ends, is) = absurd (cc)

      by_may : (b : Bool) → has_turn wait.stage old ≡ b → PollsWhileIf g b wait.stage wait.of waker before old (Err errors.NoMemory) after next.stage new
          → (has_turn wait.stage old ≡ true) ⊎ JoinsMutex wait.stage old
      by_may true is polls = inl is
      by_may false is polls = inr (joins_mutex wait.stage is polls.0)

  pub in-line : (wait next : Wait) (waker : Waker) (before after : Test F T) (old new : Monitor) (result : Result (Poll Permit) PollError) (baton : Bool) (slot : ℕ)
      → wait.stage ≡ Reacquiring baton slot → is_granted slot old.mutex ≡ false → PollsWhile g wait waker before old result after next new → result ≡ Ok Pending
  in-line wait next waker before after old new result baton slot stage none (polls, of) =
      by_result result (subst (λ b. PollsWhileIf g b (Reacquiring baton slot) wait.of waker before old result after next.stage new) none
      (subst (λ s. PollsWhileIf g (has_turn s old) s wait.of waker before old result after next.stage new) stage polls))
    where
      by_result : (result : Result (Poll Permit) PollError) → PollsWhileIf g false (Reacquiring baton slot) wait.of waker before old result after next.stage new
          → result ≡ Ok Pending
      by_result (Ok (Ready guard)) polls = absurd (waits-still (Reacquiring baton slot) wait.of waker old new guard next.stage none polls.0)
      by_result (Ok Pending) polls = refl
      by_result (Err error) polls = absurd (polls.0)

  -- the baton of a wait that has the mutex again has ended, and no other
  pub while-keeps : (wait next : Wait) (waker : Waker) (before after : Test F T) (old new : Monitor) (result : Result (Poll Permit) PollError)
      → PollsWhile g wait waker before old result after next new
      → batons next.stage new.condvar + ended_while result (has_baton wait.stage old.condvar) next.stage ≡ batons wait.stage old.condvar
  while-keeps wait next waker before after old new result (polls, of) = by_may (has_turn wait.stage old) refl result polls
    where
      counts : (held : Monitor) → IsRoomier held new → chosen_count new.condvar ≡ chosen_count held.condvar
      counts held (room, mutex) = ap (λ (c : CondvarState). chosen_count c) room

      by_may : (b : Bool) → has_turn wait.stage old ≡ b → (result : Result (Poll Permit) PollError)
          → PollsWhileIf g b wait.stage wait.of waker before old result after next.stage new
          → batons next.stage new.condvar + ended_while result (has_baton wait.stage old.condvar) next.stage ≡ batons wait.stage old.condvar
      by_may true is (Ok (Ready guard)) (held, has, (answers, gives, ends, room)) =
          let kept = acquires-keep wait.stage wait.of waker old (Ready guard) Finished held has in
          let count = counts held room in
          ap (λ s. batons s new.condvar + one_if (has_baton wait.stage old.condvar)) ends ∙ omega (arith, kept, count)
      by_may true is (Ok Pending) (guard, held, has, (answers, (ends, vacant, joined, given))) =
          let kept = acquires-keep wait.stage wait.of waker old (Ready guard) Finished held has in
          let count = ap (λ (c : CondvarState). chosen_count c) joined ∙ joins waker new.condvar.line.nodes.spare new.condvar.room held.condvar vacant in
          ap (λ s. batons s new.condvar + ended_while (Ok Pending) (has_baton wait.stage old.condvar) s) ends ∙ omega (arith, kept, count)
      by_may true is (Err errors.NoMemory) (none, same, ends, left) =
          ap (λ s. batons s new.condvar + 0) ends ∙ ap (λ (m : Monitor). batons wait.stage m.condvar + 0) left ∙ omega arith
      by_may true is (Err error) polls = absurd polls
      by_may false is (Ok (Ready guard)) (polls, same) = poll-keeps wait.stage wait.of waker old (Ok (Ready guard)) next.stage new polls
      by_may false is (Ok Pending) (polls, same) =
          let kept = poll-keeps wait.stage wait.of waker old (Ok Pending) next.stage new polls in
          let none = none-ended wait.stage wait.of waker old next.stage new (polled wait.stage wait.of waker old (Ok Pending) next.stage new is polls) in
          omega (arith, kept, none)
      by_may false is (Err error) (polls, same) = poll-keeps wait.stage wait.of waker old (Err error) next.stage new polls
