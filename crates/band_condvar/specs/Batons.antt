-- The batons of `notify_one`: a chosen wait has one, and takes it along when it leaves to ask for the mutex.
use Rattle.std.specs.Prelude.{ℕ, ◌+◌, sum_by, Bool, true, false, Option, Some, None, Result, Ok, Err}
use Rattle.band_base.specs.declared.poll.Poll.{Poll}
use Rattle.band_base.specs.declared.poll.Poll.TheVariants.{Ready, Pending}
use Rattle.band_base.specs.declared.poll.PollError.{PollError}
use Rattle.band_sem.specs.Permit.{Permit}
use Rattle.band_condvar.specs.declared.place.Place.{Place}
use Rattle.band_condvar.specs.declared.place.Place.TheVariants.{Queued, Chosen, Released}
use Rattle.band_condvar.specs.Condvar.{CondvarState}
use Rattle.band_condvar.specs.Waits.{Stage, Enqueue, Registered, Reacquiring, Finished}

abbrev pub baton_in : Option Place → ℕ
baton_in (Some Chosen) = 1
baton_in (Some (Queued waker)) = 0
baton_in (Some Released) = 0
baton_in None = 0

-- how many waits are chosen
abbrev pub chosen_count : CondvarState → ℕ
chosen_count state = sum_by baton_in state.line.nodes.slots

abbrev pub taken_along : Stage → ℕ
taken_along (Reacquiring true slot) = 1
taken_along (Reacquiring false slot) = 0
taken_along (Enqueue guard) = 0
taken_along (Registered slot) = 0
taken_along Finished = 0

-- those of the chosen waits, and the one that this wait took along
abbrev pub batons : Stage → CondvarState → ℕ
batons stage state = chosen_count state + taken_along stage

abbrev pub one_if : Bool → ℕ
one_if true = 1
one_if false = 0

-- how many batons a poll ends: that of a wait that had one, and is ready
abbrev pub ended : Result (Poll Permit) PollError → Bool → ℕ
ended (Ok (Ready guard)) baton = one_if baton
ended (Ok Pending) baton = 0
ended (Err error) baton = 0

-- and how many a poll of a wait with a condition: that of a wait that had one, and is ready or waits again
abbrev pub ended_while : Result (Poll Permit) PollError → Bool → Stage → ℕ
ended_while (Ok (Ready guard)) baton next = one_if baton
ended_while (Ok Pending) baton (Registered slot) = one_if baton
ended_while (Ok Pending) baton (Enqueue guard) = 0
ended_while (Ok Pending) baton (Reacquiring along slot) = 0
ended_while (Ok Pending) baton Finished = 0
ended_while (Err error) baton next = 0
