-- What the code keeps of a wait, and what it stands for.
use Rattle.std.specs.Prelude.{◌≡◌, ℕ}
use Rattle.band_line.specs.Visits.{Visits}
use Rattle.band_sem.specs.Request.{Stage as Asked, NotPolled, Joined, Finished as Ended}
use Rattle.band_condvar.specs.declared.stage.Stage.{Stage as Kept}
use Rattle.band_condvar.specs.declared.stage.Stage.TheVariants as kept
use Rattle.band_condvar.specs.Waits.{Stage, Enqueue, Registered, Reacquiring, Finished}

-- the slot of a request that is in its line
abbrev pub slot_of : Asked → ℕ
slot_of (Joined slot) = slot
slot_of NotPolled = 0
slot_of Ended = 0

abbrev pub stage_of : Kept → Stage
stage_of (kept.Enqueue guard) = Enqueue guard
stage_of (kept.Registered id) = Registered id
stage_of (kept.Reacquiring request has_baton) = Reacquiring has_baton (slot_of request.stage)
stage_of kept.Finished = Finished

-- a guard is of the mutex with this number, and a request is in its line
abbrev pub Fits : ℕ → Kept → Type 0
Fits of (kept.Enqueue guard) = guard.of ≡ of
Fits of (kept.Registered id) = Unit {0}
Fits of (kept.Reacquiring request has_baton) =
    request ≡ record { of = of; size = 1; stage = Joined (slot_of request.stage) }
Fits of kept.Finished = Unit {0}

-- how many waits are visited to have the guard
abbrev pub AcquireVisits : Stage → ℕ → ℕ → Type 0
AcquireVisits (Enqueue guard) before after = after ≡ before
AcquireVisits (Registered slot) before after = Visits 1 4 before after
AcquireVisits (Reacquiring baton slot) before after = Visits 1 2 before after
AcquireVisits Finished before after = after ≡ before
