-- A shutdown: a countdown of 1 that requests it, and a group of the guards that hold it up.
use Rattle.std.specs.Prelude.{◌≡◌, ℕ, List, [], ◌∷◌, Bool, Option, Result, Ok, Err}
use Rattle.band_base.specs.declared.poll.Poll.{Poll}
use Rattle.band_base.specs.declared.poll.PollError.{PollError}
use Rattle.band_base.specs.declared.waker.Waker.{Waker}
use Rattle.band_signal.specs.Waits.{TakesWake}
use Rattle.band_signal.specs.Countdown.{Countdown, new_countdown, is_at_zero, arrived}
use Rattle.band_signal.specs.Group.{Group, new_group}

pub record ShutdownView : Type 0 where
  pub request : Countdown
  pub guards : Group

-- one that was not requested, with a guard
abbrev pub new_shutdown : ℕ → ShutdownView
new_shutdown number = record { request = new_countdown 1; guards = new_group number }

-- what the waits for the request wait for
abbrev pub is_requested : ShutdownView → Bool
is_requested shutdown = is_at_zero shutdown.request

-- shutdown is requested, and the first time all that wait for that are woken
abbrev pub requested : ShutdownView → ShutdownView
requested shutdown = record shutdown { request = arrived 1 shutdown.request }

-- the oldest waker of the request is taken, or else of the guards
abbrev pub TakesFirstWake : List ℕ → ShutdownView → Option Waker → ShutdownView → Type 0
TakesFirstWake (oldest ∷ rest) old result new =
    TakesWake old.request.waits result new.request.waits
    × (new ≡ record old { request = record old.request { waits = new.request.waits } })
TakesFirstWake [] old result new =
    TakesWake old.guards.waits result new.guards.waits
    × (new ≡ record old { guards = record old.guards { waits = new.guards.waits } })

-- the whole state after a poll of a `Shutdown`: shutdown is requested, unless the poll was refused
abbrev pub RequestsUnless : Result (Poll Unit) PollError → ShutdownView → ShutdownView → Type 0
RequestsUnless (Ok answer) old new =
    new ≡ record (requested old) { guards = record old.guards { waits = new.guards.waits } }
RequestsUnless (Err error) old new = new ≡ old
