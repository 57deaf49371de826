-- Any calls on a barrier, one after the other.
use Rattle.std.specs.Prelude.{◌≡◌, List, [], ◌∷◌, Bool, false, Result, Ok, Err}
use Rattle.band_base.specs.declared.poll.Poll.{Poll}
use Rattle.band_base.specs.declared.poll.Poll.TheVariants.{Ready, Pending}
use Rattle.band_base.specs.declared.poll.PollError.{PollError}
use Rattle.band_base.specs.declared.waker.Waker.{Waker}
use Rattle.band_signal.specs.Barrier.{BarrierState, BarrierWaitState, PollsBarrier, has_ended}
use Rattle.band_signal.specs.Waits.{cancelled}

-- a wait is polled, with what it was before and after and what it was answered, or it is cancelled, or a waker is taken
pub data Turn : Type 0 where
  Polled : (before after : BarrierWaitState) → (waker : Waker) → (answer : Result (Poll Bool) PollError) → Turn
  Cancelled : (wait : BarrierWaitState) → Turn
  TookWake : Turn

-- what a call makes of the barrier
abbrev pub Does : Turn → BarrierState → BarrierState → Type 0
Does (Polled before after waker answer) old new = PollsBarrier before.life before waker old answer after new
Does (Cancelled wait) old new =
    new ≡ record old { waits = cancelled (has_ended wait old) wait.life old.waits }
Does TookWake old new = new ≡ record old { waits = new.waits }

-- it told a wait that it is the leader
abbrev pub leads_by : Result (Poll Bool) PollError → Bool
leads_by (Ok (Ready is_leader)) = is_leader
leads_by (Ok Pending) = false
leads_by (Err error) = false

abbrev pub leads : Turn → Bool
leads (Polled before after waker answer) = leads_by answer
leads (Cancelled wait) = false
leads TookWake = false

-- these calls lead from one state to the other
abbrev pub Run : List Turn → BarrierState → BarrierState → Type 0
Run [] first last = last ≡ first
Run (turn ∷ rest) first last = (next : BarrierState) × Does turn first next × Run rest next last
