-- How many nodes of the line a call visits.
use Rattle.std.specs.Prelude.{◌≡◌, ℕ, ◌+◌, ◌-◌, ◌*◌, ◌≤◌, length, Result, Ok, Err}
use Rattle.band_base.specs.declared.poll.Poll.{Poll}
use Rattle.band_base.specs.declared.poll.Poll.TheVariants.{Ready, Pending}
use Rattle.band_base.specs.declared.poll.PollError.{PollError}
use Rattle.band_line.specs.Visits.{Visits}
use Rattle.band_sem.specs.Permit.{Permit}
use Rattle.band_sem.specs.Request.{Stage, NotPolled, Joined, Finished}
use Rattle.band_sem.specs.Semaphore.{SemaphoreState}

-- how many requests were granted or ended, each of which is woken, and how many debts there are fewer
abbrev pub served : SemaphoreState → SemaphoreState → ℕ
served old new = (length new.line.wakes - length old.line.wakes) + (old.debts - new.debts)

-- eight visits at most for each that was served, and eight more; and no debt is made
pub record FewVisits (old new : SemaphoreState) (before after : ℕ) : Type 0 where
  pub no_fewer : before ≤ after
  pub no_more : after ≤ before + 8 * (served old new + 1)
  pub no_debt : new.debts ≤ old.debts

-- a poll of a request that joins, is in the line or was ended visits it
abbrev pub PollVisits : Stage → Result (Poll Permit) PollError → ℕ → ℕ → Type 0
PollVisits NotPolled (Ok Pending) before after = Visits 1 2 before after
PollVisits NotPolled (Ok (Ready permit)) before after = after ≡ before
PollVisits NotPolled (Err error) before after = after ≡ before
PollVisits (Joined slot) result before after = Visits 1 2 before after
PollVisits Finished result before after = after ≡ before

-- how many slots a request has
abbrev pub slots : Stage → ℕ
slots NotPolled = 0
slots (Joined slot) = 1
slots Finished = 0

-- what is in the line: who waits, and the debts
abbrev pub burden : SemaphoreState → ℕ
burden state = length state.line.waiting + state.debts

-- A call pays eight visits for itself and eight for what it puts into a line. What it serves was paid for by the call
-- that put it there. The first two numbers are what is in the line, or in all lines, before and after.
pub record Pays (old new before after : ℕ) : Type 0 where
  pub no_fewer : before ≤ after
  pub no_more : after + 8 * new ≤ before + 8 * old + 16
