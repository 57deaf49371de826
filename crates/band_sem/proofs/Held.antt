-- What a semaphore counts as held through the calls for others, and that its number stays.
use Rattle.std.proofs.Common.{◌≡◌, ℕ, ◌+◌, ◌≤◌, ◌∙◌, refl, ap, arith, Option, Some, None, Result, Ok, Err}
use Rattle.band_base.specs.declared.poll.Poll.{Poll}
use Rattle.band_base.specs.declared.poll.Poll.TheVariants.{Ready, Pending}
use Rattle.band_base.specs.declared.poll.PollError.{PollError}
use Rattle.band_base.specs.declared.poll.PollError.TheVariants as errors
use Rattle.band_base.specs.declared.waker.Waker.{Waker}
use Rattle.band_sem.specs.Permit.{Permit}
use Rattle.band_sem.specs.Request.{Request, Stage, NotPolled, Joined, Finished}
use Rattle.band_sem.specs.Semaphore.{SemaphoreState, IsLike, Polls, PollsAt, TakesWake, cancelled}

-- it is the same semaphore, and no fewer are held
pub record KeepsHeld (old new : SemaphoreState) : Type 0 where
  pub number : new.number ≡ old.number
  pub held : old.held ≤ new.held

-- one call after another
pub KeepsHeld-then : (old mid new : SemaphoreState) → KeepsHeld old mid → KeepsHeld mid new → KeepsHeld old new
KeepsHeld-then old mid new p q = record { number = q.number ∙ p.number; held = omega (arith, p.held, q.held) }

module _ (old new : SemaphoreState) where
  keeps : (state : SemaphoreState) → new ≡ state → state.number ≡ old.number → old.held ≤ state.held → KeepsHeld old new
  keeps state is number held = record { number = ap (λ (s : SemaphoreState). s.number) is ∙ number; held = rw is held }

  none_fewer : old.held ≤ old.held
  none_fewer = omega arith

  some_more : (n : ℕ) → old.held ≤ old.held + n
  some_more n = omega arith

  pub KeepsHeld-wakes : (result : Option Waker) → TakesWake old result new → KeepsHeld old new
  KeepsHeld-wakes None (none, same) = keeps _ same refl none_fewer
  KeepsHeld-wakes (Some waker) (first, takes) = keeps _ takes refl none_fewer

  pub KeepsHeld-cancels : (stage : Stage) → IsLike (cancelled stage old) new → KeepsHeld old new
  KeepsHeld-cancels NotPolled same = record { number = same.number; held = rw same.held none_fewer }
  KeepsHeld-cancels (Joined slot) ends = record { number = ends.number; held = rw ends.held none_fewer }
  KeepsHeld-cancels Finished same = record { number = same.number; held = rw same.held none_fewer }

  pub KeepsHeld-polls : (request request' : Request) (waker : ℕ) (result : Result (Poll Permit) PollError) → Polls request waker old result request' new → KeepsHeld old new
  KeepsHeld-polls request request' waker result polled = at request.stage result polled
    where
      at : (stage : Stage) (result : Result (Poll Permit) PollError) → PollsAt stage request waker old result request' new → KeepsHeld old new
      at NotPolled (Ok (Ready permit)) (is, served, gives, takes, left) = keeps _ takes refl (some_more request.size)
      at NotPolled (Ok Pending) (is, waits, (slot, fresh, joins, left)) = keeps _ joins refl none_fewer
      at NotPolled (Err errors.NoMemory) (is, waits, same, left) = keeps _ same refl none_fewer
      at NotPolled (Err errors.Closed) (is, same, left) = keeps _ same refl none_fewer
      at NotPolled (Err error) polled = absurd polled
      at (Joined slot) (Ok (Ready permit)) (live, there, gives, receives, left) = keeps _ receives refl (some_more request.size)
      at (Joined slot) (Ok Pending) (live, none, leaves, left) = keeps _ leaves refl none_fewer
      at (Joined slot) (Err errors.Closed) (there, hears, left) = keeps _ hears refl none_fewer
      at (Joined slot) (Err error) polled = absurd polled
      at Finished result (refused, same, left) = keeps _ same refl none_fewer
