-- What others do to a mutex leaves a wait for it where it is.
use Rattle.std.proofs.Common.{◌≡◌, false, arith, Option}
use Rattle.band_base.specs.declared.waker.Waker.{Waker}
use Rattle.band_sem.specs.Semaphore.{SemaphoreState, IsLike, IsLawful, given_back, TakesWake}
use Rattle.band_sem.proofs.Held.{KeepsHeld-wakes}
use Rattle.band_sem.proofs.Own.{IsOwn-given_back, IsOwn-wakes}
use Rattle.band_condvar.specs.Condvar.{CondvarState}
use Rattle.band_condvar.specs.Waits.{Stage, Enqueue, Registered, Reacquiring, Finished, IsHere, has_guard}
use Rattle.band_condvar.proofs.Requests.{in_line}

module _ (condvar : CondvarState) (old new : SemaphoreState) where
  -- somebody else unlocks it
  pub IsHere-unlocked : (stage : Stage) → has_guard stage ≡ false → IsHere stage condvar old → IsLike (given_back 1 old) new → IsLawful new → IsHere stage condvar new
  IsHere-unlocked (Enqueue guard) none here unlocked lawful = absurd (cc)
  IsHere-unlocked (Registered slot) none here unlocked lawful = here
  IsHere-unlocked (Reacquiring baton slot) none here unlocked lawful = IsOwn-given_back (in_line 0 slot) old new here 1 unlocked lawful
  IsHere-unlocked Finished none here unlocked lawful = tt

  -- a waker is taken
  pub IsHere-wakes : (stage : Stage) (result : Option Waker) → IsHere stage condvar old → TakesWake old result new → IsHere stage condvar new
  IsHere-wakes (Enqueue guard) result here takes = let kept = KeepsHeld-wakes old new result takes in omega (arith, kept.held, here)
  IsHere-wakes (Registered slot) result here takes = here
  IsHere-wakes (Reacquiring baton slot) result here takes = IsOwn-wakes (in_line 0 slot) old new here result takes
  IsHere-wakes Finished result here takes = tt
