-- A permit that no call has.
use Rattle.std.specs.Prelude.{◌≡◌, [], pos}
use Rattle.band_sem.specs.Semaphore.{SemaphoreState}

-- it is free, and nobody waits for it, was granted it or holds it
pub record IsIdle (permit : SemaphoreState) : Type 0 where
  pub free : permit.line.free ≡ pos 1
  pub none_waits : permit.line.waiting ≡ []
  pub none_granted : permit.line.granted ≡ []
  pub none_held : permit.held ≡ 0
