-- What a call has of the cell's permit, and that it stays counted.
use Rattle.std.specs.Prelude.{◌≡◌, ◌≤◌, Result, Ok, Err}
use Rattle.band_base.specs.declared.poll.PollError.{PollError}
use Rattle.band_sem.specs.Permit.{Permit}
use Rattle.band_sem.specs.Request.{Request}
use Rattle.band_sem.specs.Semaphore.{SemaphoreState, IsOwn, SlotsDiffer}
use Rattle.band_once.specs.declared.call.CallStage.{CallStage}
use Rattle.band_once.specs.declared.call.CallStage.TheVariants.{NotPolled, Waiting, Driving, Finished}
use Rattle.band_once.specs.declared.call.Asked.{Asked}
use Rattle.band_once.specs.declared.call.Asked.TheVariants.{NotNeeded, Waits, Holds}

-- nothing, a request for it, or the token
pub data Claim : Type 0 where
  Nothing : Claim
  Awaits : (request : Request) → Claim
  Has : (token : Permit) → Claim

abbrev pub claim_of : {P : Type 0} → CallStage P → Claim
claim_of (NotPolled init) = Nothing
claim_of (Waiting request init) = Awaits request
claim_of (Driving token init) = Has token
claim_of Finished = Nothing

-- the permit counts it
abbrev pub IsCounted : Claim → SemaphoreState → Type 0
IsCounted Nothing permit = Unit {0}
IsCounted (Awaits request) permit =
    (request.of ≡ permit.number) × IsOwn request.stage request.size permit
IsCounted (Has token) permit = (token.of ≡ permit.number) × (1 ≤ permit.held)

-- two have no slot in common, and not both have the token
abbrev pub AreApart : Claim → Claim → Type 0
AreApart (Awaits mine) (Awaits other) = SlotsDiffer mine.stage other.stage
AreApart (Has mine) (Has other) = ⊥
AreApart mine other = Unit {0}

-- What one is counted as after a call, and all others that were apart from it stay counted and apart.
pub record KeepsCounted (mine mine' : Claim) (old new : SemaphoreState) : Type 0 where
  pub own : IsCounted mine' new
  pub others : (other : Claim) → AreApart mine other → IsCounted other old → IsCounted other new × AreApart mine' other

-- what a call has once it has asked for the permit: the token may be in hand
abbrev pub claim_after : {P : Type 0} → Result (Asked P) PollError → CallStage P → Claim
claim_after (Ok (Holds token init)) call = Has token
claim_after (Ok (NotNeeded init)) call = claim_of call
claim_after (Ok Waits) call = claim_of call
claim_after (Err error) call = claim_of call
