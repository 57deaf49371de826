-- A call that holds the permit, and whose attempt gave the value.
use Rattle.std.proofs.Common.{◌≡◌, ℕ, false, MatchBool, Result, Ok, is_some, sym, subst, Bool}
use Rattle.band_base.specs.declared.poll.Poll.{Poll}
use Rattle.band_base.specs.declared.poll.Poll.TheVariants.{Ready}
use Rattle.band_base.specs.declared.poll.PollError.{PollError}
use Rattle.band_sem.specs.Permit.{Permit}
use Rattle.band_sem.specs.Semaphore.{IsLike, given_back}
use Rattle.band_once.specs.declared.call.CallStage.{CallStage}
use Rattle.band_once.specs.declared.call.CallStage.TheVariants.{Finished}
use Rattle.band_once.specs.Lazy.{LazyState, Attempts, HoldsLazy, Settles}

module _ {T P F : Type 0} (post : F → P → Type 0) (moves : P → ℕ → Result (Poll T) PollError → P → Type 0) (waker : ℕ) where
  pub HoldsLazy-made : (token : Permit) (held attempted new : LazyState T P F) (call : CallStage Unit) (given : Poll Unit) → is_some held.value ≡ false → given ≡ Ready tt
      → Attempts post moves waker held (Ok given) attempted
      → call ≡ Finished → new.value ≡ attempted.value → new.attempt ≡ attempted.attempt → IsLike (given_back 1 attempted.permit) new.permit
      → HoldsLazy post moves waker token tt held (Ok (Ready tt)) call new
  HoldsLazy-made token held attempted new call given none gave attempts over value attempt back =
      subst
      (λ (b : Bool).
      MatchBool b
      ((let answer : Result (Poll Unit) PollError = Ok (Ready tt) in answer ≡ Ok (Ready tt)) × Settles post moves waker token held (Ok (Ready tt)) call new)
      ((attempted : LazyState T P F) × Attempts post moves waker held (Ok (Ready tt)) attempted × Settles post moves waker token attempted (Ok (Ready tt)) call new))
      (sym none) (attempted, subst (λ (answer : Poll Unit). Attempts post moves waker held (Ok answer) attempted) gave attempts, (over, value, attempt, back))
