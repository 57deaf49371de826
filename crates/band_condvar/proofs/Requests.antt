-- What a poll leaves of the lock request of a wait.
use Rattle.std.proofs.Common.{◌≡◌, ℕ, sym, subst, Ok}
use Rattle.band_base.specs.declared.poll.Poll.TheVariants.{Pending}
use Rattle.band_sem.specs.Request.{Request, Joined, new_request}
use Rattle.band_sem.specs.Semaphore.{SemaphoreState, IsOwn, Polls}
use Rattle.band_sem.proofs.Own.{IsOwn-polled}
use Rattle.band_condvar.specs.Kept.Stage.{slot_of}

-- a request for one that is in the line
abbrev pub in_line : ℕ → ℕ → Request
in_line of slot = record { of = of; size = 1; stage = Joined slot }

-- a request for one that has a slot has it whatever it is called
stays : (asked : Request) (of slot : ℕ) (new : SemaphoreState) → asked ≡ in_line of slot → IsOwn asked.stage asked.size new → IsOwn (Joined (slot_of asked.stage)) 1 new
stays asked of slot new left own =
    subst (λ (a : Request). IsOwn (Joined (slot_of a.stage)) 1 new) (sym left) (subst (λ (a : Request). IsOwn a.stage a.size new) left own)

-- one that joined at its first poll
pub first-joined : (request asked : Request) (of waker : ℕ) (old new : SemaphoreState) → request ≡ new_request of 1
    → Polls request waker old (Ok Pending) asked new → IsOwn (Joined (slot_of asked.stage)) 1 new
first-joined request asked of waker old new is polls =
    at (subst (λ r. Polls r waker old (Ok Pending) asked new) is polls)
  where
    at : Polls (new_request of 1) waker old (Ok Pending) asked new → IsOwn (Joined (slot_of asked.stage)) 1 new
    at (open_still, waits, (slot, fresh, joins, left)) =
        stays asked of slot new left (IsOwn-polled (new_request of 1) asked waker old new (Ok Pending) tt (open_still, waits, (slot, fresh, joins, left)))

-- one that is in the line, and is not served by this poll
pub later-stays : (request asked : Request) (of slot waker : ℕ) (old new : SemaphoreState) → request ≡ in_line of slot
    → IsOwn (Joined slot) 1 old → Polls request waker old (Ok Pending) asked new → IsOwn (Joined (slot_of asked.stage)) 1 new
later-stays request asked of slot waker old new is own polls =
    at (subst (λ r. Polls r waker old (Ok Pending) asked new) is polls)
  where
    at : Polls (in_line of slot) waker old (Ok Pending) asked new → IsOwn (Joined (slot_of asked.stage)) 1 new
    at (live, none, leaves, left) = stays asked of slot new left (IsOwn-polled (in_line of slot) asked waker old new (Ok Pending) own (live, none, leaves, left))
