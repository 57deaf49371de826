use Rattle.std.proofs.Common.{rules}
use Rattle.band_sem.proofs.Visits.{pays-polled}
use Rattle.band_player.proofs.Polled.{ends}
use Rattle.band_player.proofs.Visits.{pays_nothing}
use Rattle.band_player.proofs.token.Token.poll.Goals as goal
use Rattle.band_player.proofs.token.Token.poll.Goals.{in-Acquire-Semaphore+in-Ok-Ready, in-Acquire-Semaphore+in-Ok-Pending, in-Acquire-Semaphore+in-Err-Closed, in-Acquire-Semaphore+in-Err, in-LockRequest-Mutex+in-Ok-Ready-poll_once, in-LockRequest-Mutex+in-Ok-Pending-poll_once, in-LockRequest-Mutex+in-Err-poll_once, in-ReadRequest-ReaderWriter+in-Ok-Ready-poll_once-2, in-ReadRequest-ReaderWriter+in-Ok-Pending-poll_once-2, in-ReadRequest-ReaderWriter+in-Err-poll_once-2, in-WriteRequest-ReaderWriter+in-Ok-Ready-poll_once-3, in-WriteRequest-ReaderWriter+in-Ok-Pending-poll_once-3, in-WriteRequest-ReaderWriter+in-Err-poll_once-3, in_default, in_default-via-in-Acquire+in-Mutex-1, in_default-via-in-LockRequest+in-Semaphore-1, in_default-via-in-ReadRequest+in-Semaphore-1, in_default-via-in-WriteRequest+in-Semaphore-1, in_default-via-in-Ended-1}

pub returns-clause-ok : goal.returns-clause-ok
returns-clause-ok g c = elim c.match-any.branch [
  | in-Acquire-Semaphore+in-Ok-Ready w ↦ rw (w.result-is, w.object-inside-is)
      (rw (← c.self.view_is, ← c.object.view_is, w.in-Acquire-Semaphore.is-0, w.in-Acquire-Semaphore.is-1) (search (rules, ends)))
  | in-Acquire-Semaphore+in-Ok-Pending w ↦ rw (w.result-is, w.object-inside-is) (rw (← c.self.view_is, ← c.object.view_is, w.in-Acquire-Semaphore.is-0, w.in-Acquire-Semaphore.is-1) (search (rules)))
  | in-Acquire-Semaphore+in-Err-Closed w ↦ rw (w.result-is, w.object-inside-is)
      (rw (← c.self.view_is, ← c.object.view_is, w.in-Acquire-Semaphore.is-0, w.in-Acquire-Semaphore.is-1) (search (rules)))
  | in-Acquire-Semaphore+in-Err w ↦ rw w.result-is tt
  | in-LockRequest-Mutex+in-Ok-Ready-poll_once w ↦ rw (w.result-is, w.object-inside-is)
      (rw (← c.self.view_is, ← c.object.view_is, w.in-LockRequest-Mutex.is-0, w.in-LockRequest-Mutex.is-1) (search (rules, ends)))
  | in-LockRequest-Mutex+in-Ok-Pending-poll_once w ↦ rw (w.result-is, w.object-inside-is)
      (rw (← c.self.view_is, ← c.object.view_is, w.in-LockRequest-Mutex.is-0, w.in-LockRequest-Mutex.is-1) (search (rules)))
  | in-LockRequest-Mutex+in-Err-poll_once w ↦ rw w.result-is tt
  | in-ReadRequest-ReaderWriter+in-Ok-Ready-poll_once-2 w ↦ rw (w.result-is, w.object-inside-is)
      (rw (← c.self.view_is, ← c.object.view_is, w.in-ReadRequest-ReaderWriter.is-0, w.in-ReadRequest-ReaderWriter.is-1) (search (rules, ends)))
  | in-ReadRequest-ReaderWriter+in-Ok-Pending-poll_once-2 w ↦ rw (w.result-is, w.object-inside-is)
      (rw (← c.self.view_is, ← c.object.view_is, w.in-ReadRequest-ReaderWriter.is-0, w.in-ReadRequest-ReaderWriter.is-1) (search (rules)))
  | in-ReadRequest-ReaderWriter+in-Err-poll_once-2 w ↦ rw w.result-is tt
  | in-WriteRequest-ReaderWriter+in-Ok-Ready-poll_once-3 w ↦ rw (w.result-is, w.object-inside-is)
      (rw (← c.self.view_is, ← c.object.view_is, w.in-WriteRequest-ReaderWriter.is-0, w.in-WriteRequest-ReaderWriter.is-1) (search (rules, ends)))
  | in-WriteRequest-ReaderWriter+in-Ok-Pending-poll_once-3 w ↦ rw (w.result-is, w.object-inside-is)
      (rw (← c.self.view_is, ← c.object.view_is, w.in-WriteRequest-ReaderWriter.is-0, w.in-WriteRequest-ReaderWriter.is-1) (search (rules)))
  | in-WriteRequest-ReaderWriter+in-Err-poll_once-3 w ↦ rw w.result-is tt
  | in_default w ↦ elim w.in_default-1.branch [
    | in_default-via-in-Acquire+in-Mutex-1 w' ↦ search rules
    | in_default-via-in-LockRequest+in-Semaphore-1 w' ↦ search rules
    | in_default-via-in-ReadRequest+in-Semaphore-1 w' ↦ search rules
    | in_default-via-in-WriteRequest+in-Semaphore-1 w' ↦ search rules
    | in_default-via-in-Ended-1 w' ↦ search rules
  ]
]

pub returns-clause-visits : goal.returns-clause-visits
returns-clause-visits g c = elim c.match-any.branch [
  | in-Acquire-Semaphore+in-Ok-Ready w ↦ rw (w.object-inside-is, w.steps-is, ← c.object.view_is, w.in-Acquire-Semaphore.is-1) (search (rules, pays-polled))
  | in-Acquire-Semaphore+in-Ok-Pending w ↦ rw (w.object-inside-is, w.steps-is, ← c.object.view_is, w.in-Acquire-Semaphore.is-1) (search (rules, pays-polled))
  | in-Acquire-Semaphore+in-Err-Closed w ↦ rw (w.object-inside-is, w.steps-is, ← c.object.view_is, w.in-Acquire-Semaphore.is-1) (search (rules, pays-polled))
  | in-Acquire-Semaphore+in-Err w ↦ rw (w.object-inside-is, w.steps-is, ← c.object.view_is, w.in-Acquire-Semaphore.is-1) (search (rules, pays-polled))
  | in-LockRequest-Mutex+in-Ok-Ready-poll_once w ↦ rw (w.object-inside-is, w.steps-is, ← c.object.view_is, w.in-LockRequest-Mutex.is-1) (search (rules, pays-polled))
  | in-LockRequest-Mutex+in-Ok-Pending-poll_once w ↦ rw (w.object-inside-is, w.steps-is, ← c.object.view_is, w.in-LockRequest-Mutex.is-1) (search (rules, pays-polled))
  | in-LockRequest-Mutex+in-Err-poll_once w ↦ rw (w.object-inside-is, w.steps-is, ← c.object.view_is, w.in-LockRequest-Mutex.is-1) (search (rules, pays-polled))
  | in-ReadRequest-ReaderWriter+in-Ok-Ready-poll_once-2 w ↦ rw (w.object-inside-is, w.steps-is, ← c.object.view_is, w.in-ReadRequest-ReaderWriter.is-1) (search (rules, pays-polled))
  | in-ReadRequest-ReaderWriter+in-Ok-Pending-poll_once-2 w ↦ rw (w.object-inside-is, w.steps-is, ← c.object.view_is, w.in-ReadRequest-ReaderWriter.is-1) (search (rules, pays-polled))
  | in-ReadRequest-ReaderWriter+in-Err-poll_once-2 w ↦ rw (w.object-inside-is, w.steps-is, ← c.object.view_is, w.in-ReadRequest-ReaderWriter.is-1) (search (rules, pays-polled))
  | in-WriteRequest-ReaderWriter+in-Ok-Ready-poll_once-3 w ↦ rw (w.object-inside-is, w.steps-is, ← c.object.view_is, w.in-WriteRequest-ReaderWriter.is-1) (search (rules, pays-polled))
  | in-WriteRequest-ReaderWriter+in-Ok-Pending-poll_once-3 w ↦ rw (w.object-inside-is, w.steps-is, ← c.object.view_is, w.in-WriteRequest-ReaderWriter.is-1) (search (rules, pays-polled))
  | in-WriteRequest-ReaderWriter+in-Err-poll_once-3 w ↦ rw (w.object-inside-is, w.steps-is, ← c.object.view_is, w.in-WriteRequest-ReaderWriter.is-1) (search (rules, pays-polled))
  | in_default w ↦ search (rules, pays_nothing)
]
