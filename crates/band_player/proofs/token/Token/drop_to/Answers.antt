use Rattle.std.proofs.Common.{rules}
use Rattle.band_sem.proofs.Visits.{pays-given_back, pays-cancelled}
use Rattle.band_player.proofs.token.Token.drop_to.Goals as goal
use Rattle.band_player.proofs.token.Token.drop_to.Goals.{in-SemaphorePermit-Semaphore, in-LockGuard-Mutex, in-ReadAccess-ReaderWriter, in-WriteAccess-ReaderWriter, in-Acquire-Semaphore, in-LockRequest-Mutex, in-ReadRequest-ReaderWriter, in-WriteRequest-ReaderWriter}

pub returns-clause-state : goal.returns-clause-state
returns-clause-state g c = elim c.match-any.branch [
  | in-SemaphorePermit-Semaphore w ↦ rw (w.object-inside-is, ← c.self.view_is, ← c.object.view_is, w.in-SemaphorePermit-Semaphore.is-0, w.in-SemaphorePermit-Semaphore.is-1) (search rules)
  | in-LockGuard-Mutex w ↦ rw (w.object-inside-is, ← c.self.view_is, ← c.object.view_is, w.in-LockGuard-Mutex.is-0, w.in-LockGuard-Mutex.is-1) (search rules)
  | in-ReadAccess-ReaderWriter w ↦ rw (w.object-inside-is, ← c.self.view_is, ← c.object.view_is, w.in-ReadAccess-ReaderWriter.is-0, w.in-ReadAccess-ReaderWriter.is-1) (search rules)
  | in-WriteAccess-ReaderWriter w ↦ rw (w.object-inside-is, ← c.self.view_is, ← c.object.view_is, w.in-WriteAccess-ReaderWriter.is-0, w.in-WriteAccess-ReaderWriter.is-1) (search rules)
  | in-Acquire-Semaphore w ↦ rw (w.object-inside-is, ← c.self.view_is, ← c.object.view_is, w.in-Acquire-Semaphore.is-0, w.in-Acquire-Semaphore.is-1) (search rules)
  | in-LockRequest-Mutex w ↦ rw (w.object-inside-is, ← c.self.view_is, ← c.object.view_is, w.in-LockRequest-Mutex.is-0, w.in-LockRequest-Mutex.is-1) (search rules)
  | in-ReadRequest-ReaderWriter w ↦ rw (w.object-inside-is, ← c.self.view_is, ← c.object.view_is, w.in-ReadRequest-ReaderWriter.is-0, w.in-ReadRequest-ReaderWriter.is-1) (search rules)
  | in-WriteRequest-ReaderWriter w ↦ rw (w.object-inside-is, ← c.self.view_is, ← c.object.view_is, w.in-WriteRequest-ReaderWriter.is-0, w.in-WriteRequest-ReaderWriter.is-1) (search rules)
]

pub returns-clause-steady : goal.returns-clause-steady
returns-clause-steady g c = elim c.match-any.branch [
  | in-SemaphorePermit-Semaphore w ↦ rw w.object-inside-is (search rules)
  | in-LockGuard-Mutex w ↦ rw w.object-inside-is (search rules)
  | in-ReadAccess-ReaderWriter w ↦ rw w.object-inside-is (search rules)
  | in-WriteAccess-ReaderWriter w ↦ rw w.object-inside-is (search rules)
  | in-Acquire-Semaphore w ↦ rw w.object-inside-is (search rules)
  | in-LockRequest-Mutex w ↦ rw w.object-inside-is (search rules)
  | in-ReadRequest-ReaderWriter w ↦ rw w.object-inside-is (search rules)
  | in-WriteRequest-ReaderWriter w ↦ rw w.object-inside-is (search rules)
]

pub returns-clause-visits : goal.returns-clause-visits
returns-clause-visits g c = elim c.match-any.branch [
  | in-SemaphorePermit-Semaphore w ↦ rw (w.object-inside-is, w.steps-is, ← c.object.view_is, w.in-SemaphorePermit-Semaphore.is-1) (search (rules, pays-given_back))
  | in-LockGuard-Mutex w ↦ rw (w.object-inside-is, w.steps-is, ← c.object.view_is, w.in-LockGuard-Mutex.is-1) (search (rules, pays-given_back))
  | in-ReadAccess-ReaderWriter w ↦ rw (w.object-inside-is, w.steps-is, ← c.object.view_is, w.in-ReadAccess-ReaderWriter.is-1) (search (rules, pays-given_back))
  | in-WriteAccess-ReaderWriter w ↦ rw (w.object-inside-is, w.steps-is, ← c.object.view_is, w.in-WriteAccess-ReaderWriter.is-1) (search (rules, pays-given_back))
  | in-Acquire-Semaphore w ↦ rw (w.object-inside-is, w.steps-is, ← c.object.view_is, w.in-Acquire-Semaphore.is-1) (search (rules, pays-cancelled))
  | in-LockRequest-Mutex w ↦ rw (w.object-inside-is, w.steps-is, ← c.object.view_is, w.in-LockRequest-Mutex.is-1) (search (rules, pays-cancelled))
  | in-ReadRequest-ReaderWriter w ↦ rw (w.object-inside-is, w.steps-is, ← c.object.view_is, w.in-ReadRequest-ReaderWriter.is-1) (search (rules, pays-cancelled))
  | in-WriteRequest-ReaderWriter w ↦ rw (w.object-inside-is, w.steps-is, ← c.object.view_is, w.in-WriteRequest-ReaderWriter.is-1) (search (rules, pays-cancelled))
]
