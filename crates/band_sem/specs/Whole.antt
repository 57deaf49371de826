-- A semaphore of which all n permits are there, as locks, cells and pools keep one.
use Rattle.std.specs.Prelude.{◌≡◌, ℕ, ◌+◌, ◌<◌, ◌≤◌, false, [], ◌∷◌, pos, ◌+ℤ◌, ◌≤ℤ◌, Some, length}
use Rattle.std.specs.List.{AllByRecursion}
use Rattle.band_balance.specs.Line.{Entry, requests, total, entry_named}
use Rattle.band_sem.specs.Semaphore.{SemaphoreState, is_slot}

-- there are n permits in all, none is owed, and it is not closed
pub record IsWhole (n : ℕ) (state : SemaphoreState) : Type 0 where
  pub not_closed : state.closed ≡ false
  pub none_ended : state.ended ≡ []
  pub none_owed : pos 0 ≤ℤ state.line.free
  -- what is free, granted and held is all there is
  pub adds_up : state.line.free +ℤ pos (total state.line.granted + state.held) ≡ pos n
  -- each request in the line asks for one at least
  pub each_asks : AllByRecursion (λ e. 0 < e.size) (requests state.line)
  -- so at most n are granted and held: of a mutex one
  pub at_most : length state.line.granted + state.held ≤ n
  -- a request that was granted all has them alone
  pub granted_alone : (slot : ℕ) (e : Entry ℕ) → entry_named (is_slot slot) state.line.granted ≡ Some e
      → e.size ≡ n → (state.line.granted ≡ e ∷ []) × (state.held ≡ 0)
  -- while all are held, no request is granted any
  pub held_alone : n ≤ state.held → (state.line.granted ≡ []) × (state.held ≡ n)

-- it stays one of n permits, if it was one
abbrev pub StaysWhole : SemaphoreState → SemaphoreState → Type 0
StaysWhole old new = (n : ℕ) → IsWhole n old → IsWhole n new
