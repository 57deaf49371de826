-- What callers rely on, over one call: who stays keeps the order, and who leaves changes nothing for the others.
use Rattle.std.specs.Prelude.{◌≡◌, ℕ, false, List, [], ◌∷◌, ◌++◌, map, pos, ◌+ℤ◌, None, ◌⊎◌}
use Rattle.std.specs.List.{AllByRecursion}
use Rattle.std.specs.List.Sorted.{IsPermutation}
use Rattle.band_balance.specs.Line.{Entry, Waiting, Line, entry_of, requests, total, entry_named, without, without_waiting}
use Rattle.band_sem.specs.Request.{Stage, NotPolled, Joined, Finished}
use Rattle.band_sem.specs.Semaphore.{SemaphoreState, is_slot}

-- some of the entries, in the same order
abbrev pub IsSublist : List (Entry ℕ) → List (Entry ℕ) → Type 0
IsSublist [] entries = Unit {0}
IsSublist (kept ∷ more) [] = ⊥
IsSublist (kept ∷ more) (entry ∷ rest) = ((kept ≡ entry) × IsSublist more rest) ⊎ IsSublist (kept ∷ more) rest

-- their slots were nobody's of the line
abbrev pub AreNew : List (Entry ℕ) → Line ℕ → Type 0
AreNew joined line = AllByRecursion (λ e. entry_named (is_slot e.name) (requests line) ≡ None) joined

-- Who goes on waiting keeps the order, and who joins comes last. Those granted now waited in front of all who wait still.
pub record KeepsOrder (old new : Line ℕ) : Type 0 where
  pub granted_now : List (Entry ℕ)
  pub stayed : List (Entry ℕ)
  pub waited : IsSublist (granted_now ++ stayed) (map entry_of old.waiting)
  pub joined : List (Entry ℕ)
  pub are_new : AreNew joined old
  pub waiting : map entry_of new.waiting ≡ stayed ++ joined
  -- they come to those that were granted before and are still, in whatever order
  pub kept : List (Entry ℕ)
  pub granted_before : IsSublist kept old.granted
  pub granted : IsPermutation (kept ++ granted_now) new.granted

-- another waits in front of it
abbrev pub IsBehind : ℕ → List (Waiting ℕ) → Type 0
IsBehind slot [] = ⊥
IsBehind slot (first ∷ rest) = is_slot slot first.name ≡ false

-- who leaves under this slot makes room for these, and for no others
pub record MakesRoomFor (slot : ℕ) (old new : Line ℕ) (granted_now : List (Waiting ℕ)) : Type 0 where
  -- they are a front of those that waited, without the one that left
  pub waiting : without_waiting (is_slot slot) old.waiting ≡ granted_now ++ new.waiting
  pub granted : IsPermutation (without (is_slot slot) old.granted ++ map entry_of granted_now) new.granted
  pub wakes : new.wakes ≡ old.wakes ++ map (λ w. w.waker) granted_now
  -- what is free and granted stays the same in all
  pub sum : new.free +ℤ pos (total new.granted) ≡ old.free +ℤ pos (total old.granted)
  -- one that waited behind another makes room for nobody
  pub none_behind : entry_named (is_slot slot) old.granted ≡ None → IsBehind slot old.waiting
      → granted_now ≡ []

-- who leaves under this slot changes nothing but what is free, its own place, and what those behind it are then granted
abbrev pub LeavesOthers : ℕ → SemaphoreState → SemaphoreState → Type 0
LeavesOthers slot old new =
    (new.number ≡ old.number)
    × (new.held ≡ old.held)
    × (new.closed ≡ old.closed)
    × IsPermutation (without (is_slot slot) old.ended) new.ended
    × IsPermutation (without (is_slot slot) (requests old.line)) (requests new.line)
    × ((granted_now : List (Waiting ℕ)) × MakesRoomFor slot old.line new.line granted_now)

-- the same by what the request has come to: where it is not in the line, nothing changes
abbrev pub Leaves : Stage → SemaphoreState → SemaphoreState → Type 0
Leaves NotPolled old new = new ≡ old
Leaves (Joined slot) old new = LeavesOthers slot old new
Leaves Finished old new = new ≡ old
