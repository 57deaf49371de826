-- Requests of one semaphore that a caller keeps in a row.
use Rattle.std.specs.Prelude.{List, [], ◌∷◌, ⊤}
use Rattle.std.specs.List.{AllByRecursion}
use Rattle.band_sem.specs.Request.{Request}
use Rattle.band_sem.specs.Semaphore.{SemaphoreState, IsOwn, SlotsDiffer}

-- none of them has the slot of this one
abbrev pub AreApart : Request → List Request → Type 0
AreApart one others = AllByRecursion (λ other. SlotsDiffer other.stage one.stage) others

-- each has its slot, and no two have one slot
abbrev pub AreOwn : SemaphoreState → List Request → Type 0
AreOwn state [] = ⊤
AreOwn state (first ∷ rest) = IsOwn first.stage first.size state × AreApart first rest × AreOwn state rest

-- requests that have their slots keep them
abbrev pub KeepsOwn : SemaphoreState → SemaphoreState → Type 0
KeepsOwn old new = (requests : List Request) → AreOwn old requests → AreOwn new requests
