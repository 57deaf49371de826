-- The objects of a pool: those that are idle, and how many are away.
use Rattle.std.specs.Prelude.{◌≡◌, ℕ, ◌+◌, Bool, List, [], ◌∷◌, ◌++◌, length, reverse, Option, Some, None, if◌then◌else◌}
use Rattle.std.specs.List.{FoldsTo}
use Rattle.band_objects.specs.Status.{Status}
use Rattle.band_objects.specs.declared.object.ObjectState.{ObjectState}
use Rattle.band_objects.specs.declared.strategy.QueueStrategy.{QueueStrategy}
use Rattle.band_objects.specs.declared.strategy.QueueStrategy.TheVariants.{Fifo, Lifo}

-- the idle objects, the one that came last at the end; how many are checked or out; and for how many more there is room
pub record Store (T : Type 0) : Type 0 where
  pub idle : List (ObjectState T)
  pub away : ℕ
  pub room : ℕ

abbrev pub new_store : {T : Type 0} → Store T
new_store = record { idle = []; away = 0; room = 0 }

-- how many objects there are
abbrev pub size_of : {T : Type 0} → Store T → ℕ
size_of store = length store.idle + store.away

-- the objects in the order in which they are taken out
abbrev pub in_turn : {A : Type 0} → QueueStrategy → List A → List A
in_turn Fifo objects = objects
in_turn Lifo objects = reverse objects

-- the next in turn is taken out, if there is one
abbrev pub Pops : {T : Type 0} → QueueStrategy → Store T → Option (ObjectState T) → Store T → Type 0
Pops strategy old None new = (old.idle ≡ []) × (new ≡ old)
Pops strategy old (Some object) new =
    (in_turn strategy old.idle ≡ object ∷ in_turn strategy new.idle)
    × (new ≡ record old { idle = new.idle; away = old.away + 1 })

-- a test in its present state, the objects that it kept so far, and those that it did not
pub record Sorting (F T : Type 0) : Type 0 where
  pub test : F
  pub kept : List (ObjectState T)
  pub removed : List T

-- the test is asked of one object, which it may change: the object is kept or not
abbrev pub Sorts : {F T : Type 0} → (F → T → Status → Bool → F → T → Type 0)
    → Sorting F T → ObjectState T → Sorting F T → Type 0
Sorts {T = T} called before object after =
    (keeps : Bool) × (left : T)
    × called before.test object.o object.status keeps after.test left
    × (after.kept ≡ (if keeps then before.kept ++ record object { o = left } ∷ [] else before.kept))
    × (after.removed ≡ (if keeps then before.removed else before.removed ++ left ∷ []))

-- the test is asked of each object from the front on
abbrev pub SortsAll : {F T : Type 0} → (F → T → Status → Bool → F → T → Type 0)
    → F → List (ObjectState T) → Sorting F T → Type 0
SortsAll called test objects after =
    FoldsTo (Sorts called) (record { test = test; kept = []; removed = [] }) objects after
