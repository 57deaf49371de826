-- Maps by name.
use Rattle.std.specs.Prelude.{◌≡◌, ℕ, List, Option, Some, if◌then◌else◌}
use Rattle.std.specs.Ordering.{nat_cmp}
use Rattle.std.specs.Cmp.Lexicographic.{slice_cmp}
use Rattle.std.specs.BTreeMap.{BTreeMap, get, is_at}

-- what a map has at a name
abbrev pub at : {X : Type 0} → BTreeMap (List ℕ) X → List ℕ → Option X
at map name = get (slice_cmp nat_cmp) map name

-- no name is in both
abbrev pub AreApart : {X Y : Type 0} → BTreeMap (List ℕ) X → BTreeMap (List ℕ) Y → Type 0
AreApart {X} {Y} first second = (name : List ℕ) (x : X) (y : Y) → at first name ≡ Some x
    → at second name ≡ Some y → ⊥

-- afterwards a map has this at the name, and at every other name what it had
pub record Sets {X : Type 0} (old new : BTreeMap (List ℕ) X) (name : List ℕ) (x : Option X) : Type 0 where
  pub each : (other : List ℕ) → at new other ≡
      (if is_at (slice_cmp nat_cmp name) other then x else at old other)
