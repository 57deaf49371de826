-- A state in order: what is so of it between any two calls.
use Rattle.std.specs.Prelude.{◌≡◌, false}
use Rattle.std.specs.List.{AllByRecursion}
use Rattle.std.specs.Str.{bytes_eq}
use Rattle.band_balance.specs.Laws.{Pairwise, IsOrderly}
use Rattle.band_rules.specs.State.{State, Named}

-- the names of the objects differ
abbrev pub NamesDiffer : State → Type 0
NamesDiffer state = Pairwise (λ (a b : Named). bytes_eq a.name b.name ≡ false) state

abbrev pub Sound : Named → Type 0
Sound named = IsOrderly bytes_eq named.object

-- the names of its objects differ, and each object is in order
pub record IsInOrder (state : State) : Type 0 where
  pub differ : NamesDiffer state
  pub sound : AllByRecursion Sound state
