-- What a line ends as, once a reference to the value of a node ends.
use Rattle.std.specs.Prelude.{ℕ, Bool, Option, OnSome, IfNone}
use Rattle.std.specs.Borrow.{Lends, LendsSo, Fml, RattleType, MutBor}
use Rattle.std.specs.Fn.{Once}
use Rattle.band_line.specs.WaitList.{WaitListState, with_waiter, IsUnlinked, KeepsWaiter}
use Rattle.band_line.specs.Line.{HasAsManyNodes}
use Rattle.band_line.specs.contracts.line.Line.{the_row as line_row}

module _ (T : RattleType) where
  abbrev pub lends_waiter : MutBor (WaitListState T.Denot) → ℕ → MutBor T.Denot → Fml
  lends_waiter list id value = Lends (line_row T) T list value (λ last. with_waiter id last list.now)

module _ (T : RattleType) {F : Type 0}
    (g : Once F (MutBor T.Denot × Unit {0}) (Bool × (MutBor T.Denot × Unit {0}))) (f : F) where
  abbrev pub lends_unlinked : MutBor (WaitListState T.Denot) → ℕ → Option (MutBor T.Denot) → Fml
  lends_unlinked list id value =
      LendsSo (line_row T) T list value
      (λ new last. OnSome value (IsUnlinked id last list.now new) × HasAsManyNodes list.now new)
      (λ new. IfNone value (KeepsWaiter g f id list.now new) × HasAsManyNodes list.now new)
