-- What a store ends as, once a reference to one of its values ends.
use Rattle.std.specs.Prelude.{ℕ, Option}
use Rattle.std.specs.Borrow.{Lends, LendsIf, Fml, RattleType, MutBor}
use Rattle.band_line.specs.Arena.{ArenaState, with_value}
use Rattle.band_line.specs.contracts.arena.Arena.{the_row as arena_row}

module _ (T : RattleType) where
  -- the slot has the last value that was written through the reference
  abbrev pub lends_value : MutBor (ArenaState T.Denot) → ℕ → Option (MutBor T.Denot) → Fml
  lends_value arena id value =
      LendsIf (arena_row T) T arena value (λ last. with_value id last arena.now) arena.now

  abbrev pub lends_occupied : MutBor (ArenaState T.Denot) → ℕ → MutBor T.Denot → Fml
  lends_occupied arena id value = Lends (arena_row T) T arena value (λ last. with_value id last arena.now)
