-- What a cell ends as, once a reference into it ends.
use Rattle.std.specs.Prelude.{◌≡◌, Option, Some, ⊤}
use Rattle.std.specs.Borrow.{LendsIf, follows_so, Fml, RattleType, MutBor}
use mathlib.Core.Option.{none}
use Rattle.band_once.specs.contracts.value_cell.ValueCell.{the_row as cell_row}
use Rattle.band_once.specs.contracts.once_cell.OnceCell.{the_row as once_cell_row}
use Rattle.band_once.specs.contracts.lazy_cell.LazyCell.{the_row as lazy_cell_row}
use Rattle.band_once.specs.Cell.{CellState}
use Rattle.band_once.specs.Lazy.{LazyState}

module _ (T : RattleType) where
  -- the cell has the last value that was written through the reference, or none as before
  abbrev pub lends_value : MutBor (Option T.Denot) → Option (MutBor T.Denot) → Fml
  lends_value cell value = LendsIf (cell_row T) T cell value (λ last. Some last) cell.now

  -- the cell has this value
  abbrev pub rests_with : MutBor (Option T.Denot) → T.Denot → Fml
  rests_with cell value =
      follows_so (cell_row T) (cell_row T) cell.ghost_name none (λ _ _. ⊤) (λ new. new ≡ Some value)

  -- the same of a cell with a permit
  abbrev pub lends_cell : MutBor (CellState T.Denot) → Option (MutBor T.Denot) → Fml
  lends_cell cell value =
      LendsIf (once_cell_row T) T cell value (λ last. record cell.now { value = Some last }) cell.now

-- the same of a lazy cell
module _ (T P F : RattleType) where
  abbrev pub lends_lazy : MutBor (LazyState T.Denot P.Denot F.Denot) → Option (MutBor T.Denot) → Fml
  lends_lazy cell value =
      LendsIf (lazy_cell_row T P F) T cell value (λ last. record cell.now { value = Some last }) cell.now
