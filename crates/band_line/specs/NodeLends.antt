-- What the nodes of a line end as, once a reference to the value of one ends.
use Rattle.std.specs.Prelude.{ℕ}
use Rattle.std.specs.Borrow.{Fml, RattleType, MutBor}
use Rattle.band_line.specs.Arena.{ArenaState}
use Rattle.band_line.specs.Line.{Node}
use Rattle.band_line.specs.StoreLends.{lends_value}
use Rattle.band_line.specs.contracts.link.Links.{the_row as links_row}

module _ (T : RattleType) where
  abbrev pub lends_value_in : MutBor (ArenaState (Node T.Denot)) → ℕ → MutBor T.Denot → Fml
  lends_value_in nodes id value = lends_value links_row T nodes id value
