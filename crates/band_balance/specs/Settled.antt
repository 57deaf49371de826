-- A line that has settled.
use Rattle.std.specs.Prelude.{List, [], ◌∷◌, ℤ, pos, ◌<ℤ◌, ⊤}
use Rattle.band_balance.specs.Line.{Waiting}

-- the first that waits asks for more than is free
abbrev pub HeadWaits : {N : Type 0} → ℤ → List (Waiting N) → Type 0
HeadWaits free [] = ⊤
HeadWaits free (first ∷ rest) = free <ℤ pos first.size
