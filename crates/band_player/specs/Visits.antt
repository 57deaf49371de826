-- What is in the lines of all objects.
use Rattle.std.specs.Prelude.{ℕ, List}
use Rattle.std.specs.List.{sum_by}
use Rattle.band_sem.specs.Visits.{burden}
use Rattle.band_player.specs.Objects.{ObjectState, shares_of}

-- who waits, and the debts
abbrev pub load : List ObjectState → ℕ
load objects = sum_by (λ object. burden (shares_of object)) objects
