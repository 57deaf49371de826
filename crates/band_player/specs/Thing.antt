-- What a live name is.
use Rattle.std.specs.Prelude.{ℕ}
use Rattle.band_player.specs.Objects.{RequestState, HoldingState}

-- the object at this place, a request that waits, was granted or was ended at the object at this place, or what is
-- held of an object
pub data Thing : Type 0 where
  Object : (place : ℕ) → Thing
  Request : (place : ℕ) (request : RequestState) → Thing
  Holding : (holding : HoldingState) → Thing

-- the place of the object that it is, or is of
abbrev pub place_at : Thing → ℕ
place_at (Object place) = place
place_at (Request place request) = place
place_at (Holding holding) = holding.of
