-- What a private call keeps.
use Rattle.std.specs.Prelude.{◌≡◌, Bool, List, ◌∷◌}
use Rattle.band_objects.specs.Status.{Status}
use Rattle.band_objects.specs.Store.{Sorting, Sorts}
use Rattle.band_objects.specs.declared.object.ObjectState.{ObjectState}

-- the test is asked of the first idle object, which goes behind the others or leaves
pub record AsksFirst {F T : Type 0} (called : F → T → Status → Bool → F → T → Type 0)
    (idle : List (ObjectState T)) (test : F) (removed : List T) (after : Sorting F T) : Type 0 where
  pub object : ObjectState T
  pub others : List (ObjectState T)
  pub first : idle ≡ object ∷ others
  pub sorted : Sorts called (record { test = test; kept = others; removed = removed }) object after
