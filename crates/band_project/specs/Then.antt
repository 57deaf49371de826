-- A part of a part.
use Rattle.std.specs.Prelude.{Option, option_and_then}
use Rattle.std.specs.Option.{option_map_or}

module _ {T U V : Type 0} where
  -- the part of the part, if both are there
  abbrev pub part_of_part : (T → Option U) → (U → Option V) → T → Option V
  part_of_part first second t = option_and_then second (first t)

  -- the value, whose part has this as its part; where it has no part, the value as it is
  abbrev pub with_part_of_part : (T → Option U) → (T → U → T) → (U → V → U) → T → V → T
  with_part_of_part first write rewrite t v = option_map_or (λ u. write t (rewrite u v)) (first t) t
