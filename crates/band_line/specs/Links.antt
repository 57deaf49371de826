-- What the links of a node stand for.
use Rattle.std.specs.Prelude.{ℕ, ◌==◌, if◌then◌else◌, Option, Some, None}
use Rattle.band_line.specs.Arena.{slot_limit}
use Rattle.band_line.specs.Link.{link_of}
use Rattle.band_line.specs.declared.link.Between.{Between}

-- the slots that a node stands between, if it is linked
abbrev pub links_of : ℕ → Option ℕ → Option Between
links_of prev next = if prev == slot_limit then None else Some (record { prev = link_of prev; next = next })

abbrev pub with_prev : Option ℕ → Between → Between
with_prev prev links = record links { prev = prev }

abbrev pub with_next : Option ℕ → Between → Between
with_next next links = record links { next = next }
