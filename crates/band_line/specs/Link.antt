-- How a link to a slot is kept in 32 bits.
use Rattle.std.specs.Prelude.{◌≢◌, ℕ, ◌==◌, if◌then◌else◌, Option, Some, None}
use Rattle.band_line.specs.Arena.{slot_limit}

-- the number of a link to no slot
abbrev pub nobody : ℕ
nobody = 0xffff_ffff

-- a number that a link may have: the one that is left out stands for a node that is detached
abbrev pub IsLink : ℕ → Type 0
IsLink number = number ≢ slot_limit

-- the slot that a number links to, if any
abbrev pub link_of : ℕ → Option ℕ
link_of number = if number == nobody then None else Some number

-- the number of a link
abbrev pub number_of : Option ℕ → ℕ
number_of None = nobody
number_of (Some number) = number
