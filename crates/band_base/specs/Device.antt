-- What a device owes. What a read or a write does to bytes that are told is said by `Consumes`, `Appends`, `Keeps` and `IsAtEnd` of
-- `Rattle.std.specs.Io.KnownBytes`, which say nothing where the bytes are not told.
use Rattle.std.specs.Prelude.{◌≡◌, ℕ, ◌+◌, ◌-◌, ◌^◌, ◌≤◌, min, List, ◌++◌, Option}
use Rattle.std.specs.Io.KnownBytes.{Appends}

-- a count of faults, one fault later: it stays at the largest number
abbrev pub one_fault_more : ℕ → ℕ
one_fault_more before = min (before + 1) (2 ^ 64 - 1)

-- the count of faults rose, or stands at the largest number
abbrev pub Rose : ℕ → ℕ → Type 0
Rose before now = one_fault_more before ≤ now

-- a prefix of this text was appended to what was written, where that is told
pub record AppendsPrefix (text : List ℕ) (before after : Option (List ℕ)) : Type 0 where
  pub prefix : List ℕ
  pub rest : List ℕ
  pub whole : prefix ++ rest ≡ text
  pub appended : Appends before after prefix

-- a reader or a writer, and how often it has failed
pub record Counted (D : Type 0) : Type 0 where
  pub device : D
  pub faults : ℕ
