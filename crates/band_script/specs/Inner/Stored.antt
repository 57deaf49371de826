-- How a name is kept.
use Rattle.std.specs.Prelude.{ℕ, ◌-◌, ◌==◌, List, ◌++◌, length, replicate}
use Rattle.std.specs.List.{before_first}

-- its bytes and then zeros, 32 in all
abbrev pub padded : List ℕ → List ℕ
padded name = name ++ replicate (32 - length name) 0

-- the name in such bytes: those before the first 0
abbrev pub name_in : List ℕ → List ℕ
name_in bytes = before_first (λ byte. byte == 0) bytes
