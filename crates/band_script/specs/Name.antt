-- What a name is: one to thirty-two small letters, digits and underscores.
use Rattle.std.specs.Prelude.{ℕ, Bool, ◌&&◌, ◌||◌, ◌==◌, nat_le, List, length, IsTrue}
use Rattle.std.specs.List.{list_all}

-- a byte of `a` to `z`, of `0` to `9`, or `_`
abbrev pub is_name_byte : ℕ → Bool
is_name_byte byte = (nat_le 97 byte && nat_le byte 122) || (nat_le 48 byte && nat_le byte 57) || byte == 95

-- one to thirty-two such bytes
abbrev pub is_name : List ℕ → Bool
is_name word = nat_le 1 (length word) && nat_le (length word) 32 && list_all is_name_byte word

abbrev pub IsName : List ℕ → Type 0
IsName word = IsTrue (is_name word)
