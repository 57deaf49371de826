-- What a number is: one below 2 ^ 64, written in decimal with no zero before it.
use Rattle.std.specs.Prelude.{ℕ, ◌^◌, Bool, nat_lt, IsTrue}

abbrev pub is_number : ℕ → Bool
is_number n = nat_lt n (2 ^ 64)

abbrev pub IsNumber : ℕ → Type 0
IsNumber n = IsTrue (is_number n)
