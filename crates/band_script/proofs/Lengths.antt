-- How long a line can be.
use Rattle.std.proofs.Common.{◌≡◌, ℕ, ◌+◌, ◌*◌, ◌^◌, ◌≤◌, true, List, [], ◌∷◌, length, Some, refl, ap, length-append, lit<, lit≤, arith}
use Rattle.std.specs.Prelude.{codes}
use Rattle.std.specs.Fmt.{decimal, digits}
use Rattle.std.specs.List.{join_with_byte, list_all}
use Rattle.std.proofs.lemmas.Bool.{and_parts, ltb-true}
use Rattle.std.proofs.lemmas.Fmt.{length-decimal-le}
use Rattle.band_script.specs.declared.call.Call.{Call}
use Rattle.band_script.specs.declared.call.Call.TheVariants as calls
use Rattle.band_script.specs.Call.{parts}
use Rattle.band_script.specs.Inner.Reading.{operands}
use Rattle.band_script.specs.Grammar.{IsLine, line_of}
use Rattle.band_script.specs.Name.{is_name}
use Rattle.band_script.specs.Number.{is_number}
use Rattle.band_script.proofs.GrammarLemmas.{operands_are}
use Rattle.band_script.proofs.NameLemmas.{name_length}

-- a name takes at most 33 bytes with the space before it, and a number 21
joined_length : (word : List ℕ) (names : List (List ℕ)) (numbers : List ℕ) → list_all is_name names ≡ true → list_all is_number numbers ≡ true
    → length (join_with_byte 32 (word ∷ operands names numbers)) ≤ length word + 33 * length names + 21 * length numbers
joined_length word [] [] names_are numbers_are = omega arith
joined_length word [] (n ∷ numbers) names_are numbers_are =
    let are = and_parts (is_number n) (list_all is_number numbers) numbers_are in
    let fits = ltb-true n (2 ^ 64) are.0 in
    let short = length-decimal-le 20 n (lit< tt) (omega (arith, fits)) fits in
    omega (arith, length-append word (32 ∷ join_with_byte 32 (decimal n ∷ operands [] numbers)), joined_length (decimal n) [] numbers refl are.1, short)
joined_length word (name ∷ names) numbers names_are numbers_are =
    let are = and_parts (is_name name) (list_all is_name names) names_are in
    omega (arith, length-append word (32 ∷ join_with_byte 32 (name ∷ operands names numbers)), joined_length name names numbers are.1 numbers_are, name_length name are.0)

-- a call has room in 111 bytes
has_room : (call : Call) → length (parts call).form + 33 * length (parts call).names + 21 * length (parts call).numbers ≤ 111
has_room (calls.Rw made (Some n)) = lit≤ tt
has_room call = lit≤ tt

pub line_length : (line : List ℕ) (call : Call) → IsLine line call → length line ≤ 111
line_length line call is =
    let are = operands_are call is.0 in
    omega (arith, ap length is.1, joined_length (parts call).form (parts call).names (parts call).numbers are.0 are.1, has_room call)

-- an `ask` takes as many with the longest names and the largest numbers
pub longest_line_is : (line : List ℕ) × ((call : Call) × IsLine line call × (length line ≡ 111))
unfolding digits
longest_line_is =
    let name = codes "abcdefghijklmnopqrstuvwxyz_01234" in
    let call = calls.Ask name name 18446744073709551615 18446744073709551615 in
    (line_of call, (call, (refl, refl), refl))
