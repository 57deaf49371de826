-- The wakes of a text, by its first line.
use Rattle.std.proofs.Common.{◌≡◌, ℕ, ◌+◌, Bool, true, false, cond, List, [], ◌∷◌, ◌++◌, ap, ◌∙◌, arith}
use Rattle.std.specs.Prelude.{count_by}
use Rattle.std.proofs.lemmas.List.Sums.{sum_by-cons}
use Rattle.band_rules.specs.Script.{lines_of}
use Rattle.band_play.specs.Bulk.{is_wake, wakes_in}
use Rattle.band_play.specs.Lines.{HasNoNewline}
use Rattle.band_play.proofs.LineCuts.{lines_of-line, lines_of-none}

abbrev one_if : Bool → ℕ
one_if b = cond b 1 0

wakes_by_line : (rest line after : List ℕ) → rest ≡ line ++ 10 ∷ after → HasNoNewline line → wakes_in rest ≡ one_if (is_wake line) + wakes_in after
wakes_by_line rest line after is none =
    ap (λ lines. count_by is_wake lines) (ap lines_of is ∙ lines_of-line line after none) ∙ sum_by-cons (λ line. one_if (is_wake line)) line (lines_of after)

pub one_wake : (rest line after : List ℕ) → rest ≡ line ++ 10 ∷ after → HasNoNewline line → is_wake line ≡ true → wakes_in rest ≡ wakes_in after + 1
one_wake rest line after is none wakes = let one : one_if (is_wake line) ≡ 1 = ap one_if wakes in omega (arith, wakes_by_line rest line after is none, one)

pub no_wake : (rest line after : List ℕ) → rest ≡ line ++ 10 ∷ after → HasNoNewline line → is_wake line ≡ false → wakes_in rest ≡ wakes_in after
no_wake rest line after is none other = let zero_is : one_if (is_wake line) ≡ 0 = ap one_if other in omega (arith, wakes_by_line rest line after is none, zero_is)

pub no_wakes : (rest : List ℕ) → HasNoNewline rest → wakes_in rest ≡ 0
no_wakes rest none = ap (λ lines. count_by is_wake lines) (lines_of-none rest none)
