-- The number that a word of the program is.
use Rattle.std.proofs.Common.{◌≡◌, ℕ, ◌+◌, ◌^◌, ◌<◌, ◌≤◌, Bool, true, false, List, Result, Ok, Err, IsErr, sym, ap, ◌∙◌, subst, arith}
use Rattle.std.specs.Prelude.{◌↔◌, IsTrue, decimal, unwrap_or}
use Rattle.std.specs.Result.{result_unwrap_or}
use Rattle.std.specs.Str.Parse.{ParsesUnsigned}
use Rattle.std.proofs.lemmas.Bool.{false≢true}
use Rattle.std.proofs.lemmas.Fmt.{parse-decimal, decimal_injective}
use Rattle.band_play.specs.Bulk.{IsBulk}

-- a word that is read as no number is none
pub not_read : {E : Type 0} (word : List ℕ) (read : Result ℕ E) (error : E) → ParsesUnsigned 64 10 word read → read ≡ Err error
    → (n : ℕ) → word ≡ decimal n → n < 2 ^ 64 → ⊥
not_read word read error parses is n same fits = let e : Err error ≡ Ok n = sym is ∙ parse-decimal 64 n word read fits fits same parses in cc

-- one that is not the spelling of the number that it is read as is none
pub not_spelled : {E : Type 0} (word : List ℕ) (read : Result ℕ E) (k : ℕ) (spelled : Bool) → ParsesUnsigned 64 10 word read → read ≡ Ok k
    → IsTrue spelled ↔ (word ≡ decimal k) → spelled ≡ false → (n : ℕ) → word ≡ decimal n → n < 2 ^ 64 → ⊥
not_spelled word read k spelled parses is decides other n same fits =
    let e : k ≡ n = ap (λ r. result_unwrap_or r 0) (sym is ∙ parse-decimal 64 n word read fits fits same parses) in
    false≢true (sym other ∙ decides.1 (same ∙ ap decimal (sym e)))

-- a number that no bulk script has is not another one that one has
pub not_bulk : (word : List ℕ) (k : ℕ) (fits : Bool) → k < 2 ^ 64 → word ≡ decimal k → IsTrue fits ↔ IsBulk k → fits ≡ false → (n : ℕ) → word ≡ decimal n → IsBulk n → ⊥
not_bulk word k fits low is decides other n same bulk =
    let e : n ≡ k = decimal_injective n k (omega (arith, bulk.1)) low (sym same ∙ is) in
    false≢true (sym other ∙ decides.1 (subst IsBulk e bulk))

-- what a test denies
pub not_asked : (test : Bool) (P : Type 0) → IsTrue test ↔ P → test ≡ false → P → ⊥
not_asked test P decides other holds = false≢true (sym other ∙ decides.1 holds)
