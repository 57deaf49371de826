-- Where the numbers that two fronts spell differ, they compare as the bytes do.
use Rattle.std.proofs.Common.{◌≡◌, ℕ, zero, suc, ◌+◌, ◌*◌, ◌<◌, true, List, [], ◌∷◌, ◌++◌, length, get_or, take, replicate, Ordering, Less, Equal, Greater, sym, subst, arith}
use Rattle.std.specs.List.{list_all}
use Rattle.std.specs.Ordering.{nat_cmp, ordering_then, MatchOrdering}
use Rattle.std.specs.Cmp.{ranks, nat_cmp_is}
use Rattle.std.specs.Cmp.Lexicographic.{slice_cmp}
use Rattle.std.specs.Slice.Scan.{big_endian}
use Rattle.std.proofs.lemmas.Bool.{and_parts}
use Rattle.band_script.specs.Inner.Stored.{padded, name_in}
use Rattle.band_script.specs.Name.{is_name_byte, IsName}
use Rattle.band_script.proofs.NameLemmas.{name_byte_is_ascii}

abbrev pub AreBytes : List ℕ → Type 0
AreBytes bytes = (k : ℕ) → get_or bytes k 0 < 256

-- what follows a smaller number spells a smaller one
rises : (n p q : ℕ) (a b : List ℕ) → length a ≡ length b → AreBytes a → p < q → big_endian p (take n a) < big_endian q (take n b)
rises zero p q a b same bytes less = less
rises (suc n) p q [] [] same bytes less = less
rises (suc n) p q [] (y ∷ b) same bytes less = absurd (omega arith)
rises (suc n) p q (x ∷ a) [] same bytes less = absurd (omega arith)
rises (suc n) p q (x ∷ a) (y ∷ b) same bytes less =
    let small : x < 256 = bytes 0 in
    rises n (p * 256 + x) (q * 256 + y) a b (omega arith) (λ k. bytes (suc k)) (omega arith)

pub fronts_cmp : (n p q : ℕ) (a b : List ℕ) → p ≡ q → length a ≡ length b → AreBytes a → AreBytes b → (big_endian p (take n a) ≡ big_endian q (take n b) → ⊥)
    → nat_cmp (big_endian p (take n a)) (big_endian q (take n b)) ≡ slice_cmp nat_cmp a b
fronts_cmp zero p q a b level same of_a of_b differ = absurd (differ level)
fronts_cmp (suc n) p q [] [] level same of_a of_b differ = absurd (differ level)
fronts_cmp (suc n) p q [] (y ∷ b) level same of_a of_b differ = absurd (omega arith)
fronts_cmp (suc n) p q (x ∷ a) [] level same of_a of_b differ = absurd (omega arith)
fronts_cmp (suc n) p q (x ∷ a) (y ∷ b) level same of_a of_b differ =
    let deeper = λ (alike : x ≡ y). fronts_cmp n (p * 256 + x) (q * 256 + y) a b (omega arith) (omega arith) (λ k. of_a (suc k)) (λ k. of_b (suc k)) differ in
    by deeper (nat_cmp x y) (ranks x y)
  where
    Compare : Ordering → Type 0
    Compare found = nat_cmp (big_endian (p * 256 + x) (take n a)) (big_endian (q * 256 + y) (take n b)) ≡ found

    by : (x ≡ y → Compare (slice_cmp nat_cmp a b)) → (found : Ordering) → MatchOrdering found (x < y) (x ≡ y) (y < x) → Compare (ordering_then found (slice_cmp nat_cmp a b))
    by deeper Less less =
        let below : x < y = less in
        sym (nat_cmp_is _ _ Less (rises n (p * 256 + x) (q * 256 + y) a b (omega arith) (λ k. of_a (suc k)) (omega arith)))
    by deeper Equal alike = deeper alike
    by deeper Greater greater =
        let above : y < x = greater in
        sym (nat_cmp_is _ _ Greater (rises n (q * 256 + y) (p * 256 + x) b a (omega arith) (λ k. of_b (suc k)) (omega arith)))

before_zeros : (name : List ℕ) (m : ℕ) → list_all is_name_byte name ≡ true → AreBytes (name ++ replicate m 0)
before_zeros [] zero are k = omega arith
before_zeros [] (suc m) are zero = omega arith
before_zeros [] (suc m) are (suc k) = before_zeros [] m are k
before_zeros (x ∷ name) m are zero = omega (arith, name_byte_is_ascii x (and_parts _ _ are).0)
before_zeros (x ∷ name) m are (suc k) = before_zeros name m (and_parts _ _ are).1 k

pub kept_bytes : (bytes : List ℕ) → IsName (name_in bytes) × (bytes ≡ padded (name_in bytes)) → AreBytes bytes
kept_bytes bytes kept = subst AreBytes (sym kept.1) (before_zeros (name_in bytes) _ (and_parts _ _ kept.0).1)
