-- A name is ASCII. With zeros after it, it can be found again, and two names compare as before.
use Rattle.std.proofs.Common.{drop, ◌≡◌, ℕ, zero, suc, ◌+◌, ◌-◌, ◌<◌, ◌≤◌, Bool, true, false, cond, not, List, [], ◌∷◌, ◌++◌, length, get_or, take, replicate, Less, Equal, Greater, refl, sym, ap, ◌∙◌, subst, append_assoc, length-take, arith}
use Rattle.std.specs.Prelude.{◌==◌, ◌&&◌}
use Rattle.std.specs.List.{list_all, position, position_or_len, prefix_len}
use Rattle.std.specs.Option.{unwrap_or}
use Rattle.std.specs.Ordering.{nat_cmp, ordering_then}
use Rattle.std.specs.Cmp.{tied_itself}
use Rattle.std.specs.Cmp.Lexicographic.{slice_cmp, nat_list_cmp_total}
use Rattle.std.specs.Str.{IsAscii}
use Rattle.std.proofs.lemmas.Bool.{and_parts, and_from, le-leb, leb-true}
use Rattle.std.proofs.lemmas.Bool.Decides.{nat_tests}
use Rattle.std.proofs.lemmas.List.{get_or-take, take_more}
use Rattle.std.proofs.lemmas.List.Sums.{AllPass-from_list_all, take_while-cons, prefix_len-le-length, prefix_len_is}
use Rattle.std.proofs.Math.ListN.{set}
use Rattle.std.proofs.Math.Seq.{drop-append_seam, set-append_seam}
use Rattle.std.proofs.lemmas.Str.Ascii.{IsAscii-from_all}
use Rattle.band_script.specs.Name.{is_name_byte, is_name}
use Rattle.band_script.specs.Inner.Reading.{Ends}
use Rattle.band_script.proofs.WordLemmas.{HasNoSpace, no_space}
use Rattle.band_script.proofs.Fronts.{front_of_word, passes_front}
use Rattle.band_script.specs.Inner.Stored.{padded, name_in}

pub name_byte_is_ascii : (byte : ℕ) → is_name_byte byte ≡ true → byte < 128
name_byte_is_ascii byte is = grind (arith, nat_tests)

pub name_is_ascii : (word : List ℕ) → is_name word ≡ true → IsAscii word
name_is_ascii word is =
    let bytes = (and_parts _ _ is).1 in
    IsAscii-from_all word (λ k d at. name_byte_is_ascii _ (AllPass-from_list_all is_name_byte word bytes k d at))

name_byte_is_not_zero : (byte : ℕ) → is_name_byte byte ≡ true → not (byte == 0) ≡ true
name_byte_is_not_zero byte is = grind (arith, nat_tests)

name_byte_is_greater : (byte : ℕ) → is_name_byte byte ≡ true → nat_cmp byte 0 ≡ Greater
name_byte_is_greater byte is = grind (arith, nat_tests)

zero_is_less : (byte : ℕ) → is_name_byte byte ≡ true → nat_cmp 0 byte ≡ Less
zero_is_less byte is = grind (arith, nat_tests)

name_before_zeros : (word : List ℕ) (n : ℕ) → list_all is_name_byte word ≡ true → name_in (word ++ replicate n 0) ≡ word
name_before_zeros [] zero are = refl
name_before_zeros [] (suc n) are = refl
name_before_zeros (byte ∷ word) n are =
    let parts = and_parts _ _ are in
    let rest = word ++ replicate n 0 in
    take_while-cons (λ byte. not (byte == 0)) byte rest
    ∙ ap (λ test. cond test (byte ∷ name_in rest) []) (name_byte_is_not_zero byte parts.0)
    ∙ ap (λ bytes. byte ∷ bytes) (name_before_zeros word n parts.1)

pub name_in_padded : (word : List ℕ) → is_name word ≡ true → name_in (padded word) ≡ word
name_in_padded word is = name_before_zeros word _ (and_parts _ _ is).1

-- the bytes up to the first 0, or to the end where none is 0
pub until_zero : (bytes : List ℕ) (end : ℕ) → end ≡ unwrap_or (position (λ byte. byte == 0) bytes) (length bytes) → take end bytes ≡ name_in bytes
until_zero bytes end is =
    let within = prefix_len-le-length (λ byte. not (byte == 0)) bytes in
    let at : end ≡ position_or_len (λ byte. byte == 0) bytes = grind (arith, nat_tests) in
    ap (λ n. take n bytes) at

-- zeros up to one length leave the order of two names as it is
cmp_before_zeros : (a b : List ℕ) (m n : ℕ) → list_all is_name_byte a ≡ true → list_all is_name_byte b ≡ true → length a + m ≡ length b + n
    → slice_cmp nat_cmp (a ++ replicate m 0) (b ++ replicate n 0) ≡ slice_cmp nat_cmp a b
cmp_before_zeros [] [] m n first second same =
    let e : m ≡ n = omega arith in
    subst (λ k. slice_cmp nat_cmp (replicate m 0) (replicate k 0) ≡ Equal) e (tied_itself nat_list_cmp_total (replicate m 0))
cmp_before_zeros [] (y ∷ b) zero n first second same = absurd (omega arith)
cmp_before_zeros [] (y ∷ b) (suc m) n first second same =
    ap (λ found. ordering_then found (slice_cmp nat_cmp (replicate m 0) (b ++ replicate n 0))) (zero_is_less y (and_parts _ _ second).0)
cmp_before_zeros (x ∷ a) [] m zero first second same = absurd (omega arith)
cmp_before_zeros (x ∷ a) [] m (suc n) first second same =
    ap (λ found. ordering_then found (slice_cmp nat_cmp (a ++ replicate m 0) (replicate n 0))) (name_byte_is_greater x (and_parts _ _ first).0)
cmp_before_zeros (x ∷ a) (y ∷ b) m n first second same =
    ap (ordering_then (nat_cmp x y)) (cmp_before_zeros a b m n (and_parts _ _ first).1 (and_parts _ _ second).1 (omega arith))

pub padded_cmp : (a b : List ℕ) → is_name a ≡ true → is_name b ≡ true → slice_cmp nat_cmp (padded a) (padded b) ≡ slice_cmp nat_cmp a b
padded_cmp a b is_a is_b =
    cmp_before_zeros a b _ _ (and_parts _ _ is_a).1 (and_parts _ _ is_b).1 (grind (arith, nat_tests))

-- a table that tells of each byte whether it is one of a name
abbrev tells_from : ℕ → List Bool → Bool
tells_from byte [] = true
tells_from byte (test ∷ tests) = cond test (is_name_byte byte) (not (is_name_byte byte)) && tells_from (suc byte) tests

told : (test is : Bool) → cond test is (not is) ≡ true → test ≡ is
told true is e = sym e
told false true e = cc
told false false e = refl

pub told_at : (tests : List Bool) (start place byte : ℕ) → tells_from start tests ≡ true → place < length tests → byte ≡ start + place → get_or tests place false ≡ is_name_byte byte
told_at [] start place byte tells within is = absurd (omega arith)
told_at (test ∷ tests) start zero byte tells within is =
    let same : start ≡ byte = omega arith in
    told test _ (and_parts _ _ tells).0 ∙ ap is_name_byte same
told_at (test ∷ tests) start (suc place) byte tells within is = told_at tests (suc start) place byte (and_parts _ _ tells).1 (omega arith) (omega arith)

-- one more byte of a name is kept
pub padded_more : (text : List ℕ) (i : ℕ) → i < length text → i < 32 → set (padded (take i text)) i (get_or text i 0) ≡ padded (take (i + 1) text)
padded_more text i within room =
    let size : length (take i text) ≡ i = omega (arith, length-take i text) in
    let zeros : 32 - length (take i text) ≡ suc (31 - i) = omega arith in
    let left : 31 - i ≡ 32 - length (take (i + 1) text) = omega (arith, length-take (i + 1) text) in
    ap (λ n. set (take i text ++ replicate n 0) i (get_or text i 0)) zeros
    ∙ ap (λ n. set (take i text ++ replicate (suc (31 - i)) 0) n (get_or text i 0)) (sym size)
    ∙ set-append_seam (take i text) 0 (replicate (31 - i) 0) (get_or text i 0)
    ∙ sym (append_assoc (take i text) (get_or text i 0 ∷ []) (replicate (31 - i) 0))
    ∙ ap (λ front. front ++ replicate (31 - i) 0) (sym (take_more text i 0 within))
    ∙ ap (λ n. take (i + 1) text ++ replicate n 0) left

-- so many bytes at the front of a text may be a name's
pub front_len : (text : List ℕ) (n : ℕ) → n ≤ 32 → n ≤ length text → ((k : ℕ) → k < n → is_name_byte (get_or text k 0) ≡ true)
    → (n < 32 → n < length text → is_name_byte (get_or text n 0) ≡ false) → n ≡ prefix_len is_name_byte (take 32 text)
front_len text n room within pass stop =
    sym (prefix_len_is is_name_byte (take 32 text) n 0 (omega (arith, length-take 32 text))
    (λ k below. let near : k < 32 = omega arith in rw get_or-take (pass k below))
    (λ more. let near : n < 32 = omega (arith, length-take 32 text) in rw get_or-take (stop near (omega (arith, length-take 32 text)))))

pub front_is_name : (text : List ℕ) (n : ℕ) → n ≡ prefix_len is_name_byte (take 32 text) → n ≤ length text → 0 < n → is_name (take n text) ≡ true
front_is_name text n is within some =
    let size : length (take n text) ≡ n = omega (arith, length-take n text) in
    let most : n ≤ 32 = omega (arith, prefix_len-le-length is_name_byte (take 32 text), length-take 32 text) in
    let least : 1 ≤ length (take n text) = omega arith in
    let room : length (take n text) ≤ 32 = omega arith in
    and_from _ _ (and_from _ _ (le-leb _ _ least) (le-leb _ _ room)) (rw is (passes_front is_name_byte text 32))

pub only_name : (text : List ℕ) (n : ℕ) → n ≡ prefix_len is_name_byte (take 32 text) → (name rest : List ℕ) → is_name name ≡ true → Ends rest → text ≡ name ++ rest
    → (n ≡ length name) × (rest ≡ drop n text)
only_name text n is name rest is_one ends same =
    let parts = and_parts _ _ is_one in
    let room : length name ≤ 32 = leb-true _ _ (and_parts _ _ parts.0).1 in
    let size : n ≡ length name = is ∙ ap (λ t. prefix_len is_name_byte (take 32 t)) same ∙ front_of_word is_name_byte refl name rest 32 parts.1 room ends in
    (size, rw (same, size) (sym (drop-append_seam name rest)))

-- the name that is kept of them
pub kept_name : (text kept : List ℕ) (n : ℕ) → n ≡ prefix_len is_name_byte (take 32 text) → n ≤ length text → 0 < n → kept ≡ padded (take n text)
    → (is_name (name_in kept) ≡ true) × (name_in kept ≡ take n text)
kept_name text kept n is within some same =
    let is_one = front_is_name text n is within some in
    let name : name_in kept ≡ take n text = ap name_in same ∙ name_in_padded (take n text) is_one in
    (rw name is_one, name)

pub name_has_no_space : (name : List ℕ) → is_name name ≡ true → HasNoSpace name
name_has_no_space name is = no_space is_name_byte refl name (and_parts _ _ is).1

pub name_length : (name : List ℕ) → is_name name ≡ true → length name ≤ 32
name_length name is = leb-true (length name) 32 (and_parts _ _ (and_parts _ _ is).0).1
