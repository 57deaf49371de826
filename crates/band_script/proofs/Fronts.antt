-- The front of a text: the bytes before a word's end, and the words after it.
use Rattle.std.proofs.Common.{one-add, subst, get_or, ◌<◌, ◌≡◌, ℕ, zero, suc, ◌+◌, ◌≤◌, Bool, true, false, cond, List, [], ◌∷◌, ◌++◌, length, take, drop, refl, sym, ap, ◌∙◌, length-append, length-drop, ◌-◌, arith}
use Rattle.std.specs.List.{list_all, prefix_len, take_while}
use Rattle.std.proofs.lemmas.Bool.{and_parts}
use Rattle.std.proofs.lemmas.List.{take_all}
use Rattle.std.proofs.Math.Seq.{take-append_seam, drop-append_seam}
use Rattle.band_script.specs.Inner.Reading.{Ends}

-- a word's bytes pass a test that a space fails: where the word stands at the front of a text and ends there, just they pass
pub front_of_word : (p : ℕ → Bool) → p 32 ≡ false → (word rest : List ℕ) (m : ℕ) → list_all p word ≡ true → length word ≤ m → Ends rest → prefix_len p (take m (word ++ rest)) ≡ length word
front_of_word p space [] rest zero are room ends = refl
front_of_word p space [] [] (suc m) are room ends = refl
front_of_word p space [] (byte ∷ rest) (suc m) are room ends = rw (ends, space) refl
front_of_word p space (byte ∷ word) rest zero are room ends = absurd (omega arith)
front_of_word p space (byte ∷ word) rest (suc m) are room ends =
    let parts = and_parts _ _ are in
    ap (λ is. cond is (1 + prefix_len p (take m (word ++ rest))) 0) parts.0 ∙ omega (arith, front_of_word p space word rest m parts.1 (omega arith) ends)

-- the bytes at the front of a text that pass a test, so many at most
pub passes_front : (p : ℕ → Bool) (text : List ℕ) (m : ℕ) → list_all p (take (prefix_len p (take m text)) text) ≡ true
passes_front p text zero = refl
passes_front p [] (suc m) = refl
passes_front p (byte ∷ text) (suc m) = by_test (p byte) refl (passes_front p text m)
  where
    by_test : (pass : Bool) → p byte ≡ pass → list_all p (take (prefix_len p (take m text)) text) ≡ true → list_all p (take (cond pass (1 + prefix_len p (take m text)) 0) (byte ∷ text)) ≡ true
    by_test false fails rest = refl
    by_test true passes rest = rw (one-add (prefix_len p (take m text)), passes) rest

-- where the front is not bounded, the text is cut at the word's end
pub passes_whole_front : (p : ℕ → Bool) (text : List ℕ) → list_all p (take_while p text) ≡ true
passes_whole_front p text = subst (λ (t : List ℕ). list_all p (take (prefix_len p t) text) ≡ true) (take_all (length text) text (omega arith)) (passes_front p text (length text))

pub front_some : (p : ℕ → Bool) (text : List ℕ) → 0 < length text → p (get_or text 0 0) ≡ true → 0 < length (take_while p text)
front_some p [] some passes = absurd (omega arith)
front_some p (byte ∷ text) some passes = rw (passes, one-add (prefix_len p text)) (omega arith)

pub cut_of_word : (p : ℕ → Bool) → p 32 ≡ false → (text word rest : List ℕ) → list_all p word ≡ true → Ends rest → text ≡ word ++ rest
    → (take_while p text ≡ word) × (rest ≡ drop (prefix_len p text) text)
cut_of_word p space text word rest are ends same =
    let room : length word ≤ length (word ++ rest) = omega (arith, length-append word rest) in
    let size : prefix_len p (word ++ rest) ≡ length word =
    ap (prefix_len p) (sym (take_all (length (word ++ rest)) (word ++ rest) (omega arith))) ∙ front_of_word p space word rest (length (word ++ rest)) are room ends in
    rw (same, size) (take-append_seam word rest, sym (drop-append_seam word rest))

-- the text from a place on
pub from_place : (text : List ℕ) (n : ℕ) → take (length text - n) (drop n text) ≡ drop n text
from_place text n = take_all (length text - n) (drop n text) (omega (arith, length-drop n text))
