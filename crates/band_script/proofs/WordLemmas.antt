-- A line and its words.
use Rattle.std.proofs.Common.{◌≡◌, ℕ, Bool, true, false, List, [], ◌∷◌, ◌++◌, get_or, Some, None, refl, sym, ap, ◌∙◌, subst, append-nil, length, arith}
use Rattle.std.specs.Prelude.{◌==◌, ◌≢◌, Option}
use Rattle.std.specs.Borrow.{Bor}
use Rattle.std.specs.List.{All, list_all, join_with_byte}
use Rattle.std.proofs.lemmas.Bool.{eqb-true, false≢true}
use Rattle.std.proofs.lemmas.List.Splits.{join_with_byte-slice_split, length-slice_split, slice_split_at, slice_split_none}
use Rattle.std.proofs.lemmas.List.Sums.{AllPass-from_list_all}
use Rattle.band_script.specs.Grammar.{words_of}
use Rattle.band_script.specs.Inner.Reading.{Ends, ReadsFront, spaced, words_in}

abbrev pub HasNoSpace : List ℕ → Type 0
HasNoSpace word = All (λ byte. (byte == 32) ≡ false) word

-- a word has none where its bytes pass a test that a space fails
pub no_space : (p : ℕ → Bool) → p 32 ≡ false → (word : List ℕ) → list_all p word ≡ true → HasNoSpace word
no_space p space word are = λ k d within. apart (get_or word k d) (AllPass-from_list_all p word are k d within)
  where
    by_test : (byte : ℕ) (same : Bool) → (byte == 32) ≡ same → p byte ≡ true → same ≡ false
    by_test byte true e passes = absurd (false≢true (sym (ap p (eqb-true byte 32 e) ∙ space) ∙ passes))
    by_test byte false e passes = refl

    apart : (byte : ℕ) → p byte ≡ true → (byte == 32) ≡ false
    apart byte passes = by_test byte (byte == 32) refl passes

-- a text has a word, if only an empty one
pub some_word : (text : List ℕ) → words_of text ≡ [] → ⊥
some_word text none = omega (arith, ap length none, length-slice_split (λ byte. byte == 32) text)

-- the first word is cut off at its end
pub first_word : (word : List ℕ) (rest : Option (Bor (List ℕ))) → HasNoSpace word → words_of (word ++ spaced rest) ≡ word ∷ words_in rest
first_word word None one = rw (append-nil word) (slice_split_none (λ byte. byte == 32) word one)
first_word word (Some text) one = slice_split_at (λ byte. byte == 32) word 32 text.now one refl

-- and the text goes on so behind it
pub behind_first : (text word : List ℕ) (more : List (List ℕ)) → words_of text ≡ word ∷ more → (rest : List ℕ) × Ends rest × (text ≡ word ++ rest)
behind_first text word [] are = ([], tt, sym (join_with_byte-slice_split 32 text) ∙ ap (join_with_byte 32) are ∙ sym (append-nil word))
behind_first text word (next ∷ more) are = (32 ∷ join_with_byte 32 (next ∷ more), refl, sym (join_with_byte-slice_split 32 text) ∙ ap (join_with_byte 32) are)

-- what is read at the front of a text is the first of its words
module _ {A : Type 0} (Is : A → Type 0) (spells : A → List ℕ) (text : List ℕ) where
  pub no_first : ReadsFront Is spells text None → (a : A) (more : List (List ℕ)) → Is a → words_of text ≢ spells a ∷ more
  no_first none a more is are =
      let behind = behind_first text (spells a) more are in
      none a behind.0 is behind.1 behind.2

  pub goes_on : (read : A × Bor (List ℕ)) → ReadsFront Is spells text (Some read) → (Ends read.1.now → ⊥) → (a : A) (more : List (List ℕ)) → Is a → words_of text ≢ spells a ∷ more
  goes_on read front on a more is are =
      let behind = behind_first text (spells a) more are in
      on (subst Ends (front.2 a behind.0 is behind.1 behind.2) behind.1)

  pub first_read : (read : A × Bor (List ℕ)) (rest : Option (Bor (List ℕ))) → ReadsFront Is spells text (Some read) → read.1.now ≡ spaced rest → HasNoSpace (spells read.0)
      → words_of text ≡ spells read.0 ∷ words_in rest
  first_read read rest front after one = ap words_of (front.1 ∙ ap (λ left. spells read.0 ++ left) after) ∙ first_word (spells read.0) rest one
