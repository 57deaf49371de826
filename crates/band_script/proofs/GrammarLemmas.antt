-- A line, the words of its call, and the form that its first word names.
use Rattle.std.proofs.Common.{◌≡◌, ℕ, ◌^◌, Bool, true, false, List, [], ◌∷◌, ◌++◌, length, Some, None, refl, sym, ap, ◌∙◌, subst, lit<, arith}
use Rattle.std.specs.Prelude.{◌==◌, ◌≢◌, codes, not, IsTrue, nat_lt, if◌then◌else◌}
use Rattle.std.specs.Fmt.{decimal}
use Rattle.std.specs.List.{list_all, list_any, join_with_byte}
use Rattle.std.specs.Str.{bytes_eq}
use Rattle.std.proofs.lemmas.Bool.{and_from, and_parts, false≢true, ltb-true}
use Rattle.std.proofs.lemmas.Fmt.{decimal_injective}
use Rattle.std.proofs.lemmas.List.Splits.{join_with_byte-slice_split, slice_split_at, slice_split_none}
use Rattle.band_script.specs.declared.call.Call.{Call}
use Rattle.band_script.specs.declared.call.Call.TheVariants as calls
use Rattle.band_script.specs.declared.form.Form.{Form}
use Rattle.band_script.specs.declared.form.OneName.{OneName}
use Rattle.band_script.specs.declared.form.OneName.TheVariants as one_name
use Rattle.band_script.specs.declared.form.Form.TheVariants as forms
use Rattle.band_script.specs.declared.form.NameNumber.{NameNumber}
use Rattle.band_script.specs.declared.form.NameNumber.TheVariants as name_number
use Rattle.band_script.specs.declared.form.TwoNames.{TwoNames}
use Rattle.band_script.specs.declared.form.TwoNames.TheVariants as two_names
use Rattle.band_script.specs.declared.form.TwoNamesNumber.{TwoNamesNumber}
use Rattle.band_script.specs.declared.form.TwoNamesNumber.TheVariants as two_names_number
use Rattle.band_script.specs.Call.{Parts, parts, spelling, written, IsCall}
use Rattle.band_script.specs.Grammar.{words_of, line_of, IsLine}
use Rattle.band_script.specs.Inner.Forms.{word_of, IsWritten}
use Rattle.band_script.specs.Inner.Reading.{Decodes, ReadsNameNumber, ReadsNameOption, ReadsOneName, ReadsTwoNames, ReadsTwoNamesNumber, ReadsTwoNamesTwoNumbers, are_operands, operands}
use Rattle.band_script.specs.Name.{is_name}
use Rattle.band_script.specs.Number.{is_number}
use Rattle.band_script.proofs.NameLemmas.{name_has_no_space}
use Rattle.band_script.proofs.NumberLemmas.{number_has_no_space}
use Rattle.band_script.proofs.WordLemmas.{HasNoSpace, no_space}

-- words that are joined by spaces are cut there again
cut_again : (word : List ℕ) (names : List (List ℕ)) (numbers : List ℕ) → HasNoSpace word → list_all is_name names ≡ true → list_all is_number numbers ≡ true
    → words_of (join_with_byte 32 (word ∷ operands names numbers)) ≡ word ∷ operands names numbers
cut_again word [] [] one names_are numbers_are = slice_split_none (λ byte. byte == 32) word one
cut_again word [] (n ∷ numbers) one names_are numbers_are =
    let parts = and_parts _ _ numbers_are in
    slice_split_at (λ byte. byte == 32) word 32 _ one refl ∙ ap (λ words. word ∷ words) (cut_again (decimal n) [] numbers (number_has_no_space n parts.0) refl parts.1)
cut_again word (name ∷ names) numbers one names_are numbers_are =
    let parts = and_parts _ _ names_are in
    slice_split_at (λ byte. byte == 32) word 32 _ one refl ∙ ap (λ words. word ∷ words) (cut_again name names numbers (name_has_no_space name parts.0) parts.1 numbers_are)

-- the word of a form has no space
call_word : (call : Call) → list_all (λ byte. not (byte == 32)) (parts call).form ≡ true
call_word (calls.Rw made (Some n)) = refl
call_word call = refl

-- a call begins with it and a space
pub begins : (call : Call) → line_of call ≡ (parts call).form ++ 32 ∷ join_with_byte 32 (operands (parts call).names (parts call).numbers)
begins (calls.Rw made (Some n)) = refl
begins call = refl

-- what a call's names and numbers are
pub operands_are : (call : Call) → IsCall call → (list_all is_name (parts call).names ≡ true) × (list_all is_number (parts call).numbers ≡ true)
operands_are call is = and_parts _ _ (and_parts _ _ is).0

-- the words of a line are those of its call
pub line_words : (line : List ℕ) (call : Call) → IsLine line call → words_of line ≡ spelling call
line_words line call is =
    let are = operands_are call is.0 in
    ap words_of is.1 ∙ cut_again (parts call).form (parts call).names (parts call).numbers (no_space _ refl _ (call_word call)) are.0 are.1

-- a line whose first word is that of a form, with the other words of a call of the form, stands for the call
pub written_line : (line : List ℕ) (form : Form) (rest : List ℕ) (names : List (List ℕ)) (numbers : List ℕ) (call : Call) → line ≡ word_of form ++ 32 ∷ rest → IsWritten call form names numbers
    → IsTrue (are_operands names numbers) × (words_of rest ≡ operands names numbers) → IsLine line call
written_line line form rest names numbers call begins is read =
    let word : parts call ≡ written (word_of form) names numbers = is.0 in
    let whole : IsTrue (are_operands (parts call).names (parts call).numbers) = rw word read.0 in
    let one = subst (λ (p : Parts). HasNoSpace p.form) word (no_space _ refl _ (call_word call)) in
    let words : words_of line ≡ spelling call =
    ap words_of begins ∙ slice_split_at (λ byte. byte == 32) (word_of form) 32 rest one refl
    ∙ ap (λ words. word_of form ∷ words) read.1 ∙ sym (ap (λ (p : Parts). p.form ∷ operands p.names p.numbers) word) in
    (and_from _ _ whole is.1, sym (join_with_byte-slice_split 32 line) ∙ ap (join_with_byte 32) words)

-- the first word and the others of a line that stands for a call
pub first_and_others : (word rest : List ℕ) (call : Call) → list_all (λ byte. not (byte == 32)) word ≡ true → IsLine (word ++ 32 ∷ rest) call
    → (word ≡ (parts call).form) × (words_of rest ≡ operands (parts call).names (parts call).numbers)
first_and_others word rest call one is =
    let words = sym (slice_split_at (λ byte. byte == 32) word 32 rest (no_space _ refl word one) refl) ∙ line_words _ call is in
    (cc, cc)

-- how many names and how many numbers follow the word of a form. After `rw` the number may be left out
abbrev counts_after : List ℕ → ℕ × ℕ
counts_after word =
    let is_among = list_any (bytes_eq word) in
    if is_among (codes "mutex" ∷ codes "drop" ∷ codes "close" ∷ codes "forget" ∷ codes "downgrade" ∷ codes "status" ∷ []) then (1, 0)
    else if is_among (codes "trylock" ∷ codes "tryread" ∷ codes "trywrite" ∷ codes "merge" ∷ []) then (2, 0)
    else if is_among (codes "lock" ∷ codes "read" ∷ codes "write" ∷ codes "try" ∷ codes "split" ∷ []) then (2, 1)
    else if is_among (codes "ask" ∷ []) then (2, 2)
    else (1, 1)

call_counts : (call : Call) → bytes_eq (parts call).form (codes "rw") ≡ false
    → ◌≡◌ {A = ℕ × ℕ} (length (parts call).names, length (parts call).numbers) (counts_after (parts call).form)
call_counts (calls.Rw made None) other = cc
call_counts (calls.Rw made (Some n)) other = cc
call_counts call other = refl

abbrev is_rw : Form → Bool
is_rw forms.Rw = true
is_rw form = false

abbrev counts_of : Form → ℕ × ℕ
counts_of (forms.OneName form) = (1, 0)
counts_of (forms.TwoNames form) = (2, 0)
counts_of (forms.TwoNamesNumber form) = (2, 1)
counts_of forms.Ask = (2, 2)
counts_of form = (1, 1)

-- what the proofs need of the word of a form
record IsFormWord (form : Form) : Type 0 where
  has_no_space : list_all (λ byte. not (byte == 32)) (word_of form) ≡ true
  tells_rw : bytes_eq (word_of form) (codes "rw") ≡ is_rw form
  tells_counts : ◌≡◌ {A = ℕ × ℕ} (counts_after (word_of form)) (counts_of form)

form_word : (form : Form) → IsFormWord form
form_word (forms.OneName one_name.Mutex) = record { has_no_space = refl; tells_rw = refl; tells_counts = refl }
form_word (forms.NameNumber name_number.Sem) = record { has_no_space = refl; tells_rw = refl; tells_counts = refl }
form_word (forms.TwoNames two_names.Merge) = record { has_no_space = refl; tells_rw = refl; tells_counts = refl }
form_word (forms.TwoNamesNumber two_names_number.Lock) = record { has_no_space = refl; tells_rw = refl; tells_counts = refl }
form_word form = record { has_no_space = refl; tells_rw = refl; tells_counts = refl }

-- the words are not so many names and numbers
abbrev AreNot : ℕ × ℕ → List (List ℕ) → Type 0
AreNot counts words =
    (names : List (List ℕ)) (numbers : List ℕ) → length names ≡ counts.0 → length numbers ≡ counts.1 → IsTrue (are_operands names numbers)
    → words ≢ operands names numbers

-- so a line of the form with them stands for no call
no_call : (form : Form) (rest : List ℕ) → is_rw form ≡ false → AreNot (counts_of form) (words_of rest) → Decodes (word_of form ++ 32 ∷ rest) None
no_call form rest other none call is =
    let word = form_word form in
    let cut = first_and_others (word_of form) rest call word.has_no_space is in
    let no_rw = subst (λ (w : List ℕ). bytes_eq w (codes "rw") ≡ false) cut.0 (word.tells_rw ∙ other) in
    let same = call_counts call no_rw ∙ sym (ap counts_after cut.0) ∙ word.tells_counts in
    none (parts call).names (parts call).numbers (ap (λ (p : ℕ × ℕ). p.0) same) (ap (λ (p : ℕ × ℕ). p.1) same) (and_parts _ _ is.0).0 cut.1

module _ (rest : List ℕ) where
  pub no_one_name : (form : OneName) → ReadsOneName (words_of rest) None → Decodes (word_of (forms.OneName form) ++ 32 ∷ rest) None
  no_one_name form none = no_call (forms.OneName form) rest refl are_not
    where
      are_not : AreNot (1, 0) (words_of rest)
      are_not (name ∷ []) [] size count are = none name are
      are_not names numbers size count are = absurd (omega arith)

  pub no_name_number : (form : NameNumber) → ReadsNameNumber (words_of rest) None → Decodes (word_of (forms.NameNumber form) ++ 32 ∷ rest) None
  no_name_number form none = no_call (forms.NameNumber form) rest refl are_not
    where
      are_not : AreNot (1, 1) (words_of rest)
      are_not (name ∷ []) (n ∷ []) size count are = none (name, n) are
      are_not names numbers size count are = absurd (omega arith)

  pub no_two_names : (form : TwoNames) → ReadsTwoNames (words_of rest) None → Decodes (word_of (forms.TwoNames form) ++ 32 ∷ rest) None
  no_two_names form none = no_call (forms.TwoNames form) rest refl are_not
    where
      are_not : AreNot (2, 0) (words_of rest)
      are_not (first ∷ second ∷ []) [] size count are = none (first, second) are
      are_not names numbers size count are = absurd (omega arith)

  pub no_two_names_number : (form : TwoNamesNumber) → ReadsTwoNamesNumber (words_of rest) None → Decodes (word_of (forms.TwoNamesNumber form) ++ 32 ∷ rest) None
  no_two_names_number form none = no_call (forms.TwoNamesNumber form) rest refl are_not
    where
      are_not : AreNot (2, 1) (words_of rest)
      are_not (first ∷ second ∷ []) (n ∷ []) size count are = none (first, second, n) are
      are_not names numbers size count are = absurd (omega arith)

  pub no_ask : ReadsTwoNamesTwoNumbers (words_of rest) None → Decodes (word_of forms.Ask ++ 32 ∷ rest) None
  no_ask none = no_call forms.Ask rest refl are_not
    where
      are_not : AreNot (2, 2) (words_of rest)
      are_not (made ∷ of ∷ []) (n ∷ waker ∷ []) size count are = none (made, of, n, waker) are
      are_not names numbers size count are = absurd (omega arith)

  -- what follows `rw` in a line that stands for a call
  rw_line : (call : Call) → IsLine (word_of forms.Rw ++ 32 ∷ rest) call
      → (bytes_eq (codes "rw") (parts call).form ≡ true) × IsTrue (are_operands (parts call).names (parts call).numbers)
      × (words_of rest ≡ operands (parts call).names (parts call).numbers)
  rw_line call is =
      let cut = first_and_others (codes "rw") rest call refl is in
      (ap (bytes_eq (codes "rw")) (sym cut.0), (and_parts _ _ is.0).0, cut.1)

  pub no_rw : ReadsNameOption (words_of rest) None → Decodes (word_of forms.Rw ++ 32 ∷ rest) None
  no_rw none (calls.Rw made None) is = let read = rw_line (calls.Rw made None) is in none (made, None) read.1 read.2
  no_rw none (calls.Rw made (Some n)) is = let read = rw_line (calls.Rw made (Some n)) is in none (made, Some n) read.1 read.2
  no_rw none call is = absurd (false≢true (rw_line call is).0)

  -- no call makes a lock for 0 readers
  pub no_rw_for_none : (made : List ℕ) → words_of rest ≡ operands (made ∷ []) (0 ∷ []) → Decodes (word_of forms.Rw ++ 32 ∷ rest) None
  no_rw_for_none made zero (calls.Rw other None) is = let read = rw_line (calls.Rw other None) is in cc
  no_rw_for_none made zero (calls.Rw other (Some n)) is =
      let read = rw_line (calls.Rw other (Some n)) is in
      let same : decimal n ≡ decimal 0 = cc in
      let fits = ltb-true n (2 ^ 64) (and_parts (is_number n) true (operands_are (calls.Rw other (Some n)) is.0).1).0 in
      let some = ltb-true 0 n (and_parts (are_operands (other ∷ []) (n ∷ [])) (nat_lt 0 n) is.0).1 in
      absurd (omega (arith, decimal_injective n 0 fits (lit< tt) same, some))
  no_rw_for_none made zero call is = absurd (false≢true (rw_line call is).0)
