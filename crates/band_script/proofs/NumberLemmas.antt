-- The digits at the front of a text, and the number that they write.
use Rattle.std.proofs.Common.{subst, take-take, take-append-drop, ◌≡◌, ℕ, Option, Some, None, inl, inr, ◌⊎◌, lit<, lit≤, ◌+◌, ◌*◌, ◌-◌, ◌^◌, ◌<◌, ◌≤◌, true, false, List, [], ◌∷◌, ◌++◌, length, take, drop, get_or, refl, sym, ap, ◌∙◌, below_more, arith, rules}
use Rattle.std.specs.Char.{is_ascii_digit, digit_value}
use Rattle.std.specs.Fmt.{decimal}
use Rattle.std.specs.List.{list_all, prefix_len, take_while}
use Rattle.std.specs.Borrow.{Bor}
use Rattle.std.specs.Str.Parse.{digits_value}
use Rattle.std.proofs.lemmas.Bool.{cases_lt, false≢true, ltb-true, lt-ltb, and_parts, and_from, leb-true, le-leb}
use Rattle.std.proofs.lemmas.Bool.Decides.{nat_tests}
use Rattle.std.proofs.lemmas.Fmt.{decimal-digits_value, digits_decimal, digits_value-decimal, first_decimal, decimal_nonempty, decimal_digit}
use Rattle.std.proofs.lemmas.Int.Digits.{digits_value_more}
use Rattle.std.proofs.lemmas.List.Sums.{prefix_len_is, prefix_len_stops}
use Rattle.std.proofs.lemmas.Str.Parse.{IsNumeralModel, IsDigitsTest, numerals_by_value, digits_value-take-le}
use Rattle.band_script.specs.Inner.Reading.{Ends, ReadsDigits, ReadsFrontNumber}
use Rattle.band_script.specs.Number.{IsNumber, is_number}
use Rattle.band_script.proofs.WordLemmas.{HasNoSpace, no_space}
use Rattle.band_script.proofs.Fronts.{cut_of_word, from_place, front_some, passes_whole_front}

digit_is : (byte : ℕ) → is_ascii_digit byte ≡ true → digit_value byte ≡ byte - 48
digit_is byte is = grind (arith, nat_tests)

-- the digits so far are read, where the next byte is none
pub digits_read : (text : List ℕ) (i n : ℕ) → i ≤ length text → ((k : ℕ) → k < i → is_ascii_digit (get_or text k 0) ≡ true) → (i < length text → is_ascii_digit (get_or text i 0) ≡ false)
    → n ≡ digits_value 10 (take i text) → n < 2 ^ 64
    → (n ≡ digits_value 10 (take_while is_ascii_digit text)) × IsNumber n × (take (length text - i) (drop i text) ≡ drop (prefix_len is_ascii_digit text) text)
digits_read text i n within are stop same fits =
    let size = sym (prefix_len_is is_ascii_digit text i 0 within are stop) in
    (same ∙ ap (λ k. digits_value 10 (take k text)) size, lt-ltb _ _ fits, from_place text i ∙ ap (λ k. drop k text) size)

-- one more digit
pub digits_more : (text : List ℕ) (i n : ℕ) → i < length text → is_ascii_digit (get_or text i 0) ≡ true → n ≡ digits_value 10 (take i text)
    → n * 10 + (get_or text i 0 - 48) ≡ digits_value 10 (take (i + 1) text)
digits_more text i n within is same = omega (arith, digits_value_more 10 text i within, digit_is (get_or text i 0) is)

-- the number of all digits is no less than that of the first
digits_past : (text : List ℕ) (i : ℕ) → i < length text → ((k : ℕ) → k < i + 1 → is_ascii_digit (get_or text k 0) ≡ true)
    → digits_value 10 (take (i + 1) text) ≤ digits_value 10 (take_while is_ascii_digit text)
digits_past text i within are = by_end (cases_lt (prefix_len is_ascii_digit text) (i + 1))
  where
    by_end : ((prefix_len is_ascii_digit text < i + 1) ⊎ (i + 1 ≤ prefix_len is_ascii_digit text)) → digits_value 10 (take (i + 1) text) ≤ digits_value 10 (take_while is_ascii_digit text)
    by_end (inl short) =
        let stops = prefix_len_stops is_ascii_digit text 0 (omega arith) in
        let passes = are (prefix_len is_ascii_digit text) short in
        absurd (false≢true (sym stops ∙ passes))
    by_end (inr enough) = subst (λ (digits : List ℕ). digits_value 10 digits ≤ digits_value 10 (take_while is_ascii_digit text)) (take-take (i + 1) (prefix_len is_ascii_digit text) text enough)
        (digits_value-take-le 10 (take_while is_ascii_digit text) (i + 1) (lit≤ tt))

-- so where the first make too large a number, all do
pub digits_over : (text : List ℕ) (i n : ℕ) → i < length text → ((k : ℕ) → k < i → is_ascii_digit (get_or text k 0) ≡ true) → is_ascii_digit (get_or text i 0) ≡ true
    → n ≡ digits_value 10 (take i text) → 2 ^ 64 ≤ n * 10 + (get_or text i 0 - 48) → 2 ^ 64 ≤ digits_value 10 (take_while is_ascii_digit text)
digits_over text i n within are is same over = omega (arith, digits_more text i n within is same, digits_past text i within (below_more _ _ are is))

are_digits_test : IsDigitsTest (λ word. list_all is_ascii_digit word ≡ true)
are_digits_test = search rules

own : IsNumeralModel (λ word. list_all is_ascii_digit word ≡ true) (digits_value 10)
own = numerals_by_value _ are_digits_test

decimal_are_digits : (n : ℕ) → is_number n ≡ true → list_all is_ascii_digit (decimal n) ≡ true
decimal_are_digits n is = digits_decimal own n (ltb-true _ _ is)

-- a number at the front of a text begins with a digit, and with `0` only where it is 0
first_of : (text digits rest : List ℕ) → list_all is_ascii_digit digits ≡ true → 0 < length digits → text ≡ digits ++ rest
    → (get_or digits 0 0 ≡ get_or text 0 0) × (is_ascii_digit (get_or text 0 0) ≡ true) × (0 < length text)
first_of text [] rest are some same = absurd (omega arith)
first_of text (digit ∷ digits) rest are some same = rw same (refl, (and_parts _ _ are).0, omega arith)

pub first_of_number : (text : List ℕ) (n : ℕ) (rest : List ℕ) → is_number n ≡ true → text ≡ decimal n ++ rest → (48 ≤ get_or text 0 0) × (get_or text 0 0 ≤ 57) × (0 < length text)
first_of_number text n rest is same =
    let first = first_of text (decimal n) rest (decimal_are_digits n is) (decimal_nonempty n (ltb-true _ _ is)) same in
    (leb-true _ _ (and_parts _ _ first.1).0, leb-true _ _ (and_parts _ _ first.1).1, first.2)

zero_front : (left : List ℕ) (n : ℕ) (rest : List ℕ) → is_number n ≡ true → 48 ∷ left ≡ decimal n ++ rest → rest ≡ left
zero_front left n rest is same = by_size (cases_lt 0 n)
  where
    by_size : ((0 < n) ⊎ (n ≤ 0)) → rest ≡ left
    by_size (inl some) =
        let fits = ltb-true _ _ is in
        let first = first_of (48 ∷ left) (decimal n) rest (decimal_are_digits n is) (decimal_nonempty n fits) same in
        absurd (omega (arith, first_decimal n some fits, first.0))
    by_size (inr none) =
        let zero : n ≡ 0 = omega arith in
        let whole : 48 ∷ left ≡ 48 ∷ rest = same ∙ ap (λ digits. digits ++ rest) (ap decimal zero ∙ decimal_digit 0 (lit< tt)) in
        cc

pub zero_read : (text : List ℕ) → 0 < length text → get_or text 0 0 ≡ 48
    → (text ≡ decimal 0 ++ drop 1 text) × ((n : ℕ) (rest : List ℕ) → IsNumber n → Ends rest → text ≡ decimal n ++ rest → rest ≡ drop 1 text)
zero_read [] some zero = absurd (omega arith)
zero_read (byte ∷ left) some zero =
    (ap (λ first. first ∷ left) zero ∙ ap (λ digits. digits ++ left) (sym (decimal_digit 0 (lit< tt))), λ n rest is ends same. zero_front left n rest is (ap (λ first. first ∷ left) (sym zero) ∙ same))

-- the digits at the front of a text are the number there, if one ends there
only_number : (text : List ℕ) (n : ℕ) (rest : List ℕ) → is_number n ≡ true → Ends rest → text ≡ decimal n ++ rest
    → (digits_value 10 (take_while is_ascii_digit text) ≡ n) × (rest ≡ drop (prefix_len is_ascii_digit text) text)
only_number text n rest is ends same =
    let cut = cut_of_word is_ascii_digit refl text (decimal n) rest (decimal_are_digits n is) ends same in
    (ap (digits_value 10) cut.0 ∙ digits_value-decimal own n (ltb-true _ _ is), cut.1)

-- they are read as one, if the first is none of `0`
pub digits_front : (text : List ℕ) (read : Option (ℕ × Bor (List ℕ))) → 48 < get_or text 0 0 → get_or text 0 0 ≤ 57 → 0 < length text → ReadsDigits text read
    → ReadsFrontNumber text read
digits_front text None low high some past = λ n rest is ends same.
    let only = only_number text n rest is ends same in
    absurd (omega (arith, only.0, past, ltb-true _ _ is))
digits_front text (Some read) low high some is =
    let least : 48 ≤ get_or text 0 0 = omega arith in
    let digit : is_ascii_digit (get_or text 0 0) ≡ true = and_from _ _ (le-leb _ _ least) (le-leb _ _ high) in
    let digits = take_while is_ascii_digit text in
    let are = passes_whole_front is_ascii_digit text in
    let cut = take-append-drop (prefix_len is_ascii_digit text) text in
    let length_some : 0 < length digits = front_some is_ascii_digit text some digit in
    let first = first_of text digits (drop (prefix_len is_ascii_digit text) text) are length_some (sym cut) in
    let fits : digits_value 10 digits < 2 ^ 64 = omega (arith, is.0, ltb-true _ _ is.1) in
    let spelt : decimal (digits_value 10 digits) ≡ digits = decimal-digits_value own digits are length_some (λ zero. absurd (omega (arith, first.0))) fits in
    (is.1, rw (is.0, spelt, is.2) (sym cut), λ n rest is_one ends same. (only_number text n rest is_one ends same).1 ∙ sym is.2)

pub number_has_no_space : (n : ℕ) → is_number n ≡ true → HasNoSpace (decimal n)
number_has_no_space n is = no_space is_ascii_digit refl (decimal n) (decimal_are_digits n is)

pub value_of_number : (n : ℕ) → is_number n ≡ true → digits_value 10 (decimal n) ≡ n
value_of_number n is = digits_value-decimal own n (ltb-true _ _ is)
