-- The script of a bulk: each of its lines stands for its call, and it ends within the limit.
use Rattle.std.proofs.Common.{◌≡◌, ℕ, zero, suc, ◌+◌, ◌*◌, ◌%◌, ◌^◌, ◌<◌, ◌≤◌, Bool, true, false, cond, not, nat_lt, List, [], ◌∷◌, ◌++◌, length, take, map, Some, refl, sym, ap, ◌∙◌, subst}
use Rattle.std.proofs.Common.{append_assoc, length-append, lit<, lit≤, arith, rules}
use Rattle.std.specs.Prelude.{codes, decimal, filter, flat_map, IsTrue}
use Rattle.std.specs.Char.{is_ascii_digit}
use Rattle.std.specs.List.{AllByRecursion, list_all, range_with_len, join_with_byte}
use Rattle.std.specs.Str.Parse.{digits_value}
use Rattle.std.proofs.lemmas.Bool.{and_parts, and_from, le-leb, lt-ltb, leb-true, le-ltb, cond-true, cond-false}
use Rattle.std.proofs.lemmas.Bool.Decides.{nat_tests}
use Rattle.std.proofs.lemmas.Fmt.{digits_decimal, length-decimal-le, decimal_nonempty}
use Rattle.std.proofs.lemmas.List.{take_all, length-map}
use Rattle.std.proofs.lemmas.List.Elements.{All-nil, All-cons}
use Rattle.std.proofs.lemmas.List.Folds.{list_all-append}
use Rattle.std.proofs.lemmas.List.FromFn.{length-range_with_len}
use Rattle.std.proofs.lemmas.Str.Parse.{IsNumeralModel, IsDigitsTest, numerals_by_value}
use Rattle.band_script.specs.declared.call.Call.{Call}
use Rattle.band_script.specs.declared.call.Call.TheVariants.{Sem, Release}
use Rattle.band_script.specs.Call.{IsCall}
use Rattle.band_script.specs.Grammar.{call_of, line_of}
use Rattle.band_script.specs.Name.{is_name_byte, is_name}
use Rattle.band_script.specs.Number.{is_number}
use Rattle.band_script.proofs.Decoding.{call_of_line}
use Rattle.band_rules.specs.Script.{Good, Malformed, verdict, verdict_on, lines_of, rest_of, calls_of, calls_from, calls_within}
use Rattle.band_play.specs.Bulk.{IsBulk, most_requests, script_of, ended_line, request, ask_for, drop_of, poll_of, gives_up, stays, asks, drops, polls, numbers_to, bulk_calls, bulk_script}
use Rattle.band_play.specs.Lines.{HasNoNewline, is_newline}
use Rattle.band_play.proofs.LineCuts.{lines_of-line, rest_of-line}
use Rattle.band_balance.proofs.Held.{by_bool}

are_digits_test : IsDigitsTest (λ word. list_all is_ascii_digit word ≡ true)
are_digits_test = search rules

own : IsNumeralModel (λ word. list_all is_ascii_digit word ≡ true) (digits_value 10)
own = numerals_by_value _ are_digits_test

-- what passes a test passes a weaker one
all_weaker : (p q : ℕ → Bool) → ((byte : ℕ) → p byte ≡ true → q byte ≡ true) → (bytes : List ℕ) → list_all p bytes ≡ true → list_all q bytes ≡ true
all_weaker p q weaker [] are = refl
all_weaker p q weaker (byte ∷ bytes) are =
    let parts = and_parts _ _ are in
    and_from _ _ (weaker byte parts.0) (all_weaker p q weaker bytes parts.1)

abbrev is_free : ℕ → Bool
is_free byte = not (is_newline byte)

digit_is_named : (byte : ℕ) → is_ascii_digit byte ≡ true → is_name_byte byte ≡ true
digit_is_named byte is = grind (arith, nat_tests)

digit_is_free : (byte : ℕ) → is_ascii_digit byte ≡ true → is_free byte ≡ true
digit_is_free byte is = grind (arith, nat_tests)

free_is : (byte : ℕ) → is_free byte ≡ true → is_newline byte ≡ false
free_is byte is = grind (arith, nat_tests)

no_newline : (bytes : List ℕ) → list_all is_free bytes ≡ true → HasNoNewline bytes
no_newline [] are = All-nil (λ b. is_newline b ≡ false)
no_newline (byte ∷ bytes) are =
    let parts = and_parts _ _ are in
    All-cons (λ b. is_newline b ≡ false) byte bytes (free_is byte parts.0) (no_newline bytes parts.1)

all_both : (p : ℕ → Bool) (first second : List ℕ) → list_all p first ≡ true → list_all p second ≡ true → list_all p (first ++ second) ≡ true
all_both p first second a b = list_all-append p first second ∙ and_from _ _ a b

-- what is so of a number of at most six digits
record IsSmall (n : ℕ) : Type 0 where
  digits : list_all is_ascii_digit (decimal n) ≡ true
  short : length (decimal n) ≤ 6
  number : is_number n ≡ true
  free : list_all is_free (decimal n) ≡ true

small : (n : ℕ) → n < 10 ^ 6 → IsSmall n
small n low =
    let fits : n < 2 ^ 64 = omega arith in
    let are = digits_decimal own n fits in
    record {
      digits = are;
      short = length-decimal-le 6 n (lit< tt) low fits;
      number = lt-ltb n (2 ^ 64) fits;
      free = all_weaker is_ascii_digit is_free digit_is_free (decimal n) are;
    }

named : (n : ℕ) → IsSmall n → is_name (request n) ≡ true
named n is = and_from _ _ (and_from _ _ (le-leb 1 (length (request n)) (omega arith)) (le-leb (length (request n)) 32 (omega (arith, is.short))))
    (all_weaker is_ascii_digit is_name_byte digit_is_named (decimal n) is.digits)

-- a call whose line is short, and one line
record IsPlain (call : Call) : Type 0 where
  is_call : IsCall call
  free : HasNoNewline (line_of call)
  short : length (line_of call) ≤ 23

-- words without a newline make a line without one
joined : (words : List (List ℕ)) → AllByRecursion (λ word. list_all is_free word ≡ true) words → list_all is_free (join_with_byte 32 words) ≡ true
joined [] are = refl
joined (word ∷ []) are = are.0
joined (word ∷ next ∷ words) are = all_both is_free word (32 ∷ join_with_byte 32 (next ∷ words)) are.0 (joined (next ∷ words) are.1)

plain_ask : (i : ℕ) → i ≤ most_requests → IsPlain (ask_for i)
plain_ask i low =
    let is = small i (omega arith) in
    let k : 1 + i % 3 < 10 ^ 6 = omega arith in
    let size = small (1 + i % 3) k in
    let one = length-decimal-le 1 (1 + i % 3) (lit< tt) (omega arith) (omega arith) in
    record {
      is_call = rw (named i is, size.number, is.number) refl;
      free = no_newline (line_of (ask_for i)) (joined (codes "ask" ∷ request i ∷ codes "s" ∷ decimal (1 + i % 3) ∷ decimal i ∷ []) (refl, (is.free, (refl, (size.free, (is.free, tt))))));
      short = omega (arith, length-append (decimal i) (32 ∷ 115 ∷ 32 ∷ (decimal (1 + i % 3) ++ 32 ∷ decimal i)), length-append (decimal (1 + i % 3)) (32 ∷ decimal i), is.short, one);
    }

plain_drop : (i : ℕ) → i ≤ most_requests → IsPlain (drop_of i)
plain_drop i low =
    let is = small i (omega arith) in
    record {
      is_call = rw (named i is) refl;
      free = no_newline (line_of (drop_of i)) (joined (codes "drop" ∷ request i ∷ []) (refl, (is.free, tt)));
      short = omega (arith, is.short);
    }

plain_poll : (i : ℕ) → i ≤ most_requests → IsPlain (poll_of i)
plain_poll i low =
    let is = small i (omega arith) in
    let zero_is = small 0 (lit< tt) in
    record {
      is_call = rw (named i is) refl;
      free = no_newline (line_of (poll_of i)) (joined (codes "poll" ∷ request i ∷ decimal 0 ∷ []) (refl, (is.free, (zero_is.free, tt))));
      short = omega (arith, length-append (decimal i) (32 ∷ decimal 0), is.short, zero_is.short);
    }

plain_sem : IsPlain (Sem (codes "s") 0)
plain_sem =
    let zero_is = small 0 (lit< tt) in
    record {
      is_call = refl;
      free = no_newline (line_of (Sem (codes "s") 0)) (joined (codes "sem" ∷ codes "s" ∷ decimal 0 ∷ []) (refl, (refl, (zero_is.free, tt))));
      short = omega (arith, zero_is.short);
    }

plain_release : (n : ℕ) → n ≤ most_requests → IsPlain (Release (codes "s") (2 * n))
plain_release n low =
    let is = small (2 * n) (omega arith) in
    record {
      is_call = rw is.number refl;
      free = no_newline (line_of (Release (codes "s") (2 * n))) (joined (codes "release" ∷ codes "s" ∷ decimal (2 * n) ∷ []) (refl, (refl, (is.free, tt))));
      short = omega (arith, is.short);
    }

abbrev ArePlain : List Call → Type 0
ArePlain calls = AllByRecursion IsPlain calls

plain_both : (first second : List Call) → ArePlain first → ArePlain second → ArePlain (first ++ second)
plain_both [] second a b = b
plain_both (call ∷ first) second a b = (a.0, plain_both first second a.1 b)

-- of the numbers that pass a test, up to the most
plain_each : (f : ℕ → Call) → ((i : ℕ) → i ≤ most_requests → IsPlain (f i)) → (a n : ℕ) → a + n ≤ most_requests + 1 → ArePlain (map f (range_with_len a n))
plain_each f is a zero low = tt
plain_each f is a (suc n) low = (is a (omega arith), plain_each f is (a + 1) n (omega arith))

plain_some : (f : ℕ → Call) (p : ℕ → Bool) → ((i : ℕ) → i ≤ most_requests → IsPlain (f i)) → (a n : ℕ) → a + n ≤ most_requests + 1
    → ArePlain (map f (filter p (range_with_len a n)))
plain_some f p is a zero low = tt
plain_some f p is a (suc n) low =
    let more = plain_some f p is (a + 1) n (omega arith) in
    let P : List ℕ → Type 0 = λ kept. ArePlain (map f kept) in
    let kept = filter p (range_with_len (a + 1) n) in
    by_bool (p a)
    (λ yes'. subst P (sym (cond-true (p a) (a ∷ kept) kept yes')) (is a (omega arith), more))
    (λ no'. subst P (sym (cond-false (p a) (a ∷ kept) kept no')) more)

plain_bulk : (n : ℕ) → n ≤ most_requests → ArePlain (bulk_calls n)
plain_bulk n low =
    let in_range : 1 + n ≤ most_requests + 1 = omega arith in
    let begin = Sem (codes "s") 0 ∷ asks (numbers_to n) in
    plain_both (begin ++ drops (numbers_to n)) (Release (codes "s") (2 * n) ∷ polls (numbers_to n))
    (plain_both begin (drops (numbers_to n)) (plain_sem, plain_each ask_for plain_ask 1 n in_range) (plain_some drop_of gives_up plain_drop 1 n in_range))
    (plain_release n low, plain_some poll_of stays plain_poll 1 n in_range)

-- the lines and the rest of the script of such calls
abbrev lines_for : List Call → List (List ℕ)
lines_for calls = map line_of calls

next_line : (call : Call) (text : List ℕ) → ended_line call ++ text ≡ line_of call ++ 10 ∷ text
next_line call text = append_assoc (line_of call) (10 ∷ []) text

lines_of_script : (calls : List Call) → ArePlain calls → lines_of (script_of calls) ≡ lines_for calls
lines_of_script [] are = refl
lines_of_script (call ∷ calls) are =
    ap lines_of (next_line call (script_of calls)) ∙ lines_of-line (line_of call) (script_of calls) are.0.free ∙ ap (λ lines. line_of call ∷ lines) (lines_of_script calls are.1)

rest_of_script : (calls : List Call) → ArePlain calls → rest_of (script_of calls) ≡ []
rest_of_script [] are = refl
rest_of_script (call ∷ calls) are =
    ap rest_of (next_line call (script_of calls)) ∙ rest_of-line (line_of call) (script_of calls) are.0.free ∙ rest_of_script calls are.1

calls_of_lines : (calls : List Call) → ArePlain calls → calls_of (lines_for calls) ≡ calls
calls_of_lines [] are = refl
calls_of_lines (call ∷ calls) are =
    ap (λ found. calls_from found (calls_of (lines_for calls))) ((call_of_line (line_of call) call).1 (are.0.is_call, refl))
    ∙ ap (λ more. call ∷ more) (calls_of_lines calls are.1)

script_length : (calls : List Call) → ArePlain calls → length (script_of calls) ≤ 24 * length calls
script_length [] are = lit≤ tt
script_length (call ∷ calls) are =
    omega (arith, length-append (ended_line call) (script_of calls), length-append (line_of call) (10 ∷ []), are.0.short, script_length calls are.1)

filter_length : (p : ℕ → Bool) (xs : List ℕ) → length (filter p xs) ≤ length xs
filter_length p [] = lit≤ tt
filter_length p (x ∷ xs) =
    let more = filter_length p xs in
    let P : List ℕ → Type 0 = λ kept. length kept ≤ suc (length xs) in
    by_bool (p x) (λ yes'. subst P (sym (cond-true (p x) (x ∷ filter p xs) (filter p xs) yes')) (omega (arith, more)))
    (λ no'. subst P (sym (cond-false (p x) (x ∷ filter p xs) (filter p xs) no')) (omega (arith, more)))

bulk_length : (n : ℕ) → length (bulk_calls n) ≤ 2 * n + (n + 2)
bulk_length n =
    let begin = Sem (codes "s") 0 ∷ asks (numbers_to n) in
    let rest = Release (codes "s") (2 * n) ∷ polls (numbers_to n) in
    omega (
      arith,
      length-append (begin ++ drops (numbers_to n)) rest,
      length-append begin (drops (numbers_to n)),
      length-map (numbers_to n) ask_for,
      length-map (filter gives_up (numbers_to n)) drop_of,
      length-map (filter stays (numbers_to n)) poll_of,
      filter_length gives_up (numbers_to n),
      filter_length stays (numbers_to n),
      length-range_with_len 1 n,
    )

-- the script ends within the limit of the program
pub script_within : (n : ℕ) → n ≤ most_requests → length (bulk_script n) ≤ 16777216
script_within n low = omega (arith, script_length (bulk_calls n) (plain_bulk n low), bulk_length n)

-- how many lines it has
pub script_lines : (n : ℕ) → n ≤ most_requests → length (lines_of (bulk_script n)) ≡ length (bulk_calls n)
script_lines n low = ap length (lines_of_script (bulk_calls n) (plain_bulk n low)) ∙ length-map (bulk_calls n) line_of

-- the calls of its lines are those that it was made of
pub calls_of_bulk : (n : ℕ) → n ≤ most_requests → calls_within 16777216 (bulk_script n) ≡ bulk_calls n
calls_of_bulk n low =
    let plain = plain_bulk n low in
    ap (λ within. calls_of (lines_of within)) (take_all 16777216 (bulk_script n) (script_within n low))
    ∙ ap calls_of (lines_of_script (bulk_calls n) plain) ∙ calls_of_lines (bulk_calls n) plain

pub verdict_of_bulk : (n : ℕ) → n ≤ most_requests → verdict 16777216 (bulk_script n) ≡ Good (length (bulk_calls n))
verdict_of_bulk n low =
    let plain = plain_bulk n low in
    let size = length (bulk_script n) in
    let over : nat_lt 16777216 size ≡ false = le-ltb 16777216 size (script_within n low) in
    ap (λ within. verdict_on (lines_of within) (rest_of within) (nat_lt 16777216 size)) (take_all 16777216 (bulk_script n) (script_within n low))
    ∙ ap (λ lines. verdict_on lines (rest_of (bulk_script n)) (nat_lt 16777216 size)) (lines_of_script (bulk_calls n) plain)
    ∙ ap (λ rest. verdict_on (lines_for (bulk_calls n)) rest (nat_lt 16777216 size)) (rest_of_script (bulk_calls n) plain)
    ∙ ap (λ over. verdict_on (lines_for (bulk_calls n)) [] over) over
    ∙ good (bulk_calls n) (calls_of (lines_for (bulk_calls n))) (calls_of_lines (bulk_calls n) plain)
  where
    good : (calls found : List Call) → found ≡ calls
        → cond (nat_lt (length found) (length (lines_for calls))) (Malformed (length found + 1)) (Good (length found)) ≡ Good (length calls)
    good calls found same =
        ap (λ (found : List Call). cond (nat_lt (length found) (length (lines_for calls))) (Malformed (length found + 1)) (Good (length found))) same
        ∙ cond-false (nat_lt (length calls) (length (lines_for calls))) _ _ (le-ltb (length calls) (length (lines_for calls)) (omega (arith, length-map calls line_of)))
