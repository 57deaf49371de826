-- The decoder against the grammar.
use Rattle.std.proofs.Common.{◌≡◌, ℕ, Bool, true, false, cond, List, [], ◌∷◌, Option, Some, None, refl, sym, ap, ap₂, ◌∙◌, subst}
use Rattle.std.specs.Prelude.{find, ◌↔◌}
use Rattle.std.specs.Fmt.{decimal}
use Rattle.std.specs.List.{list_all}
use Rattle.std.specs.Str.Parse.{digits_value}
use Rattle.std.proofs.lemmas.Bool.{and_from, and_parts}
use Rattle.std.proofs.lemmas.Option.{same_Some}
use Rattle.std.proofs.lemmas.Slice.Eq.{bytes_eq-Decides}
use Rattle.band_script.specs.declared.call.Call.{Call}
use Rattle.band_script.specs.declared.call.Call.TheVariants.{Sem, Rw, Ask, Lock, Read, Write, Poll, Try, Release, Reduce, Drain, Split}
use Rattle.band_script.specs.Call.{IsCall, spelling}
use Rattle.band_script.specs.Grammar.{IsLine, call_of, is_line, line_of, readings, words_of}
use Rattle.band_script.specs.Inner.Reading.{Decodes}
use Rattle.band_script.specs.Number.{is_number}
use Rattle.band_script.proofs.GrammarLemmas.{line_words, operands_are}
use Rattle.band_script.proofs.NumberLemmas.{value_of_number}

-- what is found passes the test
find_passes : {X : Type 0} (p : X → Bool) (xs : List X) (x : X) → find p xs ≡ Some x → p x ≡ true
find_passes p [] x found = cc
find_passes p (first ∷ xs) x found = by_test (p first) refl found (find_passes p xs x)
  where
    by_test : (pass : Bool) → p first ≡ pass → cond pass (Some first) (find p xs) ≡ Some x → (find p xs ≡ Some x → p x ≡ true) → p x ≡ true
    by_test true passes one rest = subst (λ y. p y ≡ true) (same_Some first x one) passes
    by_test false fails other rest = rest other

-- a call is the first that is found, where that is the call
chosen : (call first : Call) (others : Option Call) → first ≡ call → IsCall call → cond (is_line (line_of call) first) (Some first) others ≡ Some call
chosen call first others same is =
    let line = line_of call in
    let own : is_line line call ≡ true = and_from _ _ ((bytes_eq-Decides line line).1 refl) is in
    rw (same, own) refl

-- so where its last number is read back
numbered : (make : ℕ → Call) (n : ℕ) (others : Option Call) → IsCall (make n) → list_all is_number (n ∷ []) ≡ true
    → let read = make (digits_value 10 (decimal n)) in cond (is_line (line_of (make n)) read) (Some read) others ≡ Some (make n)
numbered make n others is fits = chosen (make n) _ others (ap make (value_of_number n (and_parts _ _ fits).0)) is

own_reading : (call : Call) → IsCall call → find (is_line (line_of call)) (readings (spelling call)) ≡ Some call
own_reading (Sem made n) is = numbered (Sem made) n _ is (operands_are (Sem made n) is).1
own_reading (Poll name waker) is = numbered (Poll name) waker _ is (operands_are (Poll name waker) is).1
own_reading (Release of n) is = numbered (Release of) n _ is (operands_are (Release of n) is).1
own_reading (Reduce of n) is = numbered (Reduce of) n _ is (operands_are (Reduce of n) is).1
own_reading (Drain of n) is = numbered (Drain of) n _ is (operands_are (Drain of n) is).1
own_reading (Lock made of waker) is = numbered (Lock made of) waker _ is (operands_are (Lock made of waker) is).1
own_reading (Read made of waker) is = numbered (Read made of) waker _ is (operands_are (Read made of waker) is).1
own_reading (Write made of waker) is = numbered (Write made of) waker _ is (operands_are (Write made of waker) is).1
own_reading (Try made of n) is = numbered (Try made of) n _ is (operands_are (Try made of n) is).1
own_reading (Split name made n) is = numbered (Split name made) n _ is (operands_are (Split name made n) is).1
own_reading (Rw made None) is = chosen (Rw made None) _ _ refl is
own_reading (Rw made (Some n)) is = numbered (λ m. Rw made (Some m)) n _ is (operands_are (Rw made (Some n)) is).1
own_reading (Ask made of n waker) is =
    let fits = (operands_are (Ask made of n waker) is).1 in
    let first = value_of_number n (and_parts _ _ fits).0 in
    let second = value_of_number waker (and_parts _ _ (and_parts _ _ fits).1).0 in
    chosen (Ask made of n waker) _ _ (ap₂ (Ask made of) first second) is
own_reading call is = chosen call _ _ refl is

is_line_of : (line : List ℕ) (call : Call) → is_line line call ≡ true → IsLine line call
is_line_of line call passes =
    let parts = and_parts _ _ passes in
    (parts.1, (bytes_eq-Decides _ _).0 parts.0)

-- the decoder reads a line as a call just where it stands for the call
pub call_of_line : (line : List ℕ) (call : Call) → (call_of line ≡ Some call) ↔ IsLine line call
unfolding call_of
call_of_line line call = (
  λ found. is_line_of line call (find_passes (is_line line) (readings (words_of line)) call found),
  λ is. ap (λ words. find (is_line line) (readings words)) (line_words line call is) ∙ ap (λ l. find (is_line l) (readings (spelling call))) is.1 ∙ own_reading call is.0,
)

pub one_call_of_line : (line : List ℕ) (a b : Call) → IsLine line a → IsLine line b → a ≡ b
one_call_of_line line a b a_is b_is = same_Some a b (sym ((call_of_line line a).1 a_is) ∙ (call_of_line line b).1 b_is)

-- so what is decoded otherwise is decoded so
pub decoded : (line : List ℕ) (read : Option Call) → Decodes line read → read ≡ call_of line
decoded line None none = by_call (call_of line) refl
  where
    by_call : (call : Option Call) → call_of line ≡ call → None ≡ call
    by_call None is = refl
    by_call (Some call) is = absurd (none call ((call_of_line line call).0 is))
decoded line (Some call) is = sym ((call_of_line line call).1 is)

pub decoded_as : (line begun : List ℕ) (read : Option Call) → line ≡ begun → Decodes begun read → read ≡ call_of line
decoded_as line begun read same is = decoded begun read is ∙ ap call_of (sym same)
