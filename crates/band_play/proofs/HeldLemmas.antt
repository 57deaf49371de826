-- What is kept of a line tells its call.
use Rattle.std.proofs.Common.{◌≡◌, ℕ, ◌+◌, ◌-◌, ◌<◌, ◌≤◌, Bool, true, false, nat_lt, min, List, [], ◌∷◌, ◌++◌, length, take, Option, Some, None, Result, Ok, Err, OnOk, refl, sym, ap, ◌∙◌, append-nil, length-take, arith}
use Rattle.std.proofs.lemmas.Bool.{ltb-true, ltb-false}
use Rattle.std.proofs.lemmas.List.{take_all, take-append-le}
use Rattle.std.proofs.Math.Seq.{take-append-add}
use Rattle.band_script.specs.declared.call.Call.{Call}
use Rattle.band_script.specs.Grammar.{call_of}
use Rattle.band_script.proofs.Decoding.{call_of_line}
use Rattle.band_script.proofs.Lengths.{line_length}

-- what is within a limit begins with what of the front is
pub take_through : (limit : ℕ) (bytes more : List ℕ) → take limit (bytes ++ more) ≡ take limit bytes ++ take (limit - length bytes) more
take_through limit bytes more = by_test (nat_lt (length bytes) limit) refl
  where
    by_test : (past : Bool) → nat_lt (length bytes) limit ≡ past → take limit (bytes ++ more) ≡ take limit bytes ++ take (limit - length bytes) more
    by_test false e =
        let within : limit ≤ length bytes = ltb-false (length bytes) limit e in
        let none : limit - length bytes ≡ 0 = omega arith in
        take-append-le limit bytes more within ∙ sym (append-nil (take limit bytes)) ∙ ap (λ n. take limit bytes ++ take n more) (sym none)
    by_test true e =
        let past : length bytes < limit = ltb-true (length bytes) limit e in
        let size : length bytes ≤ limit = omega arith in
        let is : limit ≡ length bytes + (limit - length bytes) = omega arith in
        ap (λ n. take n (bytes ++ more)) is ∙ take-append-add bytes more (limit - length bytes) ∙ ap (λ b. b ++ take (limit - length bytes) more) (sym (take_all limit bytes size))

-- what is dropped twice is dropped once
pub take_again : (limit : ℕ) (start more : List ℕ) → take limit (take limit start ++ more) ≡ take limit (start ++ more)
take_again limit start more = by_test (nat_lt limit (length start)) refl
  where
    by_test : (past : Bool) → nat_lt limit (length start) ≡ past → take limit (take limit start ++ more) ≡ take limit (start ++ more)
    by_test false e =
        let within : length start ≤ limit = ltb-false limit (length start) e in
        ap (λ s. take limit (s ++ more)) (take_all limit start within)
    by_test true e =
        let past : limit < length start = ltb-true limit (length start) e in
        let size : limit ≤ length start = omega arith in
        let full : length (take limit start) ≡ limit = omega (arith, length-take limit start) in
        let enough : limit ≤ length (take limit start) = omega arith in
        take-append-le limit (take limit start) more enough
        ∙ take_all limit (take limit start) (omega arith)
        ∙ sym (take-append-le limit start more size)

nothing_taken : (start : List ℕ) → [] ≡ take 112 start → start ≡ []
nothing_taken [] e = refl
nothing_taken (byte ∷ start) e = cc

no_call_past : (line : List ℕ) → 111 < length line → call_of line ≡ None
no_call_past line past = by_call (call_of line) refl
  where
    by_call : (call : Option Call) → call ≡ call_of line → call_of line ≡ None
    by_call None e = sym e
    by_call (Some call) e =
        let short = line_length line call ((call_of_line line call).0 (sym e)) in
        absurd (omega (arith, short))

-- what is past the longest line is not needed to tell that there is no call
pub call_of-kept : (line : List ℕ) → call_of (take 112 line) ≡ call_of line
call_of-kept line = by_test (nat_lt 112 (length line)) refl
  where
    by_test : (past : Bool) → nat_lt 112 (length line) ≡ past → call_of (take 112 line) ≡ call_of line
    by_test false e =
        let within : length line ≤ 112 = ltb-false 112 (length line) e in
        ap call_of (take_all 112 line within)
    by_test true e =
        let past : 112 < length line = ltb-true 112 (length line) e in
        no_call_past (take 112 line) (omega (arith, length-take 112 line)) ∙ sym (no_call_past line (omega arith))

pub pushed : (old new more : List ℕ) (room count : ℕ) → room + length old ≡ 112 → count ≡ min room (length more) → new ≡ old ++ take count more → new ≡ take 112 (old ++ more)
pushed old new more room count size is e =
    let fits : length old ≤ 112 = omega arith in
    let left : 112 - length old ≡ room = omega arith in
    e ∙ ap (λ b. old ++ b) (taken room more count is)
    ∙ sym (take_through 112 old more ∙ ap (λ b. b ++ take (112 - length old) more) (take_all 112 old fits) ∙ ap (λ n. old ++ take n more) left)
  where
    taken : (room : ℕ) (more : List ℕ) (count : ℕ) → count ≡ min room (length more) → take count more ≡ take room more
    taken room more count is = by_test (nat_lt room (length more)) refl
      where
        by_test : (fewer : Bool) → nat_lt room (length more) ≡ fewer → take count more ≡ take room more
        by_test false e =
            let within : length more ≤ room = ltb-false room (length more) e in
            take_all count more (omega arith) ∙ sym (take_all room more within)
        by_test true e =
            let past : room < length more = ltb-true room (length more) e in
            let same : count ≡ room = omega arith in
            ap (λ n. take n more) same

pub call_of_empty : (held start end : List ℕ) (call : Option Call) → held ≡ [] → call ≡ call_of end → held ≡ take 112 start → call ≡ call_of (start ++ end)
call_of_empty held start end call empty is e =
    is ∙ ap (λ s. call_of (s ++ end)) (sym (nothing_taken start (sym empty ∙ e)))

pub call_of_held : (held start end : List ℕ) (call : Option Call) → call ≡ call_of (take 112 (held ++ end)) → held ≡ take 112 start → call ≡ call_of (start ++ end)
call_of_held held start end call is e =
    is ∙ ap (λ h. call_of (take 112 (h ++ end))) e ∙ ap call_of (take_again 112 start end) ∙ call_of-kept (start ++ end)

pub at_ok : {A E P : Type 0} (r : Result A E) (x : A) → r ≡ Ok x → OnOk r P → P
at_ok (Ok y) x is p = p
at_ok (Err e) x is p = cc
