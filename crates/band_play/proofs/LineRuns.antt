-- Lines that each stand for a call: their calls, text and outcome, and those of lines after them.
use Rattle.std.proofs.Common.{◌≡◌, ℕ, suc, ◌+◌, Bool, true, false, cond, nat_lt, List, [], ◌∷◌, ◌++◌, length, Option, Some, None, IsSome, refl, sym, ap, ◌∙◌, append_assoc, append-nil, length-append, arith}
use Rattle.std.specs.List.{AllByRecursion}
use Rattle.std.proofs.lemmas.Bool.{cond-true, cond-false, le-ltb, lt-ltb}
use Rattle.band_script.specs.declared.call.Call.{Call}
use Rattle.band_script.specs.Grammar.{call_of}
use Rattle.band_rules.specs.State.{State}
use Rattle.band_rules.specs.Step.{step}
use Rattle.band_rules.specs.Script.{Verdict, Good, Malformed, TooLong, verdict_on, lines_of, rest_of, calls_of, calls_from, transcript, transcript_from, state_from}
use Rattle.band_play.specs.Lines.{text_after}
use Rattle.band_play.proofs.LineCuts.{lines_of-append}

abbrev pub AreCalls : List (List ℕ) → Type 0
AreCalls lines = AllByRecursion (λ line. IsSome (call_of line)) lines

pub are_calls-append : (first second : List (List ℕ)) → AreCalls first → AreCalls second → AreCalls (first ++ second)
are_calls-append [] second each more = more
are_calls-append (line ∷ first) second each more = (each.0, are_calls-append first second each.1 more)

calls_from-append : (call : Option Call) (first second : List Call) → IsSome call → calls_from call (first ++ second) ≡ calls_from call first ++ second
calls_from-append None first second is = cc
calls_from-append (Some call) first second is = refl

pub calls_of-append : (first second : List (List ℕ)) → AreCalls first → calls_of (first ++ second) ≡ calls_of first ++ calls_of second
calls_of-append [] second each = refl
calls_of-append (line ∷ first) second each =
    ap (λ calls. calls_from (call_of line) calls) (calls_of-append first second each.1)
    ∙ calls_from-append (call_of line) (calls_of first) (calls_of second) each.0

pub state_from-append : (state : State) (first second : List Call) → state_from state (first ++ second) ≡ state_from (state_from state first) second
state_from-append state [] second = refl
state_from-append state (call ∷ first) second = state_from-append (step call state).state first second

pub transcript_from-append : (state : State) (first second : List Call) → transcript_from state (first ++ second) ≡ transcript_from state first ++ transcript_from (state_from state first) second
transcript_from-append state [] second = refl
transcript_from-append state (call ∷ first) second =
    ap (λ text. text_after call state ++ text) (transcript_from-append (step call state).state first second)
    ∙ sym (append_assoc (text_after call state) (transcript_from (step call state).state first) (transcript_from (state_from (step call state).state first) second))

pub length_calls : (lines : List (List ℕ)) → AreCalls lines → length (calls_of lines) ≡ length lines
length_calls [] each = refl
length_calls (line ∷ lines) each = go (call_of line) each.0 ∙ ap suc (length_calls lines each.1)
  where
    go : (call : Option Call) → IsSome call → length (calls_from call (calls_of lines)) ≡ suc (length (calls_of lines))
    go None is = cc
    go (Some call) is = refl

-- after so many lines: what was left
abbrev pub verdict_at_end : ℕ → List ℕ → Bool → Verdict
verdict_at_end done rest true = TooLong
verdict_at_end done [] false = Good done
verdict_at_end done (byte ∷ rest) false = Malformed (done + 1)

pub verdict_of_calls : (lines : List (List ℕ)) (rest : List ℕ) (over : Bool) → AreCalls lines → verdict_on lines rest over ≡ verdict_at_end (length lines) rest over
verdict_of_calls lines rest over each =
    ap (λ done. cond (nat_lt done (length lines)) (Malformed (done + 1)) (cond over TooLong (cond (nat_lt 0 (length rest)) (Malformed (done + 1)) (Good done)))) (length_calls lines each)
    ∙ cond-false (nat_lt (length lines) (length lines)) _ _ (le-ltb (length lines) (length lines) (omega arith)) ∙ go (length lines) rest over
  where
    go : (done : ℕ) (rest : List ℕ) (over : Bool) → cond over TooLong (cond (nat_lt 0 (length rest)) (Malformed (done + 1)) (Good done)) ≡ verdict_at_end done rest over
    go done rest true = refl
    go done [] false = refl
    go done (byte ∷ rest) false = cond-true (nat_lt 0 (length (byte ∷ rest))) _ _ (lt-ltb 0 (length (byte ∷ rest)) (omega arith))

-- where the next line stands for no call
no_call_at : (line : List ℕ) (later : List Call) → call_of line ≡ None → calls_from (call_of line) later ≡ []
no_call_at line later is = ap (λ call. calls_from call later) is

pub calls_until : (lines later : List (List ℕ)) (line : List ℕ) → AreCalls lines → call_of line ≡ None → calls_of (lines ++ line ∷ later) ≡ calls_of lines
calls_until lines later line each is =
    calls_of-append lines (line ∷ later) each ∙ ap (λ calls. calls_of lines ++ calls) (no_call_at line (calls_of later) is) ∙ append-nil (calls_of lines)

pub verdict_until : (lines later : List (List ℕ)) (line rest : List ℕ) (over : Bool) → AreCalls lines → call_of line ≡ None
    → verdict_on (lines ++ line ∷ later) rest over ≡ Malformed (length lines + 1)
verdict_until lines later line rest over each is =
    let until : length (calls_of (lines ++ line ∷ later)) ≡ length lines = ap length (calls_until lines later line each is) ∙ length_calls lines each in
    cond-true (nat_lt (length (calls_of (lines ++ line ∷ later))) (length (lines ++ line ∷ later))) _ _
    (lt-ltb (length (calls_of (lines ++ line ∷ later))) (length (lines ++ line ∷ later)) (omega (arith, until, length-append lines (line ∷ later))))
    ∙ ap (λ n. Malformed (n + 1)) until

-- where it stands for one
one_call : (line : List ℕ) (call : Call) → call_of line ≡ Some call → calls_of (line ∷ []) ≡ call ∷ []
one_call line call is = ap (λ found. calls_from found []) is

pub calls_with : (lines : List (List ℕ)) (line : List ℕ) (call : Call) → AreCalls lines → call_of line ≡ Some call → calls_of (lines ++ line ∷ []) ≡ calls_of lines ++ call ∷ []
calls_with lines line call each is = calls_of-append lines (line ∷ []) each ∙ ap (λ calls. calls_of lines ++ calls) (one_call line call is)

pub are_calls-with : (lines : List (List ℕ)) (line : List ℕ) (call : Call) → AreCalls lines → call_of line ≡ Some call → AreCalls (lines ++ line ∷ [])
are_calls-with lines line call each is = are_calls-append lines (line ∷ []) each (rw is refl, tt)

pub state_with : (calls : List Call) (call : Call) → state_from [] (calls ++ call ∷ []) ≡ (step call (state_from [] calls)).state
state_with calls call = state_from-append [] calls (call ∷ [])

pub transcript_with : (calls : List Call) (call : Call) → transcript (calls ++ call ∷ []) ≡ transcript calls ++ text_after call (state_from [] calls)
transcript_with calls call =
    transcript_from-append [] calls (call ∷ []) ∙ ap (λ text. transcript calls ++ text) (append-nil (text_after call (state_from [] calls)))

-- the transcript of bytes begins with that of their front
pub transcript_more : (given more : List ℕ) → AreCalls (lines_of given) → (later : List ℕ) × (transcript (calls_of (lines_of (given ++ more))) ≡ transcript (calls_of (lines_of given)) ++ later)
transcript_more given more each = (
  transcript_from (state_from [] (calls_of (lines_of given))) (calls_of (lines_of (rest_of given ++ more))),
  ap (λ lines. transcript (calls_of lines)) (lines_of-append given more)
      ∙ ap transcript (calls_of-append (lines_of given) (lines_of (rest_of given ++ more)) each)
      ∙ transcript_from-append [] (calls_of (lines_of given)) (calls_of (lines_of (rest_of given ++ more))),
)
