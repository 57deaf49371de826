-- A script: its lines, the calls that they stand for, its transcript, and the outcome of its bytes.
use Rattle.std.specs.Prelude.{ℕ, ◌+◌, Bool, ◌==◌, nat_lt, if◌then◌else◌, List, [], ◌∷◌, ◌++◌, length, take}
use Rattle.std.specs.Prelude.{Option, Some, None}
use Rattle.std.specs.List.{slice_split}
use Rattle.band_script.specs.declared.call.Call.{Call}
use Rattle.band_script.specs.Grammar.{call_of}
use Rattle.band_rules.specs.State.{State}
use Rattle.band_rules.specs.Step.{step}
use Rattle.band_rules.specs.Text.{effect_text}

-- the texts of calls from a state, joined
abbrev pub transcript_from : State → List Call → List ℕ
transcript_from state [] = []
transcript_from state (call ∷ calls) =
    let effect = step call state in
    effect_text effect.reply effect.woken ++ transcript_from effect.state calls

-- the texts of calls from the empty state
abbrev pub transcript : List Call → List ℕ
transcript calls = transcript_from [] calls

-- the state that calls from a state come to, and from the empty state
abbrev pub state_from : State → List Call → State
state_from state [] = state
state_from state (call ∷ calls) = state_from (step call state).state calls

abbrev pub state_after : List Call → State
state_after calls = state_from [] calls

-- the parts that a newline ended, and the part after the last newline
abbrev pub ended_parts : List (List ℕ) → List (List ℕ)
ended_parts [] = []
ended_parts (part ∷ []) = []
ended_parts (part ∷ next ∷ parts) = part ∷ ended_parts (next ∷ parts)

abbrev pub last_part : List (List ℕ) → List ℕ
last_part [] = []
last_part (part ∷ []) = part
last_part (part ∷ next ∷ parts) = last_part (next ∷ parts)

-- the ended lines of bytes, and what stands after the last newline
abbrev pub lines_of : List ℕ → List (List ℕ)
lines_of bytes = ended_parts (slice_split (λ byte. byte == 10) bytes)

abbrev pub rest_of : List ℕ → List ℕ
rest_of bytes = last_part (slice_split (λ byte. byte == 10) bytes)

-- the calls of lines, up to the first line that stands for none
abbrev pub calls_from : Option Call → List Call → List Call
calls_from None calls = []
calls_from (Some call) calls = call ∷ calls

abbrev pub calls_of : List (List ℕ) → List Call
calls_of [] = []
calls_of (line ∷ lines) = calls_from (call_of line) (calls_of lines)

-- the calls of the lines that are ended within `limit`, up to the first line that stands for none
abbrev pub calls_within : ℕ → List ℕ → List Call
calls_within limit bytes = calls_of (lines_of (take limit bytes))

-- the outcome of bytes: so many lines, or the number of a line that stands for no call, from 1, or more bytes
-- than the limit
pub data Verdict : Type 0 where
  Good : (lines : ℕ) → Verdict
  Malformed : (line : ℕ) → Verdict
  TooLong : Verdict

-- In this order: the first ended line that stands for no call; else more bytes than the limit; else a rest;
-- else so many lines.
abbrev pub verdict_on : List (List ℕ) → List ℕ → Bool → Verdict
verdict_on lines rest over =
    let done = length (calls_of lines) in
    if nat_lt done (length lines) then Malformed (done + 1) else
    if over then TooLong else
    if nat_lt 0 (length rest) then Malformed (done + 1) else
    Good done

-- the outcome of bytes under a limit
abbrev pub verdict : ℕ → List ℕ → Verdict
verdict limit bytes =
    let within = take limit bytes in
    verdict_on (lines_of within) (rest_of within) (nat_lt limit (length bytes))
