-- The script of `bulk N`, and the summary of a script.
use Rattle.std.specs.Prelude.{◌≡◌, ℕ, ◌+◌, ◌*◌, ◌%◌, ◌≤◌, nat_eq, Bool, not, ◌==◌, List, [], ◌∷◌, ◌++◌, length}
use Rattle.std.specs.Prelude.{codes, map, filter, flat_map, count_by, decimal}
use Rattle.std.specs.List.{range_with_len, starts_with}
use Rattle.band_script.specs.declared.call.Call.{Call}
use Rattle.band_script.specs.declared.call.Call.TheVariants.{Sem, Ask, Poll, Drop, Release}
use Rattle.band_script.specs.Grammar.{line_of}
use Rattle.band_rules.specs.Script.{lines_of, transcript}

-- the most requests that a bulk script makes, and how many one may make
abbrev pub most_requests : ℕ
most_requests = 200000

abbrev pub IsBulk : ℕ → Type 0
IsBulk n = (1 ≤ n) × (n ≤ most_requests)

-- the script of calls: the line of each, ended
abbrev pub ended_line : Call → List ℕ
ended_line call = line_of call ++ 10 ∷ []

abbrev pub script_of : List Call → List ℕ
script_of calls = flat_map ended_line calls

-- the request of a number, and the calls on it
abbrev pub request : ℕ → List ℕ
request i = codes "r" ++ decimal i

abbrev pub ask_for : ℕ → Call
ask_for i = Ask (request i) (codes "s") (1 + i % 3) i

abbrev pub drop_of : ℕ → Call
drop_of i = Drop (request i)

abbrev pub poll_of : ℕ → Call
poll_of i = Poll (request i) 0

-- each fifth request gives up
abbrev pub gives_up : ℕ → Bool
gives_up i = i % 5 == 0

abbrev pub stays : ℕ → Bool
stays i = not (gives_up i)

-- of the requests of these numbers: how all ask, how each fifth gives up, and how the others are polled again
abbrev pub asks : List ℕ → List Call
asks numbers = map ask_for numbers

abbrev pub drops : List ℕ → List Call
drops numbers = map drop_of (filter gives_up numbers)

abbrev pub polls : List ℕ → List Call
polls numbers = map poll_of (filter stays numbers)

-- the numbers of n requests
abbrev pub numbers_to : ℕ → List ℕ
numbers_to n = range_with_len 1 n

-- n requests wait on a semaphore without a permit, each fifth gives up, and then there is enough for the others
abbrev pub bulk_calls : ℕ → List Call
bulk_calls n =
    Sem (codes "s") 0 ∷ asks (numbers_to n) ++ drops (numbers_to n)
    ++ Release (codes "s") (2 * n) ∷ polls (numbers_to n)

abbrev pub bulk_script : ℕ → List ℕ
bulk_script n = script_of (bulk_calls n)

-- does a line of a transcript tell that a waker is woken?
abbrev pub is_wake : List ℕ → Bool
is_wake line = starts_with nat_eq line (codes "wake ")

abbrev pub wakes_in : List ℕ → ℕ
wakes_in text = count_by is_wake (lines_of text)

-- the summary of a script: its lines, and the bytes and the wakes of its transcript
abbrev pub summary_text : ℕ → ℕ → ℕ → List ℕ
summary_text lines bytes wakes =
    codes "lines " ++ decimal lines ++ codes " bytes " ++ decimal bytes ++ codes " wakes " ++ decimal wakes
    ++ 10 ∷ []

abbrev pub summary_of : List Call → List ℕ
summary_of calls =
    summary_text (length calls) (length (transcript calls)) (wakes_in (transcript calls))
