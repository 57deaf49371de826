-- What playing a script promises.
use Rattle.std.specs.Prelude.{◌≡◌, ◌≢◌, ℕ, ◌+◌, ◌≤◌, ◌⊎◌, List, [], ◌∷◌, ◌++◌, length, codes, decimal, Option, Some}
use Rattle.std.specs.Prelude.{None, IsSome, Result, Ok, Err}
use Rattle.std.specs.List.{AllByRecursion}
use Rattle.std.specs.Io.KnownBytes.{Appends, IsAtEnd}
use Rattle.band_base.specs.Device.{AppendsPrefix, Rose}
use Rattle.band_play.specs.Bulk.{IsBulk, bulk_calls, summary_of}
use Rattle.band_play.specs.Text.{fault_text, usage_text}
use Rattle.band_play.specs.declared.fault.PlayFault.{PlayFault}
use Rattle.band_play.specs.declared.fault.PlayFault.TheVariants as faults
use Rattle.band_script.specs.declared.call.Call.{Call}
use Rattle.band_script.specs.Grammar.{call_of}
use Rattle.band_rules.specs.Script.{Verdict, Good, Malformed, TooLong, verdict, lines_of, calls_of}
use Rattle.band_rules.specs.Script.{calls_within, transcript}

-- a source or a sink, before and after: the bytes that it tells, which it has left or which were written, and
-- its count of faults
pub record End : Type 0 where
  pub before : Option (List ℕ)
  pub after : Option (List ℕ)
  pub faults : ℕ
  pub faults_now : ℕ

-- from how its bytes and its faults are told
abbrev pub end_of : {D : Type 0} → (D → Option (List ℕ)) → (D → ℕ) → D → D → End
end_of bytes faults old new = record {
  before = bytes old;
  after = bytes new;
  faults = faults old;
  faults_now = faults new;
}

-- its count of faults rose, or stands at the largest number
abbrev pub HasFailed : End → Type 0
HasFailed end = Rose end.faults end.faults_now

-- where the source told its bytes: this holds of those that it gave, from their front
abbrev pub Gave : (List ℕ → Type 0) → Option (List ℕ) → Option (List ℕ) → Type 0
Gave P None left = Unit {0}
Gave P (Some bytes) None = ⊥
Gave P (Some bytes) (Some left) = (given : List ℕ) × (bytes ≡ given ++ left) × P given

-- where the source told its bytes: this is their outcome, and exactly the transcript of their calls was
-- written
abbrev pub Comes : Verdict → ℕ → Option (List ℕ) → Option (List ℕ) → Option (List ℕ) → Type 0
Comes outcome limit None before after = Unit {0}
Comes outcome limit (Some bytes) before after =
    (verdict limit bytes ≡ outcome) × Appends before after (transcript (calls_within limit bytes))

-- these bytes were given within the limit, each of their ended lines stands for a call, and exactly the
-- transcript of those was written
pub record PlaysGiven (limit : ℕ) (given : List ℕ) (before after : Option (List ℕ)) : Type 0 where
  pub within : length given ≤ limit
  pub each : AllByRecursion (λ line. IsSome (call_of line)) (lines_of given)
  pub added : Appends before after (transcript (calls_of (lines_of given)))

-- what each answer says
abbrev pub Answers : Result ℕ PlayFault → ℕ → End → End → Type 0
Answers (Ok lines) limit source sink = Comes (Good lines) limit source.before sink.before sink.after
    × IsAtEnd source.after
Answers (Err (faults.Malformed line)) limit source sink =
    Comes (Malformed line) limit source.before sink.before sink.after
Answers (Err faults.TooLong) limit source sink =
    Comes TooLong limit source.before sink.before sink.after
    × Gave (λ given. length given ≡ limit + 1) source.before source.after
Answers (Err faults.Read) limit source sink =
    Rose source.faults source.faults_now
    × Gave (λ given. PlaysGiven limit given sink.before sink.after) source.before source.after
Answers (Err faults.Write) limit source sink = Rose sink.faults sink.faults_now
Answers (Err faults.NoMemory) limit source sink = Unit {0}

-- Of what was given, whatever the answer is: it is at most one byte more than the limit, and a prefix of the
-- transcript of its lines
-- was written. But for at most 4096 bytes at its end, it stands within the limit, each of its ended lines
-- stands for a call, and what
-- was written begins with their transcript.
pub record KeepsUp (limit : ℕ) (given : List ℕ) (before after : Option (List ℕ)) : Type 0 where
  pub takes : length given ≤ limit + 1
  pub front : AppendsPrefix (transcript (calls_within limit given)) before after
  pub played : List ℕ
  pub end : List ℕ
  pub whole : played ++ end ≡ given
  pub most : length end ≤ 4096
  pub within : length played ≤ limit
  pub each : AllByRecursion (λ line. IsSome (call_of line)) (lines_of played)
  pub answered : (text : List ℕ) × Appends before after (transcript (calls_of (lines_of played)) ++ text)

-- The promise of `play`. Where neither end has failed, its answer is the outcome, or that there was no
-- memory.
pub record Plays (limit : ℕ) (source sink : End) (answer : Result ℕ PlayFault) : Type 0 where
  pub answers : Answers answer limit source sink
  pub keeps_up : Gave (λ given. KeepsUp limit given sink.before sink.after) source.before source.after
  pub reads_never_fall : source.faults ≤ source.faults_now
  pub writes_never_fall : sink.faults ≤ sink.faults_now

-- the most bytes of a script that the program plays
abbrev pub program_limit : ℕ
program_limit = 16777216

-- the exit statuses of the program
abbrev pub IsStatus : ℕ → Type 0
IsStatus status = (status ≡ 0) ⊎ ((2 ≤ status) × (status ≤ 7))

abbrev pub status_of : PlayFault → ℕ
status_of (faults.Malformed line) = 3
status_of faults.TooLong = 4
status_of faults.Read = 5
status_of faults.Write = 6
status_of faults.NoMemory = 7

-- a text was told: all of it, or a prefix of it where the sink has failed
abbrev pub Told : List ℕ → End → Type 0
Told text sink = Appends sink.before sink.after text ⊎
    (AppendsPrefix text sink.before sink.after × HasFailed sink)

-- a text was told with its status; or there was no memory for that, and so a prefix of it with status 7
abbrev pub ToldWith : ℕ → List ℕ → ℕ → End → Type 0
ToldWith own text status sink =
    ((status ≡ own) × Told text sink) ⊎ ((status ≡ 7) × AppendsPrefix text sink.before sink.after)

-- the program ends as an answer of `play` says: where all is well with nothing told, else with the text of
-- the fault
abbrev pub EndsWith : Result ℕ PlayFault → ℕ → End → Type 0
EndsWith (Ok lines) status sink = status ≡ 0
EndsWith (Err fault) status sink = ToldWith (status_of fault) (fault_text fault ++ 10 ∷ []) status sink

-- what the words of the program ask for: to play, or the summary of a bulk script; or they are others
abbrev pub AskToPlay : List (List ℕ) → Type 0
AskToPlay words = words ≡ codes "play" ∷ []

abbrev pub AskForBulk : ℕ → List (List ℕ) → Type 0
AskForBulk n words = (words ≡ codes "bulk" ∷ decimal n ∷ []) × IsBulk n

abbrev pub AreOthers : List (List ℕ) → Type 0
AreOthers words = (words ≢ codes "play" ∷ []) × ((n : ℕ) → AskForBulk n words → ⊥)

-- what an answer says of the summary of a script: all of it was written, and so many lines it has; or a prefix
-- of it was, where the sink has failed or there was no memory
abbrev pub SumsUp : List Call → Result ℕ PlayFault → End → Type 0
SumsUp calls (Ok lines) sink =
    (lines ≡ length calls) × Appends sink.before sink.after (summary_of calls)
SumsUp calls (Err faults.Write) sink =
    HasFailed sink × AppendsPrefix (summary_of calls) sink.before sink.after
SumsUp calls (Err faults.NoMemory) sink = AppendsPrefix (summary_of calls) sink.before sink.after
SumsUp calls (Err fault) sink = ⊥

-- the promise of the program: it plays, or sums up a bulk script, and ends with the answer of that; or it tells how
-- it is used
abbrev pub Runs : List (List ℕ) → End → End → End → ℕ → Type 0
Runs words source sink told status =
    (AskToPlay words × ((answer : Result ℕ PlayFault) × Plays program_limit source sink answer
    × EndsWith answer status told))
    ⊎ (((n : ℕ) × AskForBulk n words × ((answer : Result ℕ PlayFault) × SumsUp (bulk_calls n) answer sink
    × EndsWith answer status told))
    ⊎ (AreOthers words × ToldWith 2 (usage_text ++ 10 ∷ []) status told))
