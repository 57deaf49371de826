-- How far a script is played.
use Rattle.std.specs.Prelude.{◌≡◌, ℕ, ◌+◌, Bool, List, [], ◌∷◌, ◌++◌, length, take, string_bytes, Option}
use Rattle.std.specs.Prelude.{Some, None, IsSome, Result, Ok, Err}
use Rattle.std.specs.List.{AllByRecursion}
use Rattle.std.specs.Io.KnownBytes.{Appends}
use Rattle.band_base.specs.Device.{AppendsPrefix, Rose}
use Rattle.band_play.specs.declared.fault.PlayFault.{PlayFault}
use Rattle.band_play.specs.declared.fault.PlayFault.TheVariants as faults
use Rattle.band_play.specs.declared.playing.Playing.{Playing}
use Rattle.band_script.specs.Grammar.{call_of}
use Rattle.band_player.specs.Player.{StandsFor}
use Rattle.band_rules.specs.Script.{Malformed, verdict_on, lines_of, rest_of, calls_of, transcript}
use Rattle.band_rules.specs.Script.{state_from}

-- the ended lines of these bytes are run, each stands for a call, and their text is `front` and what is not
-- written yet
pub record HasRun (given front : List ℕ) (playing : Playing) : Type 0 where
  pub each : AllByRecursion (λ line. IsSome (call_of line)) (lines_of given)
  pub count : playing.lines ≡ length (lines_of given)
  pub state : StandsFor playing.player (state_from [] (calls_of (lines_of given)))
  pub text : front ++ string_bytes playing.text ≡ transcript (calls_of (lines_of given))
  pub held : playing.held ≡ take 112 (rest_of given)

-- the ended lines of these bytes are run, and their text is all that was written since the start
pub record HasPlayed (given : List ℕ) (playing : Playing) (start now : Option (List ℕ)) : Type 0 where
  pub front : List ℕ
  pub run : HasRun given front playing
  pub added : Appends start now front
  pub emptied : string_bytes playing.text ≡ []

-- whatever comes after these bytes, this line is the first that stands for no call, and this is the text of
-- those before it
pub record IsMalformedAt (bytes : List ℕ) (line : ℕ) (text : List ℕ) : Type 0 where
  pub outcome : (more : List ℕ) (over : Bool)
      → verdict_on (lines_of (bytes ++ more)) (rest_of (bytes ++ more)) over ≡ Malformed line
  pub transcript_is : (more : List ℕ) → transcript (calls_of (lines_of (bytes ++ more))) ≡ text

-- the lines that end in a piece are run, or those before the first that stands for no call
abbrev pub RunsPiece : Option ℕ → List ℕ → Playing → Playing → Type 0
RunsPiece None piece old new =
    (given front : List ℕ) → HasRun given front old → HasRun (given ++ piece) front new
RunsPiece (Some line) piece old new =
    (given front : List ℕ) → HasRun given front old
    → IsMalformedAt (given ++ piece) line (front ++ string_bytes new.text)

-- the lines that end in a piece are played
abbrev pub PlaysPiece : List ℕ → Playing → Playing → Option (List ℕ) → Option (List ℕ) → Type 0
PlaysPiece piece old new before after =
    (given : List ℕ) (start : Option (List ℕ)) → HasPlayed given old start before
    → HasPlayed (given ++ piece) new start after

-- why the lines of these bytes were not all played
abbrev pub Stops : PlayFault → List ℕ → Option (List ℕ) → Option (List ℕ) → ℕ → ℕ → Type 0
Stops (faults.Malformed line) bytes start now old new =
    (text : List ℕ) × IsMalformedAt bytes line text × Appends start now text
Stops faults.TooLong bytes start now old new = ⊥
Stops faults.Read bytes start now old new = ⊥
Stops faults.Write bytes start now old new =
    AppendsPrefix (transcript (calls_of (lines_of bytes))) start now × Rose old new
Stops faults.NoMemory bytes start now old new =
    AppendsPrefix (transcript (calls_of (lines_of bytes))) start now

-- why the lines that end in a piece were not all played
abbrev pub StopsInPiece : PlayFault → List ℕ → Playing → Option (List ℕ) → Option (List ℕ) → ℕ → ℕ → Type 0
StopsInPiece fault piece playing before after old new =
    (given : List ℕ) (start : Option (List ℕ)) → HasPlayed given playing start before
    → Stops fault (given ++ piece) start after old new

-- the answer at the end of the bytes, once so many lines were played and this is held
abbrev pub answer_at_end : ℕ → List ℕ → Result ℕ PlayFault
answer_at_end lines [] = Ok lines
answer_at_end lines (byte ∷ held) = Err (faults.Malformed (lines + 1))

-- some text was added at the end of what was written
abbrev pub AddsSome : Option (List ℕ) → Option (List ℕ) → Type 0
AddsSome before after = (text : List ℕ) × Appends before after text
