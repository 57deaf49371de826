-- How many nodes of lines the playing of a script visits.
use Rattle.std.specs.Prelude.{◌≡◌, ◌⊎◌, ℕ, ◌+◌, ◌*◌, ◌≤◌, List, ◌++◌, length, Option}
use Rattle.std.specs.Prelude.{Result, Ok, Err}
use Rattle.band_play.specs.Bulk.{bulk_calls}
use Rattle.band_play.specs.Play.{Gave, End, Plays, EndsWith, AskToPlay, AskForBulk, AreOthers, program_limit}
use Rattle.band_play.specs.declared.fault.PlayFault.{PlayFault}
use Rattle.band_play.specs.declared.fault.PlayFault.TheVariants as faults
use Rattle.band_play.specs.declared.playing.Playing.{Playing}
use Rattle.band_play.specs.Playing.{HasRun}
use Rattle.band_player.specs.Player.{load_of}
use Rattle.band_rules.specs.Joined.{joiners_of}
use Rattle.band_script.specs.declared.call.Call.{Call}
use Rattle.band_rules.specs.Script.{lines_of, calls_of, calls_within}

-- sixteen visits at most for each line that the answer counts
abbrev pub VisitsBy : Result ℕ PlayFault → ℕ → ℕ → Type 0
VisitsBy (Ok lines) before after = after ≤ before + 16 * lines
VisitsBy (Err (faults.Malformed line)) before after = after + 16 ≤ before + 16 * line
VisitsBy (Err fault) before after = Unit {0}

-- sixteen visits at most for each of so many lines
abbrev pub AddsFew : ℕ → ℕ → ℕ → Type 0
AddsFew lines before after = (before ≤ after) × (after ≤ before + 16 * lines)

-- At least one visit for each request that joined a line by the calls of what was given. Where there was no memory, what
-- came last of that, at most 4096 bytes, may not have been run.
abbrev pub VisitsWhoJoined : Result ℕ PlayFault → ℕ → List ℕ → ℕ → ℕ → Type 0
VisitsWhoJoined (Err faults.NoMemory) limit given before after =
    (played : List ℕ) × ((end : List ℕ) × (played ++ end ≡ given) × (length end ≤ 4096)
    × (before + joiners_of (calls_within limit played) ≤ after))
VisitsWhoJoined answer limit given before after = before + joiners_of (calls_within limit given) ≤ after

-- What `play` visits. Whatever the answer is, it is at most sixteen for each line that ends, within the limit, in what
-- the source gave, before the first of these that stands for no call; and one at least for each request that joined.
pub record VisitsFew (limit : ℕ) (first last : Option (List ℕ)) (answer : Result ℕ PlayFault)
    (before after : ℕ) : Type 0 where
  pub no_fewer : before ≤ after
  pub answered : VisitsBy answer before after
  pub taken : Gave (λ given. after ≤ before + 16 * length (calls_within limit given)) first last
  pub joined : Gave (λ given. VisitsWhoJoined answer limit given before after) first last

-- The program visits what `play` does with the answer that it ends with; at most sixteen for each line of a bulk script, and
-- one at least for each request that joined, where it was played to its end; and nothing with other words.
abbrev pub RunVisits : List (List ℕ) → End → End → End → ℕ → ℕ → ℕ → Type 0
RunVisits words source sink told status before after =
    (AskToPlay words × ((answer : Result ℕ PlayFault) × Plays program_limit source sink answer
    × EndsWith answer status told × VisitsFew program_limit source.before source.after answer before after))
    ⊎ (((n : ℕ) × AskForBulk n words × AddsFew (length (bulk_calls n)) before after
    × (status ≡ 0 → before + joiners_of (bulk_calls n) ≤ after))
    ⊎ (AreOthers words × (after ≡ before)))

-- the calls of the lines that end in these bytes, up to the first line that stands for none
abbrev pub calls_in : List ℕ → List Call
calls_in bytes = calls_of (lines_of bytes)

-- each call that a piece adds paid for its visits
pub record PaysPiece (piece : List ℕ) (old new : Playing) (before after : ℕ) : Type 0 where
  pub no_fewer : before ≤ after
  pub no_more : (given front : List ℕ) → HasRun given front old
      → after + 8 * load_of new.player + 16 * length (calls_in given)
      ≤ before + 8 * load_of old.player + 16 * length (calls_in (given ++ piece))

-- each request that joined a line by a call that a piece adds was visited
abbrev pub VisitsPiece : List ℕ → Playing → ℕ → ℕ → Type 0
VisitsPiece piece old before after =
    (given front : List ℕ) → HasRun given front old
    → before + joiners_of (calls_in (given ++ piece)) ≤ after + joiners_of (calls_in given)
