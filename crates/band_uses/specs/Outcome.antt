-- The answer and the status that tell an outcome.
use Rattle.std.specs.Prelude.{◌≡◌, ℕ, List, [], Option, Some, None, Result, Ok, Err}
use Rattle.band_play.specs.declared.fault.PlayFault.{PlayFault}
use Rattle.band_play.specs.declared.fault.PlayFault.TheVariants as faults
use Rattle.band_play.specs.Play.{status_of}
use Rattle.band_rules.specs.Script.{Verdict, Good, Malformed, TooLong}

-- where the source told its bytes: none is left
abbrev pub AllRead : Option (List ℕ) → Option (List ℕ) → Type 0
AllRead None left = Unit {0}
AllRead (Some bytes) left = left ≡ Some []

-- the answer that tells an outcome
abbrev pub answer_of : Verdict → Result ℕ PlayFault
answer_of (Good lines) = Ok lines
answer_of (Malformed line) = Err (faults.Malformed line)
answer_of TooLong = Err faults.TooLong

-- the status that an answer has
abbrev pub exit_of : Result ℕ PlayFault → ℕ
exit_of (Ok lines) = 0
exit_of (Err fault) = status_of fault
