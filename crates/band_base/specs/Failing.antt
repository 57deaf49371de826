-- Devices that fail at the calls of given numbers.
use Rattle.std.specs.Prelude.{ℕ, ◌+◌, ◌-◌, ◌^◌, Bool, false, ◌==◌, if◌then◌else◌, min, List}
use Rattle.std.specs.List.{list_any}

-- the calls of a device: the numbers of those that fail, from 1, how many were made, and how many failed
pub record Calls : Type 0 where
  pub fail : List ℕ
  pub made : ℕ
  pub failed : ℕ

-- no call was made yet
abbrev pub new_calls : List ℕ → Calls
new_calls fail = record { fail = fail; made = 0; failed = 0 }

-- the largest number that a call has
abbrev pub last_number : ℕ
last_number = 2 ^ 64 - 1

-- does the next call fail? The ones after the last number don't.
abbrev pub fails_next : Calls → Bool
fails_next calls =
    if calls.made == last_number then false
    else list_any (λ number. number == calls.made + 1) calls.fail

-- once the next call was made
abbrev pub counted : Calls → Calls
counted calls = record calls {
  made = min (calls.made + 1) last_number;
  failed = if fails_next calls then min (calls.failed + 1) last_number else calls.failed;
}

-- a source that gives at most so many bytes a call
pub record FailingSource : Type 0 where
  pub left : List ℕ
  pub most : ℕ
  pub calls : Calls

-- a sink that takes at most so many bytes a call
pub record FailingSink : Type 0 where
  pub written : List ℕ
  pub most : ℕ
  pub calls : Calls
