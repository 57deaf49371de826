-- What a poll leaves of the mark that a state has given its value.
use Rattle.std.specs.Prelude.{◌≡◌, Bool, true, Result, Ok, Err}
use Rattle.band_base.specs.declared.poll.Poll.{Poll}
use Rattle.band_base.specs.declared.poll.Poll.TheVariants.{Ready, Pending}
use Rattle.band_base.specs.declared.poll.PollError.{PollError}

-- the value marks the state as done, and every other answer leaves the mark
abbrev pub Marks : {T : Type 0} → Result (Poll T) PollError → Bool → Bool → Type 0
Marks (Ok (Ready value)) before after = after ≡ true
Marks (Ok Pending) before after = after ≡ before
Marks (Err error) before after = after ≡ before
