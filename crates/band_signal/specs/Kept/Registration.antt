-- What a registration keeps of a wait's life.
use Rattle.std.specs.Prelude.{ℕ, Bool, true, false, Option}
use Rattle.band_signal.specs.Waits.{Life, Finished, life_of}

abbrev pub life_at : Bool → Option ℕ → Life
life_at true token = Finished
life_at false token = life_of token
