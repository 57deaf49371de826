use Rattle.std.proofs.Common.{ℕ, Bool}
use Rattle.band_balance.specs.Line.{poll_granted}
use Rattle.band_partial.specs.PartialLine.{StandsFor}
use Rattle.band_partial.specs.Moves.{collect}
use Rattle.band_partial.proofs.Follows.{of_shown, collect-shown}
use Rattle.band_partial.proofs.laws.collect_is_polling_granted.Goals as goal

pub returns : goal.returns
returns c = of_shown (λ line part. (is : ℕ → Bool) → StandsFor (poll_granted is line) (collect is part)) collect-shown
