use Rattle.std.proofs.Common.{ℕ, Bool}
use Rattle.band_balance.specs.Line.{cancel}
use Rattle.band_partial.specs.PartialLine.{StandsFor}
use Rattle.band_partial.specs.Moves.{cancel_request}
use Rattle.band_partial.proofs.Follows.{of_shown, cancel-shown}
use Rattle.band_partial.proofs.laws.cancel_is_cancelling.Goals as goal

pub returns : goal.returns
returns c = of_shown (λ line part. (is : ℕ → Bool) → StandsFor (cancel is line) (cancel_request is part)) cancel-shown
