use Rattle.std.proofs.Common.{ℕ}
use Rattle.band_balance.specs.Line.{take_permits}
use Rattle.band_partial.specs.PartialLine.{StandsFor}
use Rattle.band_partial.specs.Moves.{owe}
use Rattle.band_partial.proofs.Follows.{of_shown, owe-shown}
use Rattle.band_partial.proofs.laws.owe_is_reducing.Goals as goal

pub returns : goal.returns
returns c = of_shown (λ line part. (slot n : ℕ) → StandsFor (take_permits n line) (owe slot n part)) owe-shown
