use Rattle.std.proofs.Common.{ℕ}
use Rattle.band_balance.specs.Line.{give_back}
use Rattle.band_partial.specs.PartialLine.{StandsFor}
use Rattle.band_partial.specs.Moves.{pass_on}
use Rattle.band_partial.proofs.Follows.{of_shown, pass_on-shown}
use Rattle.band_partial.proofs.laws.pass_on_is_giving_back.Goals as goal

pub returns : goal.returns
returns c = of_shown (λ line part. (n : ℕ) → StandsFor (give_back n line) (pass_on n part)) pass_on-shown
