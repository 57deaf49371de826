use Rattle.std.proofs.Common.{ℕ, ◌≤◌}
use Rattle.band_balance.specs.Line.{take_permits}
use Rattle.band_partial.specs.PartialLine.{StandsFor}
use Rattle.band_partial.specs.Moves.{draw}
use Rattle.band_partial.proofs.Follows.{of_shown, draw-shown}
use Rattle.band_partial.proofs.laws.draw_is_taking.Goals as goal

pub returns : goal.returns
returns c = of_shown (λ line part. (n : ℕ) → n ≤ part.word → StandsFor (take_permits n line) (draw n part)) draw-shown
