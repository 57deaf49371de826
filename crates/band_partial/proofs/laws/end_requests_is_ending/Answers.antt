use Rattle.std.proofs.Common.{ℕ}
use Rattle.band_balance.specs.Line.{end_waiting}
use Rattle.band_partial.specs.PartialLine.{StandsFor}
use Rattle.band_partial.specs.Moves.{end_requests}
use Rattle.band_partial.proofs.Ending.{nobody-ended, debts-ended, ended-stands}
use Rattle.band_partial.proofs.Follows.{of_shown}
use Rattle.band_partial.proofs.laws.end_requests_is_ending.Goals as goal

pub returns-clause-ends : goal.returns-clause-ends
returns-clause-ends c = of_shown (λ line part. (slot : ℕ) → StandsFor (end_waiting line) (end_requests slot part)) ended-stands

pub returns-clause-nobody : goal.returns-clause-nobody
returns-clause-nobody c = nobody-ended

pub returns-clause-debts : goal.returns-clause-debts
returns-clause-debts c = debts-ended
