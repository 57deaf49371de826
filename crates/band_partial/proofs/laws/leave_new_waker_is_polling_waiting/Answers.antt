use Rattle.std.proofs.Common.{ℕ, Bool}
use Rattle.band_balance.specs.Line.{poll_waiting}
use Rattle.band_partial.specs.PartialLine.{StandsFor}
use Rattle.band_partial.specs.Moves.{leave_new_waker}
use Rattle.band_partial.proofs.Follows.{of_shown, leave_new_waker-shown}
use Rattle.band_partial.proofs.laws.leave_new_waker_is_polling_waiting.Goals as goal

pub returns : goal.returns
returns c = of_shown (λ line part. (is : ℕ → Bool) (waker : ℕ) → StandsFor (poll_waiting is waker line) (leave_new_waker is waker part)) leave_new_waker-shown
