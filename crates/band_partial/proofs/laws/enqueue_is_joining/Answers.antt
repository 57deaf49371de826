use Rattle.std.proofs.Common.{◌≡◌, ℕ, false}
use Rattle.band_balance.specs.Line.{is_served, join}
use Rattle.band_partial.specs.PartialLine.{StandsFor}
use Rattle.band_partial.specs.Moves.{enqueue}
use Rattle.band_partial.proofs.Follows.{of_shown, enqueue-shown}
use Rattle.band_partial.proofs.laws.enqueue_is_joining.Goals as goal

pub returns : goal.returns
returns c = of_shown (λ line part. (slot size waker : ℕ) → is_served size line ≡ false → StandsFor (join slot size waker line) (enqueue slot size waker part)) enqueue-shown
