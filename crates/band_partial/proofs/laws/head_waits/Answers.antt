use Rattle.band_balance.specs.Settled.{HeadWaits}
use Rattle.band_partial.proofs.Follows.{of_shown, head_waits-shown}
use Rattle.band_partial.proofs.laws.head_waits.Goals as goal

pub returns : goal.returns
returns c = of_shown (λ line part. HeadWaits line.free line.waiting) head_waits-shown
