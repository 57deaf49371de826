use Rattle.std.proofs.Common.{subst}
use Rattle.band_oneshot.specs.Calls.{CancelsIn}
use Rattle.band_oneshot.proofs.recv.Recv.cancel.Goals as goal

pub returns-clause-cancels : goal.returns-clause-cancels
returns-clause-cancels g c = subst (λ v. CancelsIn 3 v c.cancel_within.result.0 c.cancel_within.result.1) c.self.view_is
    c.cancel_within.ensures.cancels
