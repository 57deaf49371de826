use Rattle.std.proofs.Common.{subst}
use Rattle.band_once.specs.declared.call.CallStage.{CallStage}
use Rattle.band_once.specs.Claims.{Nothing, KeepsCounted, claim_of}
use Rattle.band_once.proofs.Claims.{KeepsCounted-then}
use Rattle.band_uses.proofs.cells.forced_now.Goals as goal

pub returns-clause-others : goal.returns-clause-others
returns-clause-others g c =
    KeepsCounted-then Nothing (claim_of c.poll.new.self) Nothing _ c.poll.new.cell.permit _
    (subst (λ (call : CallStage Unit). KeepsCounted (claim_of call) (claim_of c.poll.new.self) c.args.cell.now.permit c.poll.new.cell.permit) c.force-call.ensures c.poll.ensures.counted)
    c.cancel.ensures.counted
