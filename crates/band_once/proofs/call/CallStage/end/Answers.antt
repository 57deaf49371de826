use Rattle.band_once.proofs.Claims.{KeepsCounted-cancels}
use Rattle.band_once.proofs.call.CallStage.end.Goals as goal

pub returns-in-Waiting-clause-whole : goal.returns-in-Waiting-clause-whole
returns-in-Waiting-clause-whole g c = c.cancel.ensures.whole 1 c.requires.whole

pub returns-in-Waiting-clause-counted : goal.returns-in-Waiting-clause-counted
returns-in-Waiting-clause-counted g c =
    rw c.in-Waiting.is (KeepsCounted-cancels c.args.permit.now c.cancel.new.sem c.in-Waiting.request c.cancel.ensures.state c.cancel.ensures.lawful)
