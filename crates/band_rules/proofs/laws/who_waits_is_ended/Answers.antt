use Rattle.band_rules.proofs.Runs.{closing-after}
use Rattle.band_rules.proofs.laws.who_waits_is_ended.Goals as goal

pub returns : goal.returns
returns c = closing-after
