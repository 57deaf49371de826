use Rattle.band_rules.proofs.Runs.{heads-after}
use Rattle.band_rules.proofs.laws.heads_wait.Goals as goal

pub returns : goal.returns
returns c = heads-after
