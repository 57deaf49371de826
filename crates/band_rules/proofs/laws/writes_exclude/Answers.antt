use Rattle.band_rules.proofs.Runs.{exclusive-after}
use Rattle.band_rules.proofs.laws.writes_exclude.Goals as goal

pub returns : goal.returns
returns c = exclusive-after
