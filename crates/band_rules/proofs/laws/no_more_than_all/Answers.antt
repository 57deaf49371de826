use Rattle.band_rules.proofs.Runs.{within-after}
use Rattle.band_rules.proofs.laws.no_more_than_all.Goals as goal

pub returns : goal.returns
returns c = within-after
