use Rattle.band_rules.proofs.Waking.{refuses_whole}
use Rattle.band_rules.proofs.laws.refusals_change_nothing.Goals as goal

pub returns : goal.returns
returns c = refuses_whole
