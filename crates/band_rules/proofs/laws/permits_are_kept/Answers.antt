use Rattle.band_rules.proofs.Keeping.{kept-after}
use Rattle.band_rules.proofs.laws.permits_are_kept.Goals as goal

pub returns : goal.returns
returns c = kept-after
