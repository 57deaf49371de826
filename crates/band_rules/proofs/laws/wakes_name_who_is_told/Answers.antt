use Rattle.band_rules.proofs.Waking.{wakes-after}
use Rattle.band_rules.proofs.laws.wakes_name_who_is_told.Goals as goal

pub returns : goal.returns
returns c = wakes-after
