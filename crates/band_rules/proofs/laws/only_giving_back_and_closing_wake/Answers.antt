use Rattle.band_rules.proofs.Waking.{nobody-after}
use Rattle.band_rules.proofs.laws.only_giving_back_and_closing_wake.Goals as goal

pub returns : goal.returns
returns c = nobody-after
