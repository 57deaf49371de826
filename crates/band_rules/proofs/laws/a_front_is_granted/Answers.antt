use Rattle.band_rules.proofs.Waking.{front-after}
use Rattle.band_rules.proofs.laws.a_front_is_granted.Goals as goal

pub returns : goal.returns
returns c = front-after
