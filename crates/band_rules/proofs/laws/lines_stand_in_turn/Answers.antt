use Rattle.band_rules.proofs.Turns.{stand-after, granted-after}
use Rattle.band_rules.proofs.laws.lines_stand_in_turn.Goals as goal

pub returns : goal.returns
returns c = record { stand = stand-after; granted = granted-after }
