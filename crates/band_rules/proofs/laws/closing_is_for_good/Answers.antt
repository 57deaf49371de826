use Rattle.band_rules.proofs.Closing.{closed-after, stays_closed}
use Rattle.band_rules.proofs.laws.closing_is_for_good.Goals as goal

pub returns : goal.returns
returns c = record { stays = stays_closed; by_close = closed-after }
