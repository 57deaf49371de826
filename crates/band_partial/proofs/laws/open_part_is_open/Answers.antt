use Rattle.band_partial.proofs.Follows.{open_part-stands}
use Rattle.band_partial.proofs.laws.open_part_is_open.Goals as goal

pub returns : goal.returns
returns c = open_part-stands
