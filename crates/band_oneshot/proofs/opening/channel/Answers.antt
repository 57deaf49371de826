use Rattle.std.proofs.Common.{rules}
use Rattle.band_oneshot.proofs.Preparing.{prepares_allows}
use Rattle.band_oneshot.proofs.opening.channel.Goals as goal

pub load-requires : goal.load-requires
load-requires g c = (search rules, search rules, prepares_allows _ _ _ (search rules))
