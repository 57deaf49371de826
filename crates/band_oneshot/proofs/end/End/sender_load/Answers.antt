use Rattle.std.proofs.Common.{rules}
use Rattle.band_oneshot.proofs.SenderActs.{sender_looks_allows}
use Rattle.band_oneshot.proofs.end.End.sender_load.Goals as goal

pub load-requires : goal.load-requires
load-requires g c = (search rules, search rules, sender_looks_allows _ _ _ c.requires)
