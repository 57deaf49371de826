use Rattle.std.proofs.Common.{rules}
use Rattle.band_oneshot.proofs.ReceiverActs.{ends_awaking_allows}
use Rattle.band_oneshot.proofs.end.End.awaking_to_disconnected.Goals as goal

pub compare_exchange-requires : goal.compare_exchange-requires
compare_exchange-requires g c = (search rules, search rules, ends_awaking_allows _ _ _ _ _ (λ i. (c.requires.receives i, c.args.self.now.seat.me.1)) c.requires.stage)
