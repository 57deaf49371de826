use Rattle.std.proofs.Common.{rules}
use Rattle.band_oneshot.proofs.ReceiverActs.{fetches_allows}
use Rattle.band_oneshot.proofs.end.End.receiving_to_empty.Goals as goal

pub compare_exchange-requires : goal.compare_exchange-requires
compare_exchange-requires g c = (search rules, search rules, fetches_allows _ _ _ _ _ (λ i. (c.requires.receives i, c.args.self.now.seat.me.1)) c.requires.stage)
