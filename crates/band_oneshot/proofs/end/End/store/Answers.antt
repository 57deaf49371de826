use Rattle.std.proofs.Common.{rules}
use Rattle.band_oneshot.proofs.ReceiverActs.{stores_allows, stores_core}
use Rattle.band_oneshot.proofs.end.End.store.Goals as goal

pub store-requires : goal.store-requires
store-requires g c = (search rules, search rules, stores_allows _ _ _ _ _ (λ i. (c.requires.receives i, c.args.self.now.seat.me.1)) c.requires.stage c.requires.found)

pub returns-clause-core : goal.returns-clause-core
returns-clause-core g c = stores_core c.args.self.now.seat.me c.store.new.seat.me c.requires.stage c.store.ensures.2
