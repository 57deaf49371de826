use Rattle.std.proofs.Common.{rules}
use Rattle.band_oneshot.proofs.ReceiverActs.{leaves_allows, leaves_core}
use Rattle.band_oneshot.proofs.end.End.empty_to_receiving.Goals as goal

pub compare_exchange-requires : goal.compare_exchange-requires
compare_exchange-requires g c = (search rules, search rules, leaves_allows _ _ _ _ _ _ (λ i. (c.requires.receives i, c.requires.waker i)) c.requires.stage c.requires.has)

pub returns-clause-core : goal.returns-clause-core
returns-clause-core g c = leaves_core c.args.self.now.seat.me c.compare_exchange.new.seat.me _ _ c.requires.stage c.requires.has c.requires.waker c.compare_exchange.ensures.2

pub returns-clause-follows : goal.returns-clause-follows
returns-clause-follows g c = (c.compare_exchange.ensures.2 c.args.waker c.requires.waker).0.follows
