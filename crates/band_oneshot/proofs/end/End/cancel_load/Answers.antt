use Rattle.std.proofs.Common.{rules}
use Rattle.band_oneshot.proofs.ReceiverActs.{cancel_looks_allows, cancels_core}
use Rattle.band_oneshot.proofs.end.End.cancel_load.Goals as goal

pub load-requires : goal.load-requires
load-requires g c = (search rules, search rules, cancel_looks_allows _ _ _ _ _ (λ i. (c.requires.receives i, c.args.self.now.seat.me.1)) c.requires.stage)

pub returns-clause-core : goal.returns-clause-core
returns-clause-core g c = cancels_core c.args.self.now.seat.me c.load.new.seat.me _ c.requires.stage c.load.ensures.2
