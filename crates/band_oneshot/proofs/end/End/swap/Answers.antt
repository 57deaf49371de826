use Rattle.std.proofs.Common.{rules}
use Rattle.band_oneshot.proofs.ReceiverActs.{swaps_allows, swaps_core}
use Rattle.band_oneshot.proofs.end.End.swap.Goals as goal

pub swap-requires : goal.swap-requires
swap-requires g c = (search rules, search rules, swaps_allows _ _ _ _ _ (λ i. (c.requires.receives i, c.args.self.now.seat.me.1)) c.requires.stage)

pub returns-clause-core : goal.returns-clause-core
returns-clause-core g c = swaps_core c.args.self.now.seat.me c.swap.new.seat.me _ c.requires.stage c.swap.ensures.2
