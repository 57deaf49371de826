use Rattle.std.proofs.Common.{rules, true}
use Rattle.band_oneshot.proofs.SenderActs.{awaking_words, sends_finally_allows, sends_finally_core}
use Rattle.band_oneshot.proofs.end.End.send_finally.Goals as goal

pub swap-requires : goal.swap-requires
swap-requires g c = (search rules, search rules, sends_finally_allows _ _ _ c.requires.message.0 _ c.requires.awaking.0 c.requires.awaking.1 c.requires.message.1)

pub returns-clause-core : goal.returns-clause-core
returns-clause-core g c = sends_finally_core _ _ _ c.requires.message.0 c.requires.awaking.0 c.requires.awaking.1 c.requires.message.1 c.swap.ensures.2

pub returns-clause-words : goal.returns-clause-words
returns-clause-words g c = let found = (c.swap.ensures.2 c.requires.message.0 c.requires.message.1).0 in
    awaking_words true _ _ found.receiver found.agree c.requires.awaking.1.stage
