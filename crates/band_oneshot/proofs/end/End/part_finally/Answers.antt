use Rattle.std.proofs.Common.{rules, false}
use Rattle.band_oneshot.proofs.SenderActs.{awaking_words, parts_finally_allows}
use Rattle.band_oneshot.proofs.end.End.part_finally.Goals as goal

pub swap-requires : goal.swap-requires
swap-requires g c = (search rules, search rules, parts_finally_allows _ _ _ c.requires.0 c.requires.1)

pub returns-clause-words : goal.returns-clause-words
returns-clause-words g c = awaking_words false _ _ c.swap.ensures.2.0.receiver c.swap.ensures.2.0.agree c.requires.1.stage
