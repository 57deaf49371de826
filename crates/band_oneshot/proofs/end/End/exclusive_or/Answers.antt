use Rattle.std.proofs.Common.{rules}
use Rattle.band_oneshot.proofs.SenderActs.{idle_words, parts_allows}
use Rattle.band_oneshot.proofs.end.End.exclusive_or.Goals as goal

pub fetch_xor-requires : goal.fetch_xor-requires
fetch_xor-requires g c = (search rules, search rules, parts_allows _ _ _ c.requires)

pub returns-clause-words : goal.returns-clause-words
returns-clause-words g c = idle_words _ _ c.fetch_xor.ensures.2.0.receiver c.fetch_xor.ensures.2.0.agree c.requires.stage
