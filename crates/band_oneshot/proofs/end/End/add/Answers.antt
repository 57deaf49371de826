use Rattle.std.proofs.Common.{rules}
use Rattle.band_oneshot.proofs.SenderActs.{idle_words, adds_allows, adds_core}
use Rattle.band_oneshot.proofs.end.End.add.Goals as goal

pub fetch_add-requires : goal.fetch_add-requires
fetch_add-requires g c = (search rules, search rules, adds_allows _ _ _ c.requires.message.0 c.requires.idle c.requires.message.1)

pub returns-clause-core : goal.returns-clause-core
returns-clause-core g c = adds_core _ _ _ c.requires.message.0 c.requires.idle c.requires.message.1 c.fetch_add.ensures.2

pub returns-clause-words : goal.returns-clause-words
returns-clause-words g c = let found = (c.fetch_add.ensures.2 c.requires.message.0 c.requires.message.1).0 in
    idle_words _ _ found.receiver found.agree c.requires.idle.stage

pub returns-clause-follows : goal.returns-clause-follows
returns-clause-follows g c = (c.fetch_add.ensures.2 c.requires.message.0 c.requires.message.1).0.follows
