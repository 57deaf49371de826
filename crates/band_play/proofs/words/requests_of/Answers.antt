use Rattle.band_play.proofs.Spelling.{not_bulk}
use Rattle.band_play.proofs.words.requests_of.Goals as goal

pub returns-else-is_size-clause-none : goal.returns-else-is_size-clause-none
returns-else-is_size-clause-none c = λ n same bulk.
    not_bulk _ c.in_ok-n.n c.is_size.result c.in_ok-n.ensures.some.1 c.in_ok-n.ensures.some.0 c.is_size.ensures c.if-is_size.false n same bulk
