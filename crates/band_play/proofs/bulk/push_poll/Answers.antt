use Rattle.std.proofs.Common.{arith}
use Rattle.std.proofs.lemmas.Grind.{common_steps}
use Rattle.band_play.proofs.BulkTexts.{zero_is}
use Rattle.band_play.proofs.bulk.push_poll.Goals as goal

pub returns-else-i-eq0 : goal.returns-else-i-eq0
returns-else-i-eq0 c = grind (arith, common_steps, zero_is)
