use Rattle.std.proofs.Common.{arith}
use Rattle.band_play.specs.Bulk.{polls}
use Rattle.band_play.proofs.BulkTexts.{grows, ends, polls_follow}
use Rattle.band_play.proofs.bulk.push_polls.Goals as goal

pub loop-i-preserved : goal.loop-i-preserved
loop-i-preserved c = grows polls polls_follow _ _ _ c.loop-i.i c.loop-i.auto.i c.loop-i.invariant c.in_ok-push_poll.ensures

pub returns : goal.returns
returns c = ends polls _ _ c.loop-i.i c.args.n (omega arith) c.loop-i.invariant
