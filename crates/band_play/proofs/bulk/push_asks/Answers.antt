use Rattle.std.proofs.Common.{arith}
use Rattle.band_play.specs.Bulk.{asks}
use Rattle.band_play.proofs.BulkTexts.{grows, ends, asks_follow}
use Rattle.band_play.proofs.bulk.push_asks.Goals as goal

pub loop-i-preserved : goal.loop-i-preserved
loop-i-preserved c = grows asks asks_follow _ _ _ c.loop-i.i c.loop-i.auto.i c.loop-i.invariant c.in_ok-push_ask.ensures

pub returns : goal.returns
returns c = ends asks _ _ c.loop-i.i c.args.n (omega arith) c.loop-i.invariant
