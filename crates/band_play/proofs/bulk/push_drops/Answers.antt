use Rattle.std.proofs.Common.{arith}
use Rattle.band_play.specs.Bulk.{drops}
use Rattle.band_play.proofs.BulkTexts.{grows, ends, drops_follow}
use Rattle.band_play.proofs.bulk.push_drops.Goals as goal

pub loop-i-preserved : goal.loop-i-preserved
loop-i-preserved c = grows drops drops_follow _ _ _ c.loop-i.i c.loop-i.auto.i c.loop-i.invariant c.in_ok-push_drop.ensures

pub returns : goal.returns
returns c = ends drops _ _ c.loop-i.i c.args.n (omega arith) c.loop-i.invariant
