use Rattle.std.proofs.Common.{refl}
use Rattle.band_sem.proofs.Laws.{KeepsOrder-same}
use Rattle.band_condvar.proofs.stage.touch.Goals as goal

pub returns-clause-order : goal.returns-clause-order
returns-clause-order c = KeepsOrder-same c.args.m.now.line c.args.m.now.line refl
