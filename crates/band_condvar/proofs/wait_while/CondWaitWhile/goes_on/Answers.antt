use Rattle.std.proofs.Common.{subst}
use Rattle.band_condvar.specs.Waits.{Answers, test}
use Rattle.band_condvar.proofs.While.{called-at}
use Rattle.band_condvar.proofs.wait_while.CondWaitWhile.goes_on.Goals as goal

pub returns-clause-answers : goal.returns-clause-answers
returns-clause-answers g c =
    subst (λ self. Answers g.F.FnMut (test self.condition c.args.value.now) c.call_mut.result (test c.call_mut.new.self c.call_mut.new.arg2)) c.self.view_is
    (called-at g.F.FnMut c.call_mut.ensures)
