use Rattle.std.proofs.Common.{rules}
use Rattle.band_once.proofs.Lazy.{HoldsLazy-made}
use Rattle.band_once.proofs.lazy_cell.Force.go_on.Goals as goal

pub returns-in-Ok-Ready-clause-holds : goal.returns-in-Ok-Ready-clause-holds
returns-in-Ok-Ready-clause-holds g c =
    HoldsLazy-made _ g.P.Polled.moves c.args.waker.0 c.args.token c.args.cell.now c.attempt.new.self _ c.args.self.now c.in-Ok-Ready.field-0 (search rules)
    c.in-Ok-Ready.field-0-is c.in-Ok-Ready.ensures.attempts c.requires.taken (search rules) (search rules) (rw (← c.cell-2.view_is) c.pass-in-Ok-Ready.ensures.back)
