use Rattle.std.proofs.Common.{Ok, rules}
use Rattle.band_once.specs.declared.call.Asked.TheVariants.{Holds}
use Rattle.band_once.proofs.lazy_cell.Force.poll.Goals as goal

pub returns-in-Ok-Holds-clause-polls : goal.returns-in-Ok-Holds-clause-polls
returns-in-Ok-Holds-clause-polls g c =
    rw (← c.cell.view_is) (Ok (Holds c.in-Ok-Holds.token tt), c.ask.new.self, c.ask.new.permit, search rules, c.go_on.ensures.holds)
