use Rattle.band_player.proofs.Visits.{reduces_pay}
use Rattle.band_player.proofs.object.Object.reduce.Goals as goal

pub returns-clause-visits : goal.returns-clause-visits
returns-clause-visits g c =
    rw (← c.self.view_is, c.in-Semaphore.is)
    (reduces_pay c.args.n c.reduce_permits.result c.in-Semaphore.semaphore c.reduce_permits.new.self c.reduce_permits.ensures.ok c.reduce_permits.ensures.err c.reduce_permits.ensures.visits)
