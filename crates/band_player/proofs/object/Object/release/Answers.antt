use Rattle.band_player.proofs.Visits.{releases_pay}
use Rattle.band_player.proofs.object.Object.release.Goals as goal

pub returns-clause-visits : goal.returns-clause-visits
returns-clause-visits g c =
    rw (← c.self.view_is, c.in-Semaphore.is) (releases_pay c.args.n c.release.result c.in-Semaphore.semaphore c.release.new.self c.release.ensures.ok c.release.ensures.err c.release.ensures.visits)
