use Rattle.band_sem.proofs.Requests.{KeepsOwn-releases}
use Rattle.band_sem.proofs.callers.releases.Goals as goal

pub returns : goal.returns
returns g c = KeepsOwn-releases c.args.sem.now c.release.new.self c.args.n c.release.result c.release.ensures.ok c.release.ensures.err c.release.ensures.lawful
