use Rattle.band_project.proofs.Itself.{passed_on}
use Rattle.band_project.proofs.whole.WholeProject.TheImpl.Goals as goal

pub get_mut-meets : goal.get_mut-meets
get_mut-meets g c = passed_on g.world.𝓛 g.row.T c.args.t _
