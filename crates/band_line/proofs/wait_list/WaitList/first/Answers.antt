use Rattle.band_line.proofs.WaitListLemmas.{nobody_linked}
use Rattle.band_line.proofs.wait_list.WaitList.first.Goals as goal

pub returns-in-None-clause-sound : goal.returns-in-None-clause-sound
returns-in-None-clause-sound g c = rw (← c.self.view_is, c.in-None.is) nobody_linked
