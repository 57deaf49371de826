use Rattle.band_line.proofs.SoundArena.{sound_empty}
use Rattle.band_line.proofs.WaitListLemmas.{nobody_linked}
use Rattle.band_line.proofs.wait_list.WaitList.new.Goals as goal

pub returns-clause-sound : goal.returns-clause-sound
returns-clause-sound g c = nobody_linked

pub returns-clause-nodes : goal.returns-clause-nodes
returns-clause-nodes g c = sound_empty
