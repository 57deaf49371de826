use Rattle.band_signal.proofs.Generations.{rises, rise_in_all, leads-last}
use Rattle.band_signal.proofs.laws.generations_have_one_leader.Goals as goal

pub returns : goal.returns
returns c = record { each = rises; all = rise_in_all; arrival = leads-last }
