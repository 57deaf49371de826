use Rattle.band_player.proofs.object.Object.new_mutex.Goals as goal

pub returns-clause-steady : goal.returns-clause-steady
returns-clause-steady c = (c.new.ensures.lawful, c.new.ensures.whole)
