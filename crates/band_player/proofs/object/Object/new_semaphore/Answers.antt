use Rattle.band_player.proofs.object.Object.new_semaphore.Goals as goal

pub returns-clause-steady : goal.returns-clause-steady
returns-clause-steady c = (c.new.ensures.lawful, tt)
