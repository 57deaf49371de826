use Rattle.band_player.proofs.object.Object.new_reader_writer.Goals as goal

pub returns-clause-steady : goal.returns-clause-steady
returns-clause-steady c = (c.with_max_readers-lock.ensures.lawful, c.with_max_readers-lock.ensures.whole)
