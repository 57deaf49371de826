use Rattle.band_line.proofs.SoundArena.{sound_empty}
use Rattle.band_line.proofs.store.Store.new.Goals as goal

pub returns-clause-sound : goal.returns-clause-sound
returns-clause-sound g c = rw (c.new.ensures.items, c.new.ensures.capacity) sound_empty
