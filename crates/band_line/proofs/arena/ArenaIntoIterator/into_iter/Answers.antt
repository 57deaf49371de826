use Rattle.band_line.proofs.arena.ArenaIntoIterator.into_iter.Goals as goal

pub returns : goal.returns
returns g c = record { into_iter_gives = rw (← c.self.view_is, ← c.self-inside.view_is) c.new.ensures }
