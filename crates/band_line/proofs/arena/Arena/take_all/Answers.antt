use Rattle.band_line.proofs.arena.Arena.take_all.Goals as goal

pub returns-clause-values : goal.returns-clause-values
returns-clause-values g c = rw (← c.self.view_is, ← c.replace-store.ensures.value, ← c.store.view_is) c.new-2.ensures
