use Rattle.std.proofs.Common.{sym, ◌∙◌}
use Rattle.band_partial.proofs.Follows.{available-shown}
use Rattle.band_row.specs.Row.{part}
use Rattle.band_sem.proofs.store.Store.available.Goals as goal

pub returns : goal.returns
returns c = c.word.ensures.word ∙ sym (available-shown (part c.args.self.now.row) c.requires.settled)
