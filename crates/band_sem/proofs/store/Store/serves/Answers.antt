use Rattle.std.proofs.Common.{sym, ap, ◌∙◌, nat_le}
use Rattle.band_partial.proofs.Follows.{served-shown}
use Rattle.band_row.specs.Row.{part}
use Rattle.band_sem.proofs.store.Store.serves.Goals as goal

pub returns : goal.returns
returns c = ap (nat_le c.args.size) c.word.ensures.word ∙ sym (served-shown (part c.args.self.now.row) c.requires.settled c.args.size)
