use Rattle.std.specs.Str.{bytes_eq}
use Rattle.band_balance.proofs.Rules.{bytes_told, within-act}
use Rattle.band_balance.proofs.laws.rules_keep_bounds.Goals as goal

pub returns : goal.returns
returns c = within-act bytes_eq bytes_told
