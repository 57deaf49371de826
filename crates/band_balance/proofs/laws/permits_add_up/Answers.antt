use Rattle.std.specs.Str.{bytes_eq}
use Rattle.band_balance.proofs.Rules.{bytes_told, adds_up-act}
use Rattle.band_balance.proofs.laws.permits_add_up.Goals as goal

pub returns : goal.returns
returns c = adds_up-act bytes_eq bytes_told
