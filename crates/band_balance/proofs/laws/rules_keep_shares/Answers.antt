use Rattle.std.specs.Str.{bytes_eq}
use Rattle.band_balance.proofs.Rules.{bytes_told, shares-act}
use Rattle.band_balance.proofs.laws.rules_keep_shares.Goals as goal

pub returns : goal.returns
returns c = shares-act bytes_eq bytes_told
