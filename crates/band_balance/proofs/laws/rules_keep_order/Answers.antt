use Rattle.std.specs.Str.{bytes_eq}
use Rattle.band_balance.proofs.Rules.{bytes_told, orderly-act}
use Rattle.band_balance.proofs.laws.rules_keep_order.Goals as goal

pub returns : goal.returns
returns c = orderly-act bytes_eq bytes_told
