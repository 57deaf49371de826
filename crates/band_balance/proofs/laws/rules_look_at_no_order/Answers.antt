use Rattle.std.specs.Str.{bytes_eq}
use Rattle.band_balance.proofs.Alike.{act-alike}
use Rattle.band_balance.proofs.Rules.{bytes_told}
use Rattle.band_balance.proofs.laws.rules_look_at_no_order.Goals as goal

pub returns : goal.returns
returns c = act-alike bytes_eq bytes_told
