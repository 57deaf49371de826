use Rattle.std.specs.Str.{bytes_eq}
use Rattle.band_balance.proofs.Rules.{bytes_told, front-act}
use Rattle.band_balance.proofs.laws.rules_grant_a_front.Goals as goal

pub returns : goal.returns
returns c = front-act bytes_eq bytes_told
