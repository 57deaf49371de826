use Rattle.std.specs.Str.{bytes_eq}
use Rattle.band_balance.proofs.Rules.{bytes_told, closed-act}
use Rattle.band_balance.proofs.laws.closing_is_for_good.Goals as goal

pub returns : goal.returns
returns c = closed-act bytes_eq bytes_told
