use Rattle.std.specs.Str.{bytes_eq}
use Rattle.band_balance.proofs.Rules.{bytes_told, nobody-act}
use Rattle.band_balance.proofs.laws.only_giving_back_and_closing_wake.Goals as goal

pub returns : goal.returns
returns c = nobody-act bytes_eq bytes_told
