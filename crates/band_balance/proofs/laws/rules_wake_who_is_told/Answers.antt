use Rattle.std.specs.Str.{bytes_eq}
use Rattle.band_balance.proofs.Rules.{bytes_told, woken-act}
use Rattle.band_balance.proofs.laws.rules_wake_who_is_told.Goals as goal

pub returns : goal.returns
returns c = woken-act bytes_eq bytes_told
