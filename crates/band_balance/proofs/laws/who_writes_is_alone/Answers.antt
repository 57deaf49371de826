use Rattle.std.specs.Str.{bytes_eq}
use Rattle.band_balance.proofs.Shares.{exclusive}
use Rattle.band_balance.proofs.laws.who_writes_is_alone.Goals as goal

pub returns : goal.returns
returns c = λ object lets orderly has. exclusive bytes_eq object lets has orderly
