use Rattle.band_rules.proofs.Written.{for_readers}
use Rattle.band_rules.proofs.laws.locks_are_for_readers.Goals as goal

pub returns : goal.returns
returns c = for_readers
