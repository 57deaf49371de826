use Rattle.band_rules.proofs.Written.{have_numbers}
use Rattle.band_rules.proofs.laws.numbers_fit.Goals as goal

pub returns : goal.returns
returns c = have_numbers
