use Rattle.band_phaser.proofs.Parties.{counts-once}
use Rattle.band_phaser.proofs.laws.arrivals_count_once.Goals as goal

pub returns : goal.returns
returns c = record { again = counts-once }
