use Rattle.band_phaser.proofs.Parties.{each_counted, batch_counted}
use Rattle.band_phaser.proofs.laws.each_is_counted.Goals as goal

pub returns : goal.returns
returns c = record { participant = each_counted; batch = batch_counted }
