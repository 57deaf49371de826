use Rattle.band_phaser.proofs.Standing.{by-settling, by-closing}
use Rattle.band_phaser.proofs.laws.registrations_stand.Goals as goal

pub returns : goal.returns
returns c = record { settle = by-settling; close = by-closing }
