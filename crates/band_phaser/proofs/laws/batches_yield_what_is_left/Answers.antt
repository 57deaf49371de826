use Rattle.band_phaser.proofs.Parties.{yields_all, yields-each}
use Rattle.band_phaser.proofs.laws.batches_yield_what_is_left.Goals as goal

pub returns : goal.returns
returns c = record { left = yields_all; none = λ first last h. h; all = yields-each }
