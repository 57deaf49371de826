use Rattle.band_signal.proofs.Standing.{stays-zero}
use Rattle.band_signal.proofs.laws.zero_stays.Goals as goal

pub returns : goal.returns
returns c = record {
  countdown = λ n old. stays-zero n old.count;
  decrement = λ n old. stays-zero n old.count;
  group = λ old. stays-zero 1 old.handles;
}
