use Rattle.band_signal.proofs.Generations.{next-ends}
use Rattle.band_signal.proofs.Standing.{by-arrival, by-decrement, by-new-handle, by-drop}
use Rattle.band_signal.proofs.laws.registrations_stand.Goals as goal

pub returns : goal.returns
returns c = record {
  countdown = by-arrival;
  decrement = by-decrement;
  handle = by-new-handle;
  group = by-drop;
  barrier = next-ends;
}
