use Rattle.std.proofs.Common.{◌≤◌, length}
use Rattle.band_base.proofs.Devices.{AppendsUpTo}
use Rattle.band_base.proofs.sink.write_all.Given as goal

abbrev pub invariant-loop-rest : goal.invariant-loop-rest
invariant-loop-rest g l = record {
  appended : AppendsUpTo l.text l.rest (g.D.Sink.written l.initial.sink) (g.D.Sink.written l.sink);
  never_fall : g.D.Sink.faults l.initial.sink ≤ g.D.Sink.faults l.sink;
}

abbrev pub decreases-loop-rest : goal.decreases-loop-rest
decreases-loop-rest g l = length l.rest
