use Rattle.std.proofs.Common.{◌≡◌, ◌+◌, ◌*◌, ◌≤◌, length}
use Rattle.band_condvar.specs.Condvar.{all_notified, AllStay}
use Rattle.band_condvar.proofs.queue.Queue.release_all.Given as goal

abbrev pub invariant-loop : goal.invariant-loop
invariant-loop g l = record {
  all : all_notified l.self ≡ all_notified l.fn.self;
  stay : AllStay l.fn.self l.self;
  no_fewer : l.fn.steps ≤ l.steps;
  no_more : l.steps + 3 * length l.self.line.linked ≤ l.fn.steps + 3 * length l.fn.self.line.linked;
}

abbrev pub decreases-loop : goal.decreases-loop
decreases-loop g l = length l.self.line.linked
