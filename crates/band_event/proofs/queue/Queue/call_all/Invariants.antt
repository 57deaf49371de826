use Rattle.std.proofs.Common.{◌≡◌, ◌+◌, ◌*◌, ◌≤◌, length}
use Rattle.band_event.specs.Event.{all_called, StayHere}
use Rattle.band_event.proofs.queue.Queue.call_all.Given as goal

abbrev pub invariant-loop : goal.invariant-loop
invariant-loop g l = record {
  all : all_called l.self ≡ all_called l.fn.self;
  stay : StayHere l.fn.self l.self;
  no_fewer : l.fn.steps ≤ l.steps;
  no_more : l.steps + 3 * length l.self.line.linked ≤ l.fn.steps + 3 * length l.fn.self.line.linked;
}

abbrev pub decreases-loop : goal.decreases-loop
decreases-loop g l = length l.self.line.linked
