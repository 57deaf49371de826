use Rattle.std.proofs.Common.{◌≡◌, ◌+◌, ◌-◌, ◌≤◌, vec_len, vec_capacity}
use Rattle.std.specs.Fn.{CalledWithState}
use Rattle.band_objects.proofs.Retain.{Asking}
use Rattle.band_objects.proofs.store.PoolState.retain.Given as goal

abbrev pub invariant-loop : goal.invariant-loop
invariant-loop g l = record {
  callable : goal.F-IsAlwaysCallable g l.f;
  asking : Asking (CalledWithState g.F.FnMut) l.fn.f l.fn.self.idle l.f l.self.idle l.removed.items (l.count - l.counter);
  away : l.self.away ≡ l.fn.self.away;
  fits : vec_len l.removed + (l.count - l.counter) ≤ vec_capacity l.removed;
}
