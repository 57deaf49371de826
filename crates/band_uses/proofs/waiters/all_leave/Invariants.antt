use Rattle.std.proofs.Common.{◌+◌, ◌*◌, ◌≤◌, length}
use Rattle.band_uses.proofs.waiters.all_leave.Given as goal

abbrev pub invariant-loop : goal.invariant-loop
invariant-loop g l =
    let before = length l.fn.list.linked in
    let left = length l.list.linked in
    (l.fn.steps + 2 * before ≤ l.steps + 2 * left) × (l.steps + 4 * left ≤ l.fn.steps + 4 * before)

abbrev pub decreases-loop : goal.decreases-loop
decreases-loop g l = length l.list.linked
