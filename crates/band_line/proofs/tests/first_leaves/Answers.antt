use Rattle.std.proofs.Common.{sym}
use Rattle.band_line.proofs.tests.first_leaves.Goals as goal

pub remove_unlinked_waiter-requires : goal.remove_unlinked_waiter-requires
remove_unlinked_waiter-requires g c =
    let unlinked = rw c.in-Some.is at c.unlink_first_waiter.follows.holds c.in-Some.field-0.now in
    (unlinked c.in_ok-first.first (sym c.in_ok-first.ensures.first)).detached
