use Rattle.std.proofs.Common.{sym}
use Rattle.band_line.proofs.tests.first_detaches.Goals as goal

pub returns : goal.returns
returns g c =
    let unlinked = rw c.in-Some.is at c.unlink_first_waiter.follows.holds c.in-Some.value.now in
    (unlinked c.in_ok-first.first (sym c.in_ok-first.ensures.first)).detached.here
