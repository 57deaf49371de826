use Rattle.band_line.proofs.tests.leaves.Goals as goal

pub remove_unlinked_waiter-requires : goal.remove_unlinked_waiter-requires
remove_unlinked_waiter-requires g c = (rw c.in-Some.is at c.unlink_waiter.follows.holds c.in-Some.value.now).detached
