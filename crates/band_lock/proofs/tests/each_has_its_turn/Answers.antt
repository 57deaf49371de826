-- proofs/tests/each_has_its_turn: who waits keeps its place through the calls for others
use Rattle.std.proofs.Common.{◌-◌, ap, subst, sym}
use Rattle.band_sem.specs.Semaphore.{IsOwn, SlotsDiffer}
use Rattle.band_sem.proofs.Own.{IsOwn-polls, IsOwn-given_back, IsOwn-wakes, SlotsDiffer-new, SlotsDiffer-back, IsOwn-asked}
use Rattle.band_lock.proofs.tests.each_has_its_turn.Goals as goal

pub poll_once-requires-4-clause-own : goal.poll_once-requires-4-clause-own
poll_once-requires-4-clause-own g c =
    let mine = c.poll_once-2.new.self in
    let joined = IsOwn-asked c.write-writer.result mine 2 c.poll_once.new.l.shares c.poll_once-2.new.l.shares c.poll_once-2.result (ap (λ r. r.stage) c.write-writer.ensures) c.poll_once-2.ensures.polls in
    let fresh = ap (λ r. r.stage) c.read-second.ensures in
    let both = IsOwn-polls mine c.poll_once-2.new.l.shares c.poll_once-3.new.l.shares joined c.read-second.result c.poll_once-3.new.self 3 c.poll_once-3.result
    (subst (SlotsDiffer mine.stage) (sym fresh) (SlotsDiffer-new mine.stage)) c.poll_once-3.ensures.polls in
    let tried : IsOwn mine.stage mine.size c.try_read.new.self.shares = rw (rw c.unserved.ensures at c.try_read.ensures.none) both.0 in
    let given = IsOwn-given_back mine c.try_read.new.self.shares c.drop_read.new.self.shares tried 1 c.drop_read.ensures.state.shares c.drop_read.ensures.lawful in
    let woken = IsOwn-wakes mine c.drop_read.new.self.shares c.take_wake.new.self.shares given c.take_wake.result c.take_wake.ensures.woken in
    IsOwn-wakes mine c.take_wake.new.self.shares c.take_wake-2.new.self.shares woken c.take_wake-2.result c.take_wake-2.ensures.woken

pub poll_once-requires-5-clause-own : goal.poll_once-requires-5-clause-own
poll_once-requires-5-clause-own g c =
    let writer = c.poll_once-2.new.self in
    let mine = c.poll_once-3.new.self in
    let writer_joined = IsOwn-asked c.write-writer.result writer 2 c.poll_once.new.l.shares c.poll_once-2.new.l.shares c.poll_once-2.result (ap (λ r. r.stage) c.write-writer.ensures) c.poll_once-2.ensures.polls in
    let fresh = ap (λ r. r.stage) c.read-second.ensures in
    let both = IsOwn-polls writer c.poll_once-2.new.l.shares c.poll_once-3.new.l.shares writer_joined c.read-second.result mine 3 c.poll_once-3.result
    (subst (SlotsDiffer writer.stage) (sym fresh) (SlotsDiffer-new writer.stage)) c.poll_once-3.ensures.polls in
    let joined = IsOwn-asked c.read-second.result mine 3 c.poll_once-2.new.l.shares c.poll_once-3.new.l.shares c.poll_once-3.result fresh c.poll_once-3.ensures.polls in
    let tried : IsOwn mine.stage mine.size c.try_read.new.self.shares = rw (rw c.unserved.ensures at c.try_read.ensures.none) joined in
    let given = IsOwn-given_back mine c.try_read.new.self.shares c.drop_read.new.self.shares tried 1 c.drop_read.ensures.state.shares c.drop_read.ensures.lawful in
    let woken = IsOwn-wakes mine c.drop_read.new.self.shares c.take_wake.new.self.shares given c.take_wake.result c.take_wake.ensures.woken in
    let none = IsOwn-wakes mine c.take_wake.new.self.shares c.take_wake-2.new.self.shares woken c.take_wake-2.result c.take_wake-2.ensures.woken in
    let written = IsOwn-polls mine c.take_wake-2.new.self.shares c.poll_once-4.new.l.shares none writer c.poll_once-4.new.self 4 c.poll_once-4.result (SlotsDiffer-back writer.stage mine.stage both.1) c.poll_once-4.ensures.polls in
    let lowered = IsOwn-given_back mine c.poll_once-4.new.l.shares c.downgrade-reads.new.self.shares written.0 (c.poll_once-4.new.l.max - 1) c.downgrade-reads.ensures.state.shares c.downgrade-reads.ensures.lawful in
    IsOwn-wakes mine c.downgrade-reads.new.self.shares c.take_wake-3.new.self.shares lowered c.take_wake-3.result c.take_wake-3.ensures.woken
