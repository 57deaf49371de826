use Rattle.band_sem.proofs.Own.{IsOwn-polled}
use Rattle.band_sem.proofs.Held.{KeepsHeld-polls, KeepsHeld-cancels, KeepsHeld-wakes, KeepsHeld-then}
use Rattle.band_uses.proofs.places.another_gives_up.Goals as goal

pub cancel-requires-clause-own : goal.cancel-requires-clause-own
cancel-requires-clause-own g c =
    IsOwn-polled c.args.other c.poll_once.new.self 0 c.args.sem.now c.poll_once.new.sem c.poll_once.result c.requires.own c.poll_once.ensures.polls

pub returns : goal.returns
returns g c =
    let polled = KeepsHeld-polls c.args.sem.now c.poll_once.new.sem c.args.other c.poll_once.new.self 0 c.poll_once.result c.poll_once.ensures.polls in
    let cancelled = KeepsHeld-cancels c.poll_once.new.sem c.cancel.new.sem c.poll_once.new.self.stage c.cancel.ensures.state in
    let woken = KeepsHeld-wakes c.cancel.new.sem c.take_wake.new.self c.take_wake.result c.take_wake.ensures.woken in
    let kept = KeepsHeld-then _ _ _ (KeepsHeld-then _ _ _ polled cancelled) woken in
    record { number = kept.number; held = kept.held }
