use Rattle.std.proofs.Common.{◌≡◌, ℕ, ◌+◌, ◌≤◌, arith}
use Rattle.band_balance.specs.Line.{total, without, u64_max}
use Rattle.band_balance.proofs.Settle.{total-without}
use Rattle.band_row.specs.Row.{is_slot, part}
use Rattle.band_sem.specs.Semaphore.{received, with_waker, told}
use Rattle.band_sem.specs.Kept.Store.{state_of}
use Rattle.band_sem.proofs.Bridge.{Becomes, hears, leaves_waker, receives}
use Rattle.band_sem.proofs.store.Store.poll.Given.{Over}
use Rattle.band_sem.proofs.store.Store.poll.Goals as goal

-- what was granted can be held
fits : (size others granted held : ℕ) → size + others ≡ granted → granted + held ≤ u64_max → held + size ≤ u64_max
fits size others granted held sum h = omega arith

pub overflow_add-self : goal.overflow_add-self
overflow_add-self g c =
    let old = part c.args.self.now.row in
    let there = c.in-Granted.ensures.polls in
    let more : c.args.self.now.held + c.in-Granted.size ≤ u64_max =
    fits c.in-Granted.size (total (without (is_slot c.args.slot) old.granted)) (total old.granted) c.args.self.now.held
    (total-without (is_slot c.args.slot) old.granted _ there.1) c.requires.sound.fit.in_hand in
    search (arith)

module _ (g : Over) (c : goal.After-self-1 g) where
  ready : Becomes (received c.args.slot c.in-Granted.size (state_of c.args.self.now)) (record c.args.self.now { held = c.args.self.now.held + c.in-Granted.size; row = c.poll.new.self })
  ready =
      let polls = c.in-Granted.ensures.polls in
      receives c.args.self.now c.requires.sound c.poll.new.self c.in-Granted.ensures.row polls.3 c.args.slot c.in-Granted.size
      polls.1 polls.2

pub returns-in-Granted-clause-polls : goal.returns-in-Granted-clause-polls
returns-in-Granted-clause-polls g c = (c.in-Granted.ensures.polls.0, c.in-Granted.ensures.polls.1, (ready g c).is)

pub returns-in-Granted-clause-sound : goal.returns-in-Granted-clause-sound
returns-in-Granted-clause-sound g c = (ready g c).sound

module _ (g : Over) (c : goal.In-Waits g) where
  waits : Becomes (with_waker c.args.slot c.args.waker.0 (state_of c.args.self.now)) (record c.args.self.now { row = c.poll.new.self })
  waits =
      let polls = c.in-Waits.ensures.polls in
      leaves_waker c.args.self.now c.requires.sound c.poll.new.self c.in-Waits.ensures.row polls.3 c.args.slot c.args.waker.0 polls.2

pub returns-in-Waits-clause-polls : goal.returns-in-Waits-clause-polls
returns-in-Waits-clause-polls g c = (c.in-Waits.ensures.polls.0, c.in-Waits.ensures.polls.1, (waits g c).is)

pub returns-in-Waits-clause-sound : goal.returns-in-Waits-clause-sound
returns-in-Waits-clause-sound g c = (waits g c).sound

module _ (g : Over) (c : goal.In-Ended g) where
  heard : Becomes (told c.args.slot (state_of c.args.self.now)) (record c.args.self.now { row = c.poll.new.self })
  heard = hears c.args.self.now c.requires.sound c.poll.new.self c.in-Ended.ensures.row c.args.slot c.in-Ended.ensures.polls.1

pub returns-in-Ended-clause-polls : goal.returns-in-Ended-clause-polls
returns-in-Ended-clause-polls g c = (c.in-Ended.ensures.polls.0, (heard g c).is)

pub returns-in-Ended-clause-sound : goal.returns-in-Ended-clause-sound
returns-in-Ended-clause-sound g c = (heard g c).sound
