use Rattle.std.proofs.Common.{◌≡◌, false, sym, ◌∙◌}
use Rattle.band_balance.specs.Line.{is_served}
use Rattle.band_sem.specs.Semaphore.{joined}
use Rattle.band_sem.specs.Kept.Store.{state_of, line_in}
use Rattle.band_sem.proofs.Bridge.{Becomes, joins}
use Rattle.band_sem.proofs.store.Store.enter.Given.{Over}
use Rattle.band_sem.proofs.store.Store.enter.Goals as goal

module _ (g : Over) (c : goal.In_ok-slot g) where
  not_served : is_served c.args.size (line_in c.args.self.now) ≡ false
  not_served = sym c.serves.ensures ∙ c.if-serves.false

  after : Becomes (joined c.in_ok-slot.slot c.args.size c.args.waker.0 (state_of c.args.self.now)) (record c.args.self.now { row = c.enqueue.new.self })
  after =
      joins c.args.self.now c.requires c.enqueue.new.self c.in_ok-slot.ensures.row c.in_ok-slot.ensures.ended c.in_ok-slot.slot c.args.size c.args.waker.0 c.if-self.false not_served
      c.in_ok-slot.ensures.joins.1

pub returns-clause-enters : goal.returns-clause-enters
returns-clause-enters g c = (c.if-self.false, not_served g c, c.in_ok-slot.ensures.joins.0, (after g c).is)

pub returns-clause-sound : goal.returns-clause-sound
returns-clause-sound g c = (after g c).sound
