use Rattle.std.proofs.Common.{ap, subst}
use Rattle.band_sem.specs.Semaphore.{IsLike, IsLawful, without_request}
use Rattle.band_sem.specs.Kept.Store.{state_of}
use Rattle.band_sem.proofs.Laws.{KeepsOrder-cancels, LeavesOthers-cancels}
use Rattle.band_sem.proofs.Like.{StaysWhole-like}
use Rattle.band_sem.proofs.Lawful.{lawful_when_sound}
use Rattle.band_sem.proofs.Whole.{IsWhole-without_request}
use Rattle.band_sem.proofs.semaphore.Semaphore.cancel.Given.{Over}
use Rattle.band_sem.proofs.semaphore.Semaphore.cancel.Goals as goal

module _ (g : Over) (c : goal.After-cancel g) where
  ends : IsLike (without_request c.args.slot c.args.self.now) (state_of c.cancel.new.self)
  ends = subst (λ s. IsLike s (state_of c.cancel.new.self)) (ap (without_request c.args.slot) c.self.view_is) c.cancel.ensures.state

  lawful : IsLawful c.args.self.now
  lawful = subst IsLawful c.self.view_is (lawful_when_sound c.self.inside.store c.self.invariant)

pub returns-clause-order : goal.returns-clause-order
returns-clause-order g c = KeepsOrder-cancels c.args.slot c.args.self.now.line _ (ends g c).line

pub returns-clause-others : goal.returns-clause-others
returns-clause-others g c = LeavesOthers-cancels c.args.slot c.args.self.now _ (lawful g c) (ends g c)

pub returns-clause-lawful : goal.returns-clause-lawful
returns-clause-lawful g c = lawful_when_sound _ c.cancel.ensures.sound

pub returns-clause-state : goal.returns-clause-state
returns-clause-state g c = ends g c

pub returns-clause-whole : goal.returns-clause-whole
returns-clause-whole g c =
    StaysWhole-like c.args.self.now _ _ (ends g c) (λ n is. IsWhole-without_request n c.args.self.now is c.args.slot)
