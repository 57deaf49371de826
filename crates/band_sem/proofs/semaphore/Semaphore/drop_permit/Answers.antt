use Rattle.std.proofs.Common.{ap₂, subst}
use Rattle.band_sem.specs.Semaphore.{IsLike, given_back}
use Rattle.band_sem.specs.Kept.Store.{state_of}
use Rattle.band_sem.proofs.Laws.{KeepsOrder-gives_back}
use Rattle.band_sem.proofs.Like.{StaysWhole-like}
use Rattle.band_sem.proofs.Lawful.{lawful_when_sound}
use Rattle.band_sem.proofs.Whole.{IsWhole-given_back}
use Rattle.band_sem.proofs.semaphore.Semaphore.drop_permit.Given.{Over}
use Rattle.band_sem.proofs.semaphore.Semaphore.drop_permit.Goals as goal

module _ (g : Over) (c : goal.After-lose g) where
  gives : IsLike (given_back c.args.p.count c.args.self.now) (state_of c.give_back.new.self)
  gives = subst (λ s. IsLike s (state_of c.give_back.new.self)) (ap₂ given_back c.permits.ensures c.self.view_is) c.give_back.ensures.state

pub returns-clause-order : goal.returns-clause-order
returns-clause-order g c = KeepsOrder-gives_back c.args.p.count c.args.self.now.line _ (gives g c).line

pub returns-clause-whole : goal.returns-clause-whole
returns-clause-whole g c =
    StaysWhole-like c.args.self.now _ _ (gives g c) (λ n is. IsWhole-given_back n c.args.self.now is c.args.p.count c.requires.held)

pub returns-clause-lawful : goal.returns-clause-lawful
returns-clause-lawful g c = lawful_when_sound _ c.give_back.ensures.sound

pub returns-clause-state : goal.returns-clause-state
returns-clause-state g c = gives g c
