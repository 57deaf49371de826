use Rattle.std.proofs.Common.{◌+◌, ap, sym, ◌∙◌, rules}
use Rattle.band_line.specs.WaitList.{waiter_at, IsUnlinked}
use Rattle.band_line.proofs.WaitListLemmas.{AnswersLeaving-same}
use Rattle.band_uses.proofs.waiters.leaves.Given.{Over}
use Rattle.band_uses.proofs.waiters.leaves.Goals as goal

pub remove_unlinked_waiter-requires : goal.remove_unlinked_waiter-requires
remove_unlinked_waiter-requires g c = (rw c.in-Some.is at c.unlink_waiter.follows.holds c.in-Some.field-0.now).detached

module _ (g : Over) (c : goal.After-remove_unlinked_waiter g) where
  left : IsUnlinked c.args.id c.in-Some.field-0.now c.args.list.now (c.unlink_waiter.follows.lender c.in-Some.field-0.now)
  left = rw c.in-Some.is at c.unlink_waiter.follows.holds c.in-Some.field-0.now

pub returns-clause-value : goal.returns-clause-value
returns-clause-value g c =
    AnswersLeaving-same _ _ (waiter_at c.args.id c.args.list.now) _ c.in-Some.field-0.now (λ shown after met. search rules) c.in-Some.ensures.left
    ∙ sym (left g c).value ∙ c.remove_unlinked_waiter.ensures.value

pub returns-clause-linked : goal.returns-clause-linked
returns-clause-linked g c = ap (λ list. list.linked) c.remove_unlinked_waiter.ensures.state ∙ ap (λ list. list.linked) (left g c).state

pub returns-clause-others : goal.returns-clause-others
returns-clause-others g c other differs = c.remove_unlinked_waiter.ensures.others other differs ∙ (left g c).others other differs

pub returns-clause-room : goal.returns-clause-room
returns-clause-room g c = ap (λ list. list.nodes.spare) c.remove_unlinked_waiter.ensures.state ∙ ap (λ n. n + 1) (left g c).spare
