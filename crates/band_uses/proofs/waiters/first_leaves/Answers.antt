use Rattle.std.proofs.Common.{ap, sym, ◌∙◌, rules}
use Rattle.band_line.specs.WaitList.{first_value, IsUnlinked}
use Rattle.band_line.proofs.WaitListLemmas.{AnswersLeaving-same}
use Rattle.band_uses.proofs.waiters.first_leaves.Given.{Over}
use Rattle.band_uses.proofs.waiters.first_leaves.Goals as goal

pub remove_unlinked_waiter-requires : goal.remove_unlinked_waiter-requires
remove_unlinked_waiter-requires g c =
    let unlinked = rw c.in-Some.is at c.unlink_first_waiter.follows.holds c.in-Some.field-0.now in
    (unlinked c.in_ok-first.first (sym c.in_ok-first.ensures.first)).detached

module _ (g : Over) (c : goal.After-remove_unlinked_waiter g) where
  left : IsUnlinked c.in_ok-first.first c.in-Some.field-0.now c.args.list.now (c.unlink_first_waiter.follows.lender c.in-Some.field-0.now)
  left =
      let unlinked = rw c.in-Some.is at c.unlink_first_waiter.follows.holds c.in-Some.field-0.now in
      unlinked c.in_ok-first.first (sym c.in_ok-first.ensures.first)

pub returns-clause-value : goal.returns-clause-value
returns-clause-value g c =
    AnswersLeaving-same _ _ (first_value c.args.list.now) _ c.in-Some.field-0.now (λ shown after met. search rules) c.in-Some.ensures.left
    ∙ sym (left g c).value ∙ c.remove_unlinked_waiter.ensures.value

pub returns-clause-linked : goal.returns-clause-linked
returns-clause-linked g c = ap (λ list. list.linked) c.remove_unlinked_waiter.ensures.state ∙ (left g c).first (sym c.in_ok-first.ensures.first)
