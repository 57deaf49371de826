use Rattle.std.proofs.Common.{◌≡◌, ℕ, List, Bool, ap, sym, ◌∙◌, rules}
use Rattle.std.specs.Prelude.{◌==◌}
use Rattle.std.specs.List.{list_any}
use Rattle.band_line.specs.WaitList.{waiter_at, IsUnlinked}
use Rattle.band_line.proofs.WaitListLemmas.{AnswersLeaving-same}
use Rattle.band_row.proofs.row.leave.Given.{Over}
use Rattle.band_row.proofs.row.leave.Goals as goal

pub remove_unlinked_waiter-requires : goal.remove_unlinked_waiter-requires
remove_unlinked_waiter-requires g c = (rw c.in-Some.is at c.unlink_waiter.follows.holds c.in-Some.field-0.now).detached

module _ (g : Over) (c : goal.After-remove_unlinked_waiter g) where
  left : IsUnlinked c.args.id c.in-Some.field-0.now c.args.list.now (c.unlink_waiter.follows.lender c.in-Some.field-0.now)
  left = rw c.in-Some.is at c.unlink_waiter.follows.holds c.in-Some.field-0.now

pub returns-clause-value : goal.returns-clause-value
returns-clause-value g c =
    AnswersLeaving-same _ _ (waiter_at c.args.id c.args.list.now) _ c.in-Some.field-0.now (λ shown after met. search rules) c.in-Some.ensures.left
    ∙ sym (left g c).value ∙ c.remove_unlinked_waiter.ensures.value

pub returns-clause-gone : goal.returns-clause-gone
returns-clause-gone g c = record {
  vacant = c.remove_unlinked_waiter.ensures.vacant;
  others = λ other differs. c.remove_unlinked_waiter.ensures.others other differs ∙ (left g c).others other differs;
  linked = links ∙ ap (λ list. list.linked) (left g c).state;
  links = λ other differs. ap (is_in other) links ∙ (left g c).linked other differs;
  already = λ off. links ∙ (left g c).already off;
  sound = c.remove_unlinked_waiter.ensures.sound;
}
  where
    is_in : ℕ → List ℕ → Bool
    is_in other slots = list_any (λ slot. slot == other) slots

    links : c.remove_unlinked_waiter.new.self.linked ≡ (c.unlink_waiter.follows.lender c.in-Some.field-0.now).linked
    links = ap (λ list. list.linked) c.remove_unlinked_waiter.ensures.state
