use Rattle.std.proofs.Common.{◌≡◌, ◌+◌, ◌-◌, ℕ, Some, None, ap, sym, ◌∙◌, subst, arith}
use Rattle.band_line.specs.WaitList.{first_waiter}
use Rattle.band_partial.specs.PartialLine.{PartialLine}
use Rattle.band_row.specs.Row.{RowState, part, ended_of, Holds}
use Rattle.band_row.specs.Kept.Serves.{Serves, ServesNode}
use Rattle.band_row.specs.contracts.row.Row.{the_view}
use Rattle.band_row.proofs.Serving.{Served, grants, pays, gives, size_fits, first-linked}
use Rattle.band_row.proofs.row.Row.serve.Given.{Over}
use Rattle.band_row.proofs.row.Row.serve.Goals as goal

-- what is known of the row as callers see it, and of what is kept inside
module _ {old now : RowState} (is : old ≡ now) where
  first_in : {first : ℕ} → first_waiter now.list ≡ Some first → first_waiter old.list ≡ Some first
  first_in {first} front = subst (λ (row : RowState). first_waiter row.list ≡ Some first) (sym is) front

  holds_in : Holds 0 (part now) → Holds 0 (part old)
  holds_in holds = subst (λ (row : RowState). Holds 0 (part row)) (sym is) holds

  serves_out : {new : PartialLine} {before after : ℕ} → Serves (part old) new before after → Serves (part now) new before after
  serves_out {new} {before} {after} serves = subst (λ (row : RowState). Serves (part row) new before after) is serves

  same_ended : ended_of old.list ≡ ended_of now.list
  same_ended = ap (λ (row : RowState). ended_of row.list) is

pub serve_first-requires-clause-here : goal.serve_first-requires-clause-here
serve_first-requires-clause-here g c =
    c.self.invariant.row.list.here c.args.first (first-linked c.self.inside.list.linked c.args.first (first_in c.self.view_is c.requires.first))

module _ (g : Over) (c : goal.After-self-1 g) where
  left : ServesNode c.args.first c.self.inside.word c.self.inside.list None c.serve_first.new.list
  left = rw c.in_default.is at c.serve_first.ensures.serves

  one_visit : c.serve_first.new.steps ≡ c.args.steps.now + 1
  one_visit = rw c.in_default.is at c.serve_first.ensures.visits

  given_all : Served (the_view c.self.inside)
      (record { word = 0; list = c.serve_first.new.list; wakes = c.self.inside.counts.wakes.wakers }) c.self.inside.counts c.args.steps.now c.serve_first.new.steps
  given_all =
      gives c.self.invariant (first_in c.self.view_is c.requires.first) left.1 left.2 left.3 (holds_in c.self.view_is c.requires.holds) one_visit

pub invariant_of-self : goal.invariant_of-self
invariant_of-self g c = (given_all g c).kept

pub returns-in_default-clause-serves : goal.returns-in_default-clause-serves
returns-in_default-clause-serves g c = serves_out c.self.view_is (given_all g c).serves

pub returns-in_default-clause-holds : goal.returns-in_default-clause-holds
returns-in_default-clause-holds g c = (given_all g c).holds

pub returns-in_default-clause-ended : goal.returns-in_default-clause-ended
returns-in_default-clause-ended g c = (given_all g c).ended ∙ same_ended c.self.view_is

pub grant-requires-clause-fits : goal.grant-requires-clause-fits
grant-requires-clause-fits g c =
    let left = c.in-Some.ensures.serves in
    size_fits c.self.invariant (first_in c.self.view_is c.requires.first) left.0 left.2 left.1 c.in-Some-waker.is (holds_in c.self.view_is c.requires.holds)

module _ (g : Over) (c : goal.After-grant g) where
  granted : Served (the_view c.self.inside)
      (record { word = c.self.inside.word - c.in-Some.node.needed; list = c.serve_first.new.list; wakes = c.grant.new.self.wakes.wakers }) c.grant.new.self
      c.args.steps.now c.serve_first.new.steps
  granted =
      let left = c.in-Some.ensures.serves in
      let visits = c.in-Some.ensures.visits in
      rw c.grant.ensures
      (grants c.self.invariant (first_in c.self.view_is c.requires.first) left.0 left.2 left.1 c.in-Some-waker.is (holds_in c.self.view_is c.requires.holds)
      (omega (arith, visits.no_fewer)) (omega (arith, visits.no_more)))

pub invariant_of-self-in-Some-waker : goal.invariant_of-self-in-Some-waker
invariant_of-self-in-Some-waker g c = (granted g c).kept

pub returns-in-Some-waker-clause-serves : goal.returns-in-Some-waker-clause-serves
returns-in-Some-waker-clause-serves g c = serves_out c.self.view_is (granted g c).serves

pub returns-in-Some-waker-clause-holds : goal.returns-in-Some-waker-clause-holds
returns-in-Some-waker-clause-holds g c = (granted g c).holds

pub returns-in-Some-waker-clause-ended : goal.returns-in-Some-waker-clause-ended
returns-in-Some-waker-clause-ended g c = (granted g c).ended ∙ same_ended c.self.view_is

module _ (g : Over) (c : goal.After-remove_unlinked_waiter g) where
  paid : Served (the_view c.self.inside)
      (record { word = c.self.inside.word - c.in-Some.node.needed; list = c.remove_unlinked_waiter.new.self; wakes = c.self.inside.counts.wakes.wakers }) c.self.inside.counts
      c.args.steps.now c.remove_unlinked_waiter.new.steps
  paid =
      let left = c.in-Some.ensures.serves in
      let visits = c.in-Some.ensures.visits in
      let removed = c.remove_unlinked_waiter.ensures in
      pays c.self.invariant (first_in c.self.view_is c.requires.first) left.0 left.2 left.1 c.in-None.is
      (ap (λ list. list.linked) removed.state) removed.others removed.vacant removed.sound (holds_in c.self.view_is c.requires.holds)
      (omega (arith, visits.no_fewer, removed.visits)) (omega (arith, visits.no_more, removed.visits))

pub invariant_of-self-in-None : goal.invariant_of-self-in-None
invariant_of-self-in-None g c = (paid g c).kept

pub returns-in-None-clause-serves : goal.returns-in-None-clause-serves
returns-in-None-clause-serves g c = serves_out c.self.view_is (paid g c).serves

pub returns-in-None-clause-holds : goal.returns-in-None-clause-holds
returns-in-None-clause-holds g c = (paid g c).holds

pub returns-in-None-clause-ended : goal.returns-in-None-clause-ended
returns-in-None-clause-ended g c = (paid g c).ended ∙ same_ended c.self.view_is
