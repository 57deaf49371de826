use Rattle.std.proofs.Common.{◌≡◌, ◌<◌, ◌≤◌, ◌+◌, ◌-◌, ℕ, Some, ap, ◌∙◌, sym, subst, arith}
use Rattle.band_line.specs.WaitList.{first_waiter}
use Rattle.band_row.specs.Row.{RowState}
use Rattle.band_row.specs.Kept.Serves.{EndsFirst}
use Rattle.band_row.specs.contracts.row.Row.{the_view}
use Rattle.band_row.proofs.Closing.{EndsOne, calls_one, drops_one}
use Rattle.band_row.proofs.Serving.{first-linked}
use Rattle.band_row.proofs.row.Row.end_first.Given.{Over}
use Rattle.band_row.proofs.row.Row.end_first.Goals as goal

-- what is known of the row as callers see it, and of what is kept inside
module _ {old now : RowState} (is : old ≡ now) where
  first_in : {first : ℕ} → first_waiter now.list ≡ Some first → first_waiter old.list ≡ Some first
  first_in {first} front = subst (λ (row : RowState). first_waiter row.list ≡ Some first) (sym is) front

  ends_out : {new : RowState} {before after : ℕ} → EndsFirst old new before after → EndsFirst now new before after
  ends_out {new} {before} {after} ends = subst (λ (row : RowState). EndsFirst row new before after) is ends

pub end-node-requires-clause-here : goal.end-node-requires-clause-here
end-node-requires-clause-here g c = c.self.invariant.row.list.here c.args.first (first-linked c.self.inside.list.linked c.args.first (first_in c.self.view_is c.requires))

module _ (g : Over) (c : goal.After-call g) where
  called : EndsOne (the_view c.self.inside) (record { word = c.self.inside.word; list = c.end-node.new.list; wakes = c.call.new.self.wakes.wakers }) c.call.new.self
      c.args.steps.now c.end-node.new.steps
  called =
      let ends = c.end-node.ensures.ends in
      let visits = c.end-node.ensures.visits in
      rw c.call.ensures
      (calls_one c.self.invariant (first_in c.self.view_is c.requires) ends.0 ends.1 c.in-Some.is (omega (arith, visits.no_fewer)) (omega (arith, visits.no_more)))

pub invariant_of-self : goal.invariant_of-self
invariant_of-self g c = (called g c).kept

pub returns-in-Some-clause-ends : goal.returns-in-Some-clause-ends
returns-in-Some-clause-ends g c = ends_out c.self.view_is (called g c).ends

pub returns-in-Some-clause-row : goal.returns-in-Some-clause-row
returns-in-Some-clause-row g c = (called g c).kept.row

module _ (g : Over) (c : goal.After-remove_unlinked_waiter g) where
  dropped : EndsOne (the_view c.self.inside) (record { word = c.self.inside.word; list = c.remove_unlinked_waiter.new.self; wakes = c.self.inside.counts.wakes.wakers }) c.self.inside.counts
      c.args.steps.now c.remove_unlinked_waiter.new.steps
  dropped =
      let ends = c.end-node.ensures.ends in
      let visits = c.end-node.ensures.visits in
      let removed = c.remove_unlinked_waiter.ensures in
      drops_one c.self.invariant (first_in c.self.view_is c.requires) ends.0 ends.1 c.in-None.is
      (ap (λ list. list.linked) removed.state) removed.others removed.vacant removed.sound (ap (λ list. list.nodes.spare) removed.state)
      (omega (arith, visits.no_fewer, removed.visits)) (omega (arith, visits.no_more, removed.visits))

pub invariant_of-self-in-None : goal.invariant_of-self-in-None
invariant_of-self-in-None g c = (dropped g c).kept

pub returns-in-None-clause-ends : goal.returns-in-None-clause-ends
returns-in-None-clause-ends g c = ends_out c.self.view_is (dropped g c).ends

pub returns-in-None-clause-row : goal.returns-in-None-clause-row
returns-in-None-clause-row g c = (dropped g c).kept.row
