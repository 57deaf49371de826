use Rattle.std.proofs.Common.{◌≡◌, ◌<◌, ◌≤◌, ◌+◌, ◌*◌, List, [], ◌∷◌, length, ℕ, ℤ, Bool, false, pos, neg_ℤ, ◌-ℤ◌, ◌<ℤ◌, ◌≤ℤ◌, inl, inr, refl, ap, sym, ◌∙◌, subst, arith}
use Rattle.std.specs.Prelude.{◌==◌}
use Rattle.std.proofs.lemmas.Bool.{cond-false}
use Rattle.std.proofs.lemmas.Bool.Decides.{nat_tests}
use Rattle.std.proofs.lemmas.Int.{ints}
use Rattle.band_line.specs.Visits.{Visits}
use Rattle.band_partial.specs.PartialLine.{Node, PartialLine, IsSettled, debt, free_of, requests_of}
use Rattle.band_partial.specs.Moves.{rest_of_debts}
use Rattle.band_row.specs.Row.{RowState, EndsAll, part, ended_of, linked_nodes, served}
use Rattle.band_row.specs.Kept.Serves.{EndsFirst}
use Rattle.band_row.specs.contracts.row.Row.{the_view}
use Rattle.band_row.specs.declared.wait_node.WaitNode.{WaitNode}
use Rattle.band_row.proofs.Closing.{ends_all, ends_visits, ends_visits_owing, room_for_debt, left_of}
use Rattle.band_row.proofs.Moving.{Becomes, kept, owing}
use Rattle.band_row.proofs.row.Row.close.Given.{Over}
use Rattle.band_row.proofs.row.Row.close.Goals as goal

-- what is known of the row as it was left is known of what is kept inside
ends_in : {old inside mid : RowState} {before after : ℕ} → inside ≡ mid → EndsFirst old mid before after → EndsFirst old inside before after
ends_in {old} {inside} {mid} {before} {after} is ends = subst (λ (row : RowState). EndsFirst old row before after) (sym is) ends

none_in : {inside mid : RowState} → inside ≡ mid → linked_nodes mid.list ≡ [] → linked_nodes inside.list ≡ []
none_in is none = ap (λ (row : RowState). linked_nodes row.list) is ∙ none

pub returns-then-free-ge0-clause-visits : goal.returns-then-free-ge0-clause-visits
returns-then-free-ge0-clause-visits g c =
    ends_visits (ends_in c.self.view_is c.end_linked.ensures.ends) (none_in c.self.view_is c.end_linked.ensures.none) 0 c.unsigned_abs-amount.result
    (record (the_view c.self.inside) { word = c.unsigned_abs-amount.result })
    (λ i. record { word = c.unsigned_abs-amount.result; nodes = none_in c.self.view_is c.end_linked.ensures.none i; granted = (part (the_view c.self.inside)).granted; wakes = c.self.inside.counts.wakes.wakers })

pub push_front-requires : goal.push_front-requires
push_front-requires g c =
    let is : pos 0 -ℤ pos c.unsigned_abs-amount.result ≡ c.args.free = search (arith, ints) in
    let some : 0 < c.unsigned_abs-amount.result = search (arith, ints) in
    room_for_debt (ends_in c.self.view_is c.end_linked.ensures.ends) (none_in c.self.view_is c.end_linked.ensures.none) c.unsigned_abs-amount.result (is ∙ c.requires.free) some

module _ (g : Over) (c : goal.After-push_front g) where
  abbrev mid : RowState
  mid = the_view c.self.inside

  abbrev last : RowState
  last = record { word = 0; list = c.push_front.new.self; wakes = mid.wakes }

  some : 0 < c.unsigned_abs-amount.result
  some = search (arith, ints)

  is : pos 0 -ℤ pos c.unsigned_abs-amount.result ≡ free_of c.args.self.now.word (part c.args.self.now).nodes
  is = (let owes : pos 0 -ℤ pos c.unsigned_abs-amount.result ≡ c.args.free = search (arith, ints) in owes) ∙ c.requires.free

  becomes : Becomes last (record (part mid) { word = 0; nodes = debt c.push_front.result c.unsigned_abs-amount.result c.unsigned_abs-amount.result ∷ [] }) (ended_of mid.list)
  becomes =
      owing {spare = mid.list.nodes.spare} c.self.invariant.row refl
      (record {
        vacant = c.push_front.ensures.vacant;
        here = c.push_front.ensures.here;
        others = c.push_front.ensures.others;
        keeps = c.push_front.ensures.keeps;
        joins = c.push_front.ensures.joins;
        sound = c.push_front.ensures.sound;
      })
      (subst (λ (node : WaitNode). 0 < node.needed) (sym c.debt.ensures) some) (ap (λ (node : WaitNode). node.ended) c.debt.ensures)
      c.unsigned_abs-amount.result (ap (λ l. l.linked) c.push_front.ensures.state ∙ ap (λ slot. slot ∷ c.self.inside.list.linked) (sym c.push_front.ensures.slot))
      c.debt.ensures (none_in c.self.view_is c.end_linked.ensures.none)

  left : part last ≡ left_of mid c.push_front.result 0 c.unsigned_abs-amount.result
  left =
      becomes.is
      ∙ ap (λ (nodes : List Node). record (part mid) { word = 0; nodes = nodes })
      (sym (cond-false (c.unsigned_abs-amount.result == 0) _ _ (let more : (c.unsigned_abs-amount.result == 0) ≡ false = (let n = some in grind (arith, nat_tests)) in more)))

pub invariant_of-self-2 : goal.invariant_of-self-2
invariant_of-self-2 g c =
    kept (becomes g c) (record {
      waiting = c.self.invariant.waiting ∙ ap (λ (nodes : List Node). length (requests_of nodes)) (none_in c.self.view_is c.end_linked.ensures.none);
      granted = c.self.invariant.granted;
      room = c.self.invariant.room;
    })

pub returns-clause-ends : goal.returns-clause-ends
returns-clause-ends g c =
    ends_all (ends_in c.self.view_is c.end_linked.ensures.ends) (none_in c.self.view_is c.end_linked.ensures.none) c.push_front.result 0 c.unsigned_abs-amount.result _ (is g c) (inl refl)
    (left g c) (becomes g c).ended

pub returns-clause-settled : goal.returns-clause-settled
returns-clause-settled g c = record { in_order = (becomes g c).row.in_order; given_out = λ some. absurd (omega (arith, some)) }

pub returns-clause-row : goal.returns-clause-row
returns-clause-row g c = (becomes g c).row

pub returns-clause-visits : goal.returns-clause-visits
returns-clause-visits g c =
    let visits = c.push_front.ensures.visits in
    ends_visits_owing (ends_in c.self.view_is c.end_linked.ensures.ends) (none_in c.self.view_is c.end_linked.ensures.none) c.push_front.result c.unsigned_abs-amount.result (last g c)
    c.push_front.new.steps (left g c) (is g c) (some g c) (omega (arith, visits.no_fewer)) (omega (arith, visits.no_more))
