use Rattle.std.proofs.Common.{◌≡◌, ◌≢◌, ◌≤◌, ◌+◌, ◌-◌, ℕ, List, ap, sym, ◌∙◌, subst, Some, None, Bool, true, false, is_some, IsSome, arith}
use Rattle.std.specs.Prelude.{◌==◌, unwrap_or}
use Rattle.std.specs.List.{list_any}
use Rattle.band_balance.specs.Line.{Entry, entry_named, without}
use Rattle.band_base.specs.declared.waker.Waker.{Waker}
use Rattle.band_line.specs.Arena.{KeepsOthers}
use Rattle.band_line.specs.WaitList.{WaitListState, IsWaitList, IsWritten, IsDetached, waiter_at, is_linked, with_waiter}
use Rattle.band_partial.specs.Moves.{collect, leave_new_waker}
use Rattle.band_row.specs.Kept.Counts.{CountsState, IsKept}
use Rattle.band_row.specs.Row.{HasRequest, RowState, part, ended_of, is_slot}
use Rattle.band_row.specs.declared.wait_node.WaitNode.{WaitNode}
use Rattle.band_row.proofs.Linked.{request-here, request-stands, Stands, StandsGranted, StandsWaiting, StandsEnded}
use Rattle.band_row.proofs.Moving.{Becomes, ChangesAt, row_in, kept, counts, collected, collected-counts, told, had-granted, new_waker, new_waker-counts, waiting_by, granted_by, ended_by, detached_by, woken-as}
use Rattle.band_row.proofs.Serving.{written-sound}
use Rattle.band_row.proofs.row.Row.poll.Given.{Over}
use Rattle.band_row.proofs.row.Row.poll.Goals as goal

-- what is asked of a view is asked of the fields
asked_in : (id : ℕ) {inside now : RowState} → inside ≡ now → HasRequest id now → HasRequest id inside
asked_in id same here = subst (HasRequest id) (sym same) here

no_more : (size rest sum : ℕ) → size + rest ≡ sum → size ≤ sum
no_more size rest sum e = omega arith

pub waiter_mut-requires : goal.waiter_mut-requires
waiter_mut-requires g c = request-here _ c.self.invariant.row c.args.id (asked_in c.args.id c.self.view_is c.requires.here)

-- one that waits has the new waker
module _ (g : Over) (c : goal.Then-leaves_waker g) where
  abbrev old : RowState
  old = row_in c.self.inside.word c.self.inside.list c.self.inside.counts

  stands : StandsWaiting old c.args.id c.waiter_mut.result.now
  stands =
      waiting_by c.leaves_waker.ensures.waits (request-stands old c.self.invariant.row c.args.id c.waiter_mut.ensures.value (asked_in c.args.id c.self.view_is c.requires.here))
      c.if-leaves_waker.true

  becomes : Becomes (row_in c.self.inside.word (with_waiter c.args.id c.leaves_waker.new.self c.self.inside.list) c.self.inside.counts)
      (leave_new_waker (is_slot c.args.id) c.args.waker.0 (part old)) (ended_of c.self.inside.list)
  becomes =
      let left = rw c.if-leaves_waker.true at c.leaves_waker.ensures.left in
      let written = c.waiter_mut.ensures.written c.leaves_waker.new.self in
      new_waker c.self.invariant.row c.waiter_mut.ensures.value stands c.args.waker
      (subst (λ v. IsWritten c.args.id v c.self.inside.list (with_waiter c.args.id c.leaves_waker.new.self c.self.inside.list)) left written)
      (written-sound c.waiter_mut.ensures.sound written)

pub invariant_of-self : goal.invariant_of-self
invariant_of-self g c = kept (becomes g c) (new_waker-counts (counts c.self.invariant) (is_slot c.args.id) c.args.waker.0)

pub returns-then-leaves_waker-clause-polls : goal.returns-then-leaves_waker-clause-polls
returns-then-leaves_waker-clause-polls g c = rw (← c.self.view_is) ((stands g c).none_ended, (stands g c).not_granted, (becomes g c).is, (becomes g c).ended)

pub returns-then-leaves_waker-clause-row : goal.returns-then-leaves_waker-clause-row
returns-then-leaves_waker-clause-row g c = (becomes g c).row

pub remove_unlinked_waiter-node-requires : goal.remove_unlinked_waiter-node-requires
remove_unlinked_waiter-node-requires g c =
    let written = c.waiter_mut.ensures.written c.leaves_waker.new.self in
    record {
      here = ap is_some written.value;
      not_linked =
          detached_by c.leaves_waker.ensures.waits
          (request-stands _ c.self.invariant.row c.args.id c.waiter_mut.ensures.value (asked_in c.args.id c.self.view_is c.requires.here)) c.if-leaves_waker.false;
    }

-- what was removed is what was there
removed_same : {id : ℕ} {node last removed : WaitNode} {list mid : WaitListState WaitNode} → last ≡ node → IsWritten id last list mid → waiter_at id mid ≡ Some removed → removed ≡ node
removed_same {last = last} {removed = removed} same written there = sym (ap (λ o. unwrap_or o last) (sym written.value ∙ there)) ∙ same

change_there : {id : ℕ} {last : WaitNode} {list mid new : WaitListState WaitNode} → IsWritten id last list mid → KeepsOthers id mid.nodes new.nodes → new.linked ≡ mid.linked → ChangesAt id list new
change_there {id} {last} {list} {mid} {new} written others links = record {
  values = λ other differs. others other differs ∙ written.others other differs;
  links = λ other differs. ap (λ slots. list_any (λ slot. slot == other) slots) (links ∙ written.linked);
}

-- one that was ended is gone
module _ (g : Over) (c : goal.Then-node g) where
  was : StandsEnded (row_in c.self.inside.word c.self.inside.list c.self.inside.counts) c.args.id c.waiter_mut.result.now
  was =
      let is = removed_same (c.leaves_waker.ensures.stays c.if-leaves_waker.false) (c.waiter_mut.ensures.written c.leaves_waker.new.self) c.remove_unlinked_waiter-node.ensures.value in
      ended_by c.leaves_waker.ensures.waits
      (request-stands _ c.self.invariant.row c.args.id c.waiter_mut.ensures.value (asked_in c.args.id c.self.view_is c.requires.here))
      c.if-leaves_waker.false (ap (λ (n : WaitNode). n.ended) (sym is) ∙ c.if-node.true)

  told_of : Becomes (row_in c.self.inside.word c.remove_unlinked_waiter-node.new.self c.self.inside.counts) (part (row_in c.self.inside.word c.self.inside.list c.self.inside.counts))
      (without (is_slot c.args.id) (ended_of c.self.inside.list))
  told_of =
      let written = c.waiter_mut.ensures.written c.leaves_waker.new.self in
      let removes = c.remove_unlinked_waiter-node.ensures in
      let links = ap (λ (l : WaitListState WaitNode). l.linked) removes.state in
      told c.self.invariant.row c.waiter_mut.ensures.value was (change_there written removes.others links) removes.vacant (links ∙ written.linked) removes.sound

pub invariant_of-self-then-node : goal.invariant_of-self-then-node
invariant_of-self-then-node g c = kept (told_of g c) (counts c.self.invariant)

pub returns-then-node-clause-polls : goal.returns-then-node-clause-polls
returns-then-node-clause-polls g c = rw (← c.self.view_is) (ap is_some (was g c).ended, ((told_of g c).is, (told_of g c).ended))

pub returns-then-node-clause-row : goal.returns-then-node-clause-row
returns-then-node-clause-row g c = (told_of g c).row

pub collect-requires : goal.collect-requires
collect-requires g c =
    let is = removed_same (c.leaves_waker.ensures.stays c.if-leaves_waker.false) (c.waiter_mut.ensures.written c.leaves_waker.new.self) c.remove_unlinked_waiter-node.ensures.value in
    let stands =
    granted_by c.leaves_waker.ensures.waits
    (request-stands _ c.self.invariant.row c.args.id c.waiter_mut.ensures.value (asked_in c.args.id c.self.view_is c.requires.here))
    c.if-leaves_waker.false (ap (λ (n : WaitNode). n.ended) (sym is) ∙ c.if-node.false) in
    subst (λ (node : WaitNode). node.size ≤ c.self.inside.counts.granted_sum) (sym is)
    (no_more _ _ _ (had-granted (counts c.self.invariant) c.args.id c.waiter_mut.result.now.size stands.granted))

-- one that was granted is gone
module _ (g : Over) (c : goal.After-collect g) where
  is_node : c.remove_unlinked_waiter-node.result ≡ c.waiter_mut.result.now
  is_node = removed_same (c.leaves_waker.ensures.stays c.if-leaves_waker.false) (c.waiter_mut.ensures.written c.leaves_waker.new.self) c.remove_unlinked_waiter-node.ensures.value

  held : StandsGranted (row_in c.self.inside.word c.self.inside.list c.self.inside.counts) c.args.id c.waiter_mut.result.now
  held =
      granted_by c.leaves_waker.ensures.waits
      (request-stands _ c.self.invariant.row c.args.id c.waiter_mut.ensures.value (asked_in c.args.id c.self.view_is c.requires.here))
      c.if-leaves_waker.false (ap (λ (n : WaitNode). n.ended) (sym is_node) ∙ c.if-node.false)

  collects : Becomes (row_in c.self.inside.word c.remove_unlinked_waiter-node.new.self c.collect.new.self)
      (collect (is_slot c.args.id) (part (row_in c.self.inside.word c.self.inside.list c.self.inside.counts))) (ended_of c.self.inside.list)
  collects =
      let written = c.waiter_mut.ensures.written c.leaves_waker.new.self in
      let removes = c.remove_unlinked_waiter-node.ensures in
      let links = ap (λ (l : WaitListState WaitNode). l.linked) removes.state in
      woken-as (ap (λ k. k.wakes.wakers) c.collect.ensures)
      (collected c.self.invariant.row c.waiter_mut.ensures.value held (change_there written removes.others links) removes.vacant (links ∙ written.linked) removes.sound)

pub invariant_of-self-2 : goal.invariant_of-self-2
invariant_of-self-2 g c =
    kept (collects g c)
    (collected-counts (counts c.self.invariant) c.args.id c.waiter_mut.result.now.size (held g c).granted
    (c.collect.ensures ∙ ap (λ (n : WaitNode). record c.self.inside.counts { granted_sum = c.self.inside.counts.granted_sum - n.size }) (is_node g c)))

pub returns-clause-row : goal.returns-clause-row
returns-clause-row g c = (collects g c).row

pub returns-clause-polls : goal.returns-clause-polls
returns-clause-polls g c =
    rw (← c.self.view_is) (
      (held g c).none_ended,
      (held g c).granted ∙ ap (λ (node : WaitNode). Some (record { name = c.args.id; size = node.size })) (sym (is_node g c)),
      (collects g c).is,
      (collects g c).ended,
    )
