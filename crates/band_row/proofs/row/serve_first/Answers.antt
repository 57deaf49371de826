use Rattle.std.proofs.Common.{◌≡◌, ℕ, ◌≤◌, Bool, true, Option, Some, None, ap, sym, ◌∙◌, subst, rules}
use Rattle.std.specs.Borrow.{MutBor}
use Rattle.std.specs.Fn.{Once}
use Rattle.band_line.specs.WaitList.{IsUnlinked, AnswersLeaving, waiter_at}
use Rattle.band_row.specs.declared.wait_node.WaitNode.{WaitNode}
use Rattle.band_row.specs.Kept.Serves.{granted_node}
use Rattle.band_row.proofs.row.serve_first.Goals as goal

-- a closure that answers true leaves the node as it was, and needs no more than this
answered : {F : Type 0} (g : Once F (MutBor WaitNode × Unit {0}) (Bool × (MutBor WaitNode × Unit {0}))) (f : F) (permits : ℕ) (found : Option WaitNode) (left : WaitNode)
    → ((shown after : MutBor WaitNode) → g.post f (shown, tt) (true, (after, tt)) → (after.now ≡ shown.now) × (shown.now.needed ≤ permits))
    → AnswersLeaving g f found true left → (found ≡ Some left) × (left.needed ≤ permits)
answered g f permits None left says h = absurd h
answered g f permits (Some before) left says h =
    let met = says h.shown h.left h.met in
    let same : h.shown.now ≡ left = sym met.0 ∙ h.leaves in
    (ap Some (sym h.shows ∙ same), subst (λ node. node.needed ≤ permits) same met.1)

pub returns-in-Some-clause-serves : goal.returns-in-Some-clause-serves
returns-in-Some-clause-serves g c =
    let asked = answered _ _ c.args.permits (waiter_at c.args.first c.args.list.now) c.in-Some.node.now (λ shown after met. (search rules, search rules)) c.in-Some.ensures.left in
    let was : c.in-Some.node.now ≡ c.replace.result = sym c.replace.ensures.value in
    let put : c.replace.new.dest ≡ granted_node c.replace.result = c.replace.ensures.after ∙ c.granted-granted.ensures ∙ ap granted_node was in (
      asked.0 ∙ ap Some was,
      subst (λ node. node.needed ≤ c.args.permits) was asked.1,
      subst (λ last. IsUnlinked c.args.first last c.args.list.now (c.unlink_waiter.follows.lender c.replace.new.dest)) put
          (rw c.in-Some.is at c.unlink_waiter.follows.holds c.replace.new.dest),
    )
