use Rattle.std.proofs.Common.{◌≡◌, ℕ, ◌<◌, arith, ap, sym, refl, ◌∙◌, subst, Option, Some, None, Bool, true, false, is_some, IsSome}
use Rattle.std.specs.Prelude.{◌==◌, option_copied}
use Rattle.std.proofs.lemmas.Bool.Decides.{nat_tests}
use Rattle.band_balance.specs.Line.{entry_named}
use Rattle.band_line.specs.WaitList.{WaitListState, waiter_at}
use Rattle.band_row.specs.Row.{HasRequest, RowState, granted_of, is_slot}
use Rattle.band_row.specs.declared.wait_node.WaitNode.{WaitNode}
use Rattle.band_row.proofs.Linked.{request-here, granted_some, granted_none}
use Rattle.band_row.proofs.row.Row.is_granted.Goals as goal

-- a node that needs nothing more is granted
by_needed : (list : WaitListState WaitNode) (id : ℕ) {node : WaitNode} → waiter_at id list ≡ Some node
    → (node.needed == 0) ≡ is_some (entry_named (is_slot id) (granted_of list))
by_needed list id {node} here = go (node.needed == 0) refl
  where
    go : (b : Bool) → (node.needed == 0) ≡ b → b ≡ is_some (entry_named (is_slot id) (granted_of list))
    go true is =
        let none : node.needed ≡ 0 = grind (arith, nat_tests) in
        sym (ap is_some (granted_some list id here none))
    go false is =
        let some : 0 < node.needed = grind (arith, nat_tests) in
        sym (ap is_some (granted_none list id here some))

pub unreachable-requires : goal.unreachable-requires
unreachable-requires g c =
    let here : IsSome (waiter_at c.args.id c.self.inside.list) =
    request-here _ c.self.invariant.row c.args.id (subst (HasRequest c.args.id) (sym c.self.view_is) c.requires.here) in
    let none = ap option_copied (sym c.in-None.is) ∙ c.waiter.ensures.value in
    absurd (let never = ap is_some none ∙ here in cc)

pub returns-clause-granted : goal.returns-clause-granted
returns-clause-granted g c = rw (← c.self.view_is) (by_needed c.self.inside.list c.args.id (sym c.in-Some.ensures.value))
