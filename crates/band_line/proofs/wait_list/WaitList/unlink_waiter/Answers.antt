use Rattle.std.proofs.Common.{◌≡◌, ◌+◌, ◌<◌, arith, refl, sym, ap, ◌∙◌}
use Rattle.band_line.specs.Arena.{occupied_len}
use Rattle.band_line.specs.WaitList.{WaitListState}
use Rattle.band_line.specs.Line.{HasAsManyNodes, list_in, IsMade}
use Rattle.band_line.proofs.wait_list.WaitList.unlink_waiter.Goals as goal

-- with as many nodes and as much room, a list that has any keeps some
keeps_some : {T : Type 0} {old new : WaitListState T} → 0 < occupied_len old.nodes + old.nodes.spare → HasAsManyNodes old new
    → 0 < occupied_len new.nodes + new.nodes.spare
keeps_some some same = omega (arith, some, same.len, same.spare)

pub invariant_of-self-lent : goal.invariant_of-self-lent
invariant_of-self-lent g c = λ answer.
    let some : IsMade c.self.inside.line = c.self.invariant in
    let before : 0 < occupied_len c.deref_mut.result.now.nodes + c.deref_mut.result.now.nodes.spare = rw c.deref_mut.ensures.value (rw c.made.ensures.value at some) in
    ((λ w. keeps_some before (c.unlink.follows.holds w).1), keeps_some before c.unlink.follows.holds-at-none.1)

pub returns : goal.returns
returns g c =
    let is : c.deref_mut.result.now ≡ c.args.self.now = c.deref_mut.ensures.value ∙ ap list_in (sym c.made.ensures.value) ∙ c.self.view_is in (
      (refl, (λ w. rw (← is, ← c.id.view_is) (c.unlink.follows.holds w).0), rw (← is, ← c.id.view_is) c.unlink.follows.holds-at-none.0),
      record {
        writes_back = tt;
        left = rw (← is, ← c.id.view_is) c.unlink.ensures.left;
        sound = rw (← is) c.unlink.ensures.sound;
        visits = c.unlink.ensures.visits;
        first = rw (← is, ← c.id.view_is) c.unlink.ensures.first;
        already = rw (← is, ← c.id.view_is) c.unlink.ensures.already;
      },
    )
