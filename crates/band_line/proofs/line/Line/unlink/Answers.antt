use Rattle.std.proofs.Common.{◌≡◌, ℕ, Some, true, arith, refl, sym, ap, ◌∙◌}
use Rattle.band_line.specs.Arena.{value_at}
use Rattle.band_line.specs.Store.{node_value, changed_at}
use Rattle.band_line.specs.Line.{HasAsManyNodes, list_of, asked, closed, gap_visits}
use Rattle.band_line.proofs.NodeValues.{held, value_is}
use Rattle.band_line.proofs.LineLemmas.{detaches, writes, neighbors_asked, gap_visits-le, gap_visits-first, sound_list, no_links}
use Rattle.band_line.specs.WaitList.{WaitListState, IsWaitList, IsWritten, IsUnlinked}
use Rattle.band_line.proofs.WaitListLemmas.{after_write, after_unlink}
use Rattle.band_line.proofs.line.Line.unlink.Goals as goal

Some-injective : {A : Type 0} {a b : A} → Some a ≡ Some b → a ≡ b
Some-injective e = cc

with_size : {T : Type 0} {old new : WaitListState T} {id : ℕ} {last : T} → IsUnlinked id last old new → IsUnlinked id last old new × HasAsManyNodes old new
with_size unlinked = (unlinked, record { len = unlinked.len; spare = unlinked.spare })

pub invariant_of-self : goal.invariant_of-self
invariant_of-self g c =
    let here = held c.self.inside.nodes c.args.id (rw (← c.self.view_is) at c.requires.here) in
    let answered = c.in_err-gap.ensures.asked in
    rw answered.2 (writes c.args.id answered.0 c.self.invariant here).line

pub returns-in_err-gap : goal.returns-in_err-gap
returns-in_err-gap g c =
    let here = held c.self.inside.nodes c.args.id (rw (← c.self.view_is) at c.requires.here) in
    let answered = c.in_err-gap.ensures.asked in
    let written : IsWritten c.args.id answered.0 c.args.self.now (list_of c.ask.new.self c.self.inside.front) = after_write c.requires.here (rw (answered.2, ← c.self.view_is) (writes c.args.id answered.0 c.self.invariant here).shows) in
    rw c.from_residual.ensures (
      (
        refl,
        (λ w. (tt, record { len = written.len; spare = written.spare })),
        ((answered.0, rw (← c.self.view_is, value_is c.self.inside.nodes c.args.id) answered.1, written), record { len = written.len; spare = written.spare }),
      ),
      record {
        writes_back = tt;
        left = tt;
        sound = rw (← c.self.view_is) (sound_list c.self.invariant);
        visits = c.in_err-gap.ensures.visits;
        first = λ e. omega (arith, c.in_err-gap.ensures.visits);
        already = λ e. omega (arith, c.in_err-gap.ensures.visits);
      },
    )

pub close_gap-requires-clause-prev : goal.close_gap-requires-clause-prev
close_gap-requires-clause-prev g c = λ between e other beside.
    let here = held c.self.inside.nodes c.args.id (rw (← c.self.view_is) at c.requires.here) in
    let answered = c.in_ok-gap.ensures.asked in
    rw answered.2 ((neighbors_asked answered.0 c.self.invariant here (sym c.in_ok-gap.ensures.had ∙ e)).prev other beside).0

pub close_gap-requires-clause-next : goal.close_gap-requires-clause-next
close_gap-requires-clause-next g c = λ between e other beside.
    let here = held c.self.inside.nodes c.args.id (rw (← c.self.view_is) at c.requires.here) in
    let answered = c.in_ok-gap.ensures.asked in
    rw answered.2 ((neighbors_asked answered.0 c.self.invariant here (sym c.in_ok-gap.ensures.had ∙ e)).next other beside).0

pub waiter_mut-requires : goal.waiter_mut-requires
waiter_mut-requires g c =
    let here = held c.self.inside.nodes c.args.id (rw (← c.self.view_is) at c.requires.here) in
    let answered = c.in_ok-gap.ensures.asked in
    rw (c.close_gap.ensures.nodes, answered.2) (detaches c.args.id answered.0 c.in_ok-gap.gap c.self.invariant here c.in_ok-gap.ensures.had).there

pub invariant_of-self-lent : goal.invariant_of-self-lent
invariant_of-self-lent g c = λ w.
    let here = held c.self.inside.nodes c.args.id (rw (← c.self.view_is) at c.requires.here) in
    let answered = c.in_ok-gap.ensures.asked in
    rw (c.close_gap.ensures.nodes, c.close_gap.ensures.front, c.close_gap.ensures.back, answered.2)
    ((detaches c.args.id answered.0 c.in_ok-gap.gap c.self.invariant here c.in_ok-gap.ensures.had).rewrites w).line

pub returns : goal.returns
returns g c =
    let here = held c.self.inside.nodes c.args.id (rw (← c.self.view_is) at c.requires.here) in
    let answered = c.in_ok-gap.ensures.asked in
    let gap = c.in_ok-gap.gap in
    let made = detaches c.args.id answered.0 gap c.self.invariant here c.in_ok-gap.ensures.had in
    let after = closed gap (changed_at c.args.id (asked true answered.0) c.self.inside.nodes) in
    let found : node_value (value_at c.args.id after) ≡ Some c.waiter_mut.result.now = rw (c.close_gap.ensures.nodes, answered.2) at c.waiter_mut.ensures.value in
    let same : answered.0 ≡ c.waiter_mut.result.now = Some-injective (sym made.holds ∙ value_is after c.args.id ∙ found) in
    let sound : IsWaitList c.args.self.now = rw (← c.self.view_is) (sound_list c.self.invariant) in
    let steps = c.in_ok-gap.ensures.visits in (
      (
        refl,
        (λ w. with_size (after_unlink sound c.requires.here (rw (c.close_gap.ensures.nodes, c.close_gap.ensures.front, answered.2, ← c.self.view_is) (made.rewrites w).shows))),
        (tt, record { len = refl; spare = refl }),
      ),
      record {
        writes_back = tt;
        left = rw (← c.self.view_is, value_is c.self.inside.nodes c.args.id, ← same) answered.1;
        sound = sound;
        visits = record {
          no_fewer = omega (arith, steps, c.close_gap.ensures.visits, c.waiter_mut.ensures.visits);
          no_more = omega (arith, steps, c.close_gap.ensures.visits, c.waiter_mut.ensures.visits, gap_visits-le gap);
        };
        first = λ e.
            let beside = gap_visits-first c.self.invariant c.in_ok-gap.ensures.had (rw (← c.self.view_is) at e) in
            omega (arith, steps, c.close_gap.ensures.visits, c.waiter_mut.ensures.visits, beside);
        already = λ e.
            let none = c.in_ok-gap.ensures.had ∙ no_links c.args.id c.self.invariant (rw (← c.self.view_is) at e) in
            omega (arith, steps, c.close_gap.ensures.visits, c.waiter_mut.ensures.visits, ap gap_visits none);
      },
    )
