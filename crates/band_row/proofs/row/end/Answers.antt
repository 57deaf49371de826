use Rattle.std.proofs.Common.{◌≡◌, ap, sym, ◌∙◌, subst, Some, rules}
use Rattle.band_line.specs.WaitList.{IsUnlinked, waiter_at}
use Rattle.band_line.proofs.WaitListLemmas.{AnswersLeaving-same}
use Rattle.band_row.specs.Kept.Serves.{ended_node}
use Rattle.band_row.proofs.row.end.Goals as goal

pub returns-clause-ends : goal.returns-clause-ends
returns-clause-ends g c =
    let asked = AnswersLeaving-same _ _ (waiter_at c.args.first c.args.list.now) _ c.in-Some.node.now (λ shown after met. search rules) c.in-Some.ensures.left in
    let was : c.in-Some.node.now ≡ c.replace.result = sym c.replace.ensures.value in
    let put : c.replace.new.dest ≡ ended_node c.replace.result = c.replace.ensures.after ∙ c.ended-ended.ensures ∙ ap ended_node was in (
      asked ∙ ap Some was,
      subst (λ last. IsUnlinked c.args.first last c.args.list.now (c.unlink_waiter.follows.lender c.replace.new.dest)) put
          (rw c.in-Some.is at c.unlink_waiter.follows.holds c.replace.new.dest),
    )
