use Rattle.std.proofs.Common.{◌≡◌, ◌<◌, ◌+◌, ◌-◌, ◌++◌, ◌∷◌, [], ap, sym, ◌∙◌, subst, Some, None, false, ℕ, arith}
use Rattle.band_partial.specs.PartialLine.{IsSettled}
use Rattle.band_partial.specs.Moves.{enqueue}
use Rattle.band_line.specs.WaitList.{waiter_at}
use Rattle.band_row.specs.Row.{RowState, part, ended_of}
use Rattle.band_row.specs.declared.wait_node.WaitNode.{WaitNode}
use Rattle.band_row.proofs.Linked.{request-none}
use Rattle.band_row.proofs.Moving.{Becomes, kept, counts, joined, joined-counts, joined-settled, woken-as}
use Rattle.band_row.proofs.row.Row.enqueue.Given.{Over}
use Rattle.band_row.proofs.row.Row.enqueue.Goals as goal

more_needed : (n word : ℕ) → word < n → 0 < n - word
more_needed n word more = omega arith

module _ (g : Over) (c : goal.After-push_back g) where
  abbrev old : RowState
  old = record { word = c.self.inside.word; list = c.self.inside.list; wakes = c.self.inside.counts.wakes.wakers }

  settled : IsSettled (part old)
  settled = subst (λ s. IsSettled (part s)) (sym c.self.view_is) c.requires.settled

  more : old.word < c.args.size
  more = subst (λ s. s.word < c.args.size) (sym c.self.view_is) c.requires.more

  made : c.request.result ≡ record { size = c.args.size; needed = c.args.size - old.word; waker = Some c.args.waker; ended = false }
  made = c.request.ensures ∙ ap (λ word. record { size = c.args.size; needed = c.args.size - word; waker = Some c.args.waker; ended = false }) c.replace.ensures.value

  becomes : Becomes (record { word = 0; list = c.push_back.new.self; wakes = old.wakes }) (enqueue c.push_back.result c.args.size c.args.waker.0 (part old)) (ended_of old.list)
  becomes =
      joined c.self.invariant.row c.reserve-2.ensures.same
      (record {
        vacant = c.push_back.ensures.vacant;
        here = c.push_back.ensures.here;
        others = c.push_back.ensures.others;
        keeps = c.push_back.ensures.keeps;
        joins = c.push_back.ensures.joins;
        sound = c.push_back.ensures.sound;
      })
      (subst (λ (node : WaitNode). 0 < node.needed) (sym made) (more_needed c.args.size old.word more)) (ap (λ (node : WaitNode). node.ended) made)
      c.args.size c.args.waker settled
      (ap (λ l. l.linked) c.push_back.ensures.state ∙ ap (λ slot. c.reserve-2.new.self.linked ++ slot ∷ []) (sym c.push_back.ensures.slot)) made more

  wakers : c.join.new.self.wakes.wakers ≡ old.wakes
  wakers = ap (λ k. k.wakes.wakers) c.join.ensures ∙ ap (λ k. k.wakes.wakers) c.reserve.ensures.same

  moved : Becomes (record { word = 0; list = c.push_back.new.self; wakes = c.join.new.self.wakes.wakers }) (enqueue c.push_back.result c.args.size c.args.waker.0 (part old)) (ended_of old.list)
  moved = woken-as wakers becomes

pub invariant_of-self-2 : goal.invariant_of-self-2
invariant_of-self-2 g c =
    rw c.replace.ensures.after
    (kept (moved g c) (joined-counts (counts c.self.invariant) c.reserve.ensures.same c.join.ensures c.in_ok-reserve.ensures.room c.push_back.result c.args.size c.args.waker.0))

pub returns-clause-joins : goal.returns-clause-joins
returns-clause-joins g c =
    rw c.replace.ensures.after
    (rw (← c.self.view_is) (
      request-none (old g c) c.self.invariant.row c.push_back.result (subst (λ list. waiter_at c.push_back.result list ≡ None) c.reserve-2.ensures.same c.push_back.ensures.vacant),
      (moved g c).is,
    ))

pub returns-clause-settled : goal.returns-clause-settled
returns-clause-settled g c = rw c.replace.ensures.after (subst IsSettled (sym (moved g c).is) (joined-settled (part (old g c)) (settled g c) c.push_back.result c.args.size c.args.waker.0 (more g c)))

pub returns-clause-row : goal.returns-clause-row
returns-clause-row g c = rw c.replace.ensures.after (moved g c).row

pub returns-clause-ended : goal.returns-clause-ended
returns-clause-ended g c = (moved g c).ended ∙ ap (λ s. ended_of s.list) c.self.view_is
