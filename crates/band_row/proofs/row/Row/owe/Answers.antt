use Rattle.std.proofs.Common.{◌≡◌, ◌<◌, ◌-◌, ap, sym, ◌∙◌, subst, None, false, ℕ, ◌∷◌, arith}
use Rattle.band_partial.specs.PartialLine.{IsSettled}
use Rattle.band_partial.specs.Moves.{owe}
use Rattle.band_partial.proofs.Follows.{owe-shown}
use Rattle.band_row.specs.Row.{RowState, part, ended_of}
use Rattle.band_row.specs.declared.wait_node.WaitNode.{WaitNode}
use Rattle.band_row.proofs.Moving.{Becomes, kept, counts, owed, owed-counts}
use Rattle.band_row.proofs.row.Row.owe.Given.{Over}
use Rattle.band_row.proofs.row.Row.owe.Goals as goal

more_needed : (n word : ℕ) → word < n → 0 < n - word
more_needed n word more = omega arith

module _ (g : Over) (c : goal.After-push_front g) where
  abbrev old : RowState
  old = record { word = c.self.inside.word; list = c.self.inside.list; wakes = c.self.inside.counts.wakes.wakers }

  settled : IsSettled (part old)
  settled = subst (λ s. IsSettled (part s)) (sym c.self.view_is) c.requires.settled

  more : old.word < c.args.n
  more = subst (λ s. s.word < c.args.n) (sym c.self.view_is) c.requires.more

  made : c.debt.result ≡ record { size = c.args.n; needed = c.args.n - old.word; waker = None; ended = false }
  made = c.debt.ensures ∙ ap (λ word. record { size = c.args.n; needed = c.args.n - word; waker = None; ended = false }) c.replace.ensures.value

  becomes : Becomes (record { word = 0; list = c.push_front.new.self; wakes = old.wakes }) (owe c.push_front.result c.args.n (part old)) (ended_of old.list)
  becomes =
      owed c.self.invariant.row c.reserve.ensures.same
      (record {
        vacant = c.push_front.ensures.vacant;
        here = c.push_front.ensures.here;
        others = c.push_front.ensures.others;
        keeps = c.push_front.ensures.keeps;
        joins = c.push_front.ensures.joins;
        sound = c.push_front.ensures.sound;
      })
      (subst (λ (node : WaitNode). 0 < node.needed) (sym made) (more_needed c.args.n old.word more)) (ap (λ (node : WaitNode). node.ended) made)
      c.args.n settled (ap (λ l. l.linked) c.push_front.ensures.state ∙ ap (λ slot. slot ∷ c.reserve.new.self.linked) (sym c.push_front.ensures.slot)) made more

pub invariant_of-self-2 : goal.invariant_of-self-2
invariant_of-self-2 g c = rw c.replace.ensures.after (kept (becomes g c) (owed-counts (counts c.self.invariant) c.push_front.result c.args.n (more g c)))

pub returns-clause-owes : goal.returns-clause-owes
returns-clause-owes g c = rw c.replace.ensures.after ((becomes g c).is ∙ ap (λ s. owe c.push_front.result c.args.n (part s)) c.self.view_is)

pub returns-clause-settled : goal.returns-clause-settled
returns-clause-settled g c = rw c.replace.ensures.after (subst IsSettled (sym (becomes g c).is) (owe-shown (part (old g c)) (settled g c) c.push_front.result c.args.n).settled)

pub returns-clause-row : goal.returns-clause-row
returns-clause-row g c = rw c.replace.ensures.after (becomes g c).row

pub returns-clause-ended : goal.returns-clause-ended
returns-clause-ended g c = (becomes g c).ended ∙ ap (λ s. ended_of s.list) c.self.view_is
