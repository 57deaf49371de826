use Rattle.std.proofs.Common.{◌≡◌, ℕ, ◌+◌, ◌-◌, ◌≤◌, List, length, Option, Some, None, ap, ap₂, sym, ◌∙◌, subst, arith}
use Rattle.band_balance.specs.Line.{Entry, entry_named, u64_max}
use Rattle.band_partial.specs.PartialLine.{PartialLine, AreAlikeParts, IsSettled, debts}
use Rattle.band_partial.specs.Moves.{cancel_request}
use Rattle.band_row.specs.Row.{RowState, SameEnded, Cancels, CancelsAs, is_slot, part, ended_of, served}
use Rattle.band_row.specs.Kept.Serves.{Ends, EndsBy}
use Rattle.band_row.specs.contracts.row.Row.{the_view}
use Rattle.band_row.proofs.Parts.{GivesBack, ends-gives_back, nothing-gives_back, word-fits}
use Rattle.band_row.proofs.Serving.{holds-back}
use Rattle.band_row.proofs.row.Row.cancel.Given.{Over}
use Rattle.band_row.proofs.row.Row.cancel.Goals as goal

-- what is known of the row inside, once the request is out of it
abbrev last : Option (Entry ℕ) → ℕ → PartialLine → PartialLine
last None id line = cancel_request (is_slot id) line
last (Some ended) id line = line

abbrev found : ℕ → RowState → Option (Entry ℕ)
found id row = entry_named (is_slot id) (ended_of row.list)

gives_back : (old mid inside : RowState) (id had : ℕ) → inside ≡ mid → IsSettled (part old) → Ends id old had mid → GivesBack (last (found id old) id (part old)) (part old) had (part inside)
gives_back old mid inside id had is settled ends =
    subst (λ (row : RowState). GivesBack (last (found id old) id (part old)) (part old) had (part row)) (sym is) (by_found (found id old) ends)
  where
    by_found : (it : Option (Entry ℕ)) → EndsBy it id old had mid → GivesBack (last it id (part old)) (part old) had (part mid)
    by_found None ends = ends-gives_back id (part old) had (part mid) settled ends.0
    by_found (Some ended) ends =
        subst (λ (n : ℕ). GivesBack (part old) (part old) n (part mid)) (sym ends.0)
        (subst (λ (line : PartialLine). GivesBack (part old) (part old) 0 line) (sym ends.1.0) (nothing-gives_back (part old) settled))

-- what becomes of those ended, once all is given out
cancels_by : (id had : ℕ) (old mid inside new : RowState) → inside ≡ mid → Ends id old had mid → AreAlikeParts (last (found id old) id (part old)) (part new) → SameEnded inside new
    → Cancels id old new
cancels_by id had old mid inside new is ends alike same = by_found (found id old) ends alike
  where
    told : ended_of new.list ≡ ended_of mid.list
    told = same ∙ ap (λ (row : RowState). ended_of row.list) is

    by_found : (it : Option (Entry ℕ)) → EndsBy it id old had mid → AreAlikeParts (last it id (part old)) (part new) → CancelsAs it id old new
    by_found None ends alike = (alike, told ∙ ends.1)
    by_found (Some ended) ends alike = (alike, told ∙ ends.1.1)

as_many : {target : PartialLine} {had : ℕ} {old mid : PartialLine} → GivesBack target old had mid → (new : PartialLine) → served mid new ≡ served old new
as_many back new = ap₂ (λ (wakes : List ℕ) (owing : ℕ). (length new.wakes - length wakes) + (owing - debts new.nodes)) back.wakes back.owing

module _ (g : Over) (c : goal.After-self g) where
  came_back : GivesBack (last (found c.args.id c.args.self.now) c.args.id (part c.args.self.now)) (part c.args.self.now) c.take_out.result (part (the_view c.self.inside))
  came_back = gives_back c.args.self.now c.take_out.new.self (the_view c.self.inside) c.args.id c.take_out.result c.self.view_is c.requires.settled c.take_out.ensures.ends

pub overflow_add-self : goal.overflow_add-self
overflow_add-self g c =
    let back = came_back g c in
    let small : c.take_out.result ≤ u64_max = (let range = c.take_out.type_inv in omega arith) in
    let fits : c.self.inside.word + c.take_out.result ≤ u64_max = word-fits c.take_out.result (part (the_view c.self.inside)) (back.holds c.requires.holds) back.given_out small in
    search (arith)

pub give_out-requires : goal.give_out-requires
give_out-requires g c =
    let back = gives_back c.args.self.now c.take_out.new.self (the_view c.self.inside) c.args.id c.take_out.result c.self.view_is c.requires.settled c.take_out.ensures.ends in
    record { holds = holds-back c.take_out.result (part (the_view c.self.inside)) (back.holds c.requires.holds) }

module _ (g : Over) (c : goal.After-give_out g) where
  back : GivesBack (last (found c.args.id c.args.self.now) c.args.id (part c.args.self.now)) (part c.args.self.now) c.take_out.result (part (the_view c.self.inside))
  back = gives_back c.args.self.now c.take_out.new.self (the_view c.self.inside) c.args.id c.take_out.result c.self.view_is c.requires.settled c.take_out.ensures.ends

pub returns-clause-cancels : goal.returns-clause-cancels
returns-clause-cancels g c =
    cancels_by c.args.id c.take_out.result c.args.self.now c.take_out.new.self (the_view c.self.inside) c.give_out.new.self c.self.view_is c.take_out.ensures.ends
    (subst (λ (line : PartialLine). AreAlikeParts line (part c.give_out.new.self)) (sym (back g c).cancels) c.give_out.ensures.part) c.give_out.ensures.ended

pub returns-clause-visits : goal.returns-clause-visits
returns-clause-visits g c =
    let first = c.take_out.ensures.visits in
    let last = c.give_out.ensures.visits in
    let same = as_many (back g c) (part c.give_out.new.self) in
    record { no_fewer = omega (arith, first.no_fewer, last.no_fewer); no_more = omega (arith, first.no_more, last.no_more, same) }

pub returns-clause-debts : goal.returns-clause-debts
returns-clause-debts g c =
    let fewer = c.give_out.ensures.debts in
    let same = (back g c).owing in
    omega (arith, fewer, same)
