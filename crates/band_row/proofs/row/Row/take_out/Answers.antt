use Rattle.std.proofs.Common.{◌≡◌, ◌<◌, ◌≤◌, ◌+◌, ℕ, sym, subst, arith}
use Rattle.band_row.specs.Row.{HasRequest, RowState, IsRow}
use Rattle.band_row.proofs.Linked.{request-here, request-stands, Stands, StandsEnded}
use Rattle.band_row.proofs.Moving.{TakenOut, row_in, counts, granted_out, ended_out, had-granted, waiting_out, waiting_by, granted_by, ended_by, waits-here}
use Rattle.band_row.proofs.row.Row.take_out.Given.{Over}
use Rattle.band_row.proofs.row.Row.take_out.Goals as goal

-- what is asked of a view is asked of the fields
asked_in : (id : ℕ) {inside now : RowState} → inside ≡ now → HasRequest id now → HasRequest id inside
asked_in id same here = subst (HasRequest id) (sym same) here

positive : (k n m : ℕ) → n ≡ m → k + 1 ≡ m → 0 < n
positive k n m e e' = omega arith

no_more : (size rest sum : ℕ) → size + rest ≡ sum → size ≤ sum
no_more size rest sum e = omega arith

pub leave-node-requires : goal.leave-node-requires
leave-node-requires g c = request-here _ c.self.invariant.row c.args.id (asked_in c.args.id c.self.view_is c.requires.here)

pub leave-requires : goal.leave-requires
leave-requires g c =
    let stands = request-stands _ c.self.invariant.row c.args.id c.leave-node.ensures.value (asked_in c.args.id c.self.view_is c.requires.here) in
    positive _ _ _ c.self.invariant.waiting (waits-here c.leave-node.ensures.value (waiting_by c.is_some.ensures stands c.if-is_some.true))

pub overflow_sub-result : goal.overflow_sub-result
overflow_sub-result g c =
    (waiting_by c.is_some.ensures (request-stands _ c.self.invariant.row c.args.id c.leave-node.ensures.value (asked_in c.args.id c.self.view_is c.requires.here)) c.if-is_some.true).fits

pub invariant_of-self : goal.invariant_of-self
invariant_of-self g c =
    let stands = request-stands _ c.self.invariant.row c.args.id c.leave-node.ensures.value (asked_in c.args.id c.self.view_is c.requires.here) in
    (waiting_out c.self.invariant c.leave-node.ensures.value (waiting_by c.is_some.ensures stands c.if-is_some.true) c.leave-node.ensures.gone c.leave.ensures).is_kept

pub returns-then-is_some-clause-ends : goal.returns-then-is_some-clause-ends
returns-then-is_some-clause-ends g c =
    let stands = request-stands _ c.self.invariant.row c.args.id c.leave-node.ensures.value (asked_in c.args.id c.self.view_is c.requires.here) in
    rw (← c.self.view_is) (waiting_out c.self.invariant c.leave-node.ensures.value (waiting_by c.is_some.ensures stands c.if-is_some.true) c.leave-node.ensures.gone c.leave.ensures).ends

-- one that was ended is out
module _ (g : Over) (c : goal.Then-node g) where
  told : TakenOut (row_in c.self.inside.word c.self.inside.list c.self.inside.counts) (row_in c.self.inside.word c.leave-node.new.list c.self.inside.counts) c.self.inside.counts c.args.id 0
  told =
      let stands = ended_by c.is_some.ensures (request-stands _ c.self.invariant.row c.args.id c.leave-node.ensures.value (asked_in c.args.id c.self.view_is c.requires.here)) c.if-is_some.false c.if-node.true in
      let gone = c.leave-node.ensures.gone in
      ended_out c.self.invariant c.leave-node.ensures.value stands (record { values = gone.others; links = gone.links }) gone.vacant (gone.already stands.not_linked) gone.sound

pub collect-requires : goal.collect-requires
collect-requires g c =
    let stands = granted_by c.is_some.ensures (request-stands _ c.self.invariant.row c.args.id c.leave-node.ensures.value (asked_in c.args.id c.self.view_is c.requires.here)) c.if-is_some.false c.if-node.false in
    no_more _ _ _ (had-granted (counts c.self.invariant) c.args.id c.leave-node.result.size stands.granted)

-- one that was granted is out
module _ (g : Over) (c : goal.After-collect g) where
  out : TakenOut (row_in c.self.inside.word c.self.inside.list c.self.inside.counts) (row_in c.self.inside.word c.leave-node.new.list c.collect.new.self) c.collect.new.self c.args.id c.leave-node.result.size
  out =
      let stands = granted_by c.is_some.ensures (request-stands _ c.self.invariant.row c.args.id c.leave-node.ensures.value (asked_in c.args.id c.self.view_is c.requires.here)) c.if-is_some.false c.if-node.false in
      let gone = c.leave-node.ensures.gone in
      granted_out c.self.invariant c.leave-node.ensures.value stands (record { values = gone.others; links = gone.links }) gone.vacant (gone.already stands.not_linked) gone.sound c.collect.ensures

pub invariant_of-self-then-node : goal.invariant_of-self-then-node
invariant_of-self-then-node g c = (told g c).is_kept

pub returns-then-node-clause-ends : goal.returns-then-node-clause-ends
returns-then-node-clause-ends g c = rw (← c.self.view_is) (told g c).ends

pub invariant_of-self-2 : goal.invariant_of-self-2
invariant_of-self-2 g c = (out g c).is_kept

pub returns-clause-ends : goal.returns-clause-ends
returns-clause-ends g c = rw (← c.self.view_is) (out g c).ends
