use Rattle.std.proofs.Common.{None, IsSome, arith, get_or, map, is_some, ap, ◌∙◌}
use Rattle.band_line.specs.Slots.{node_of}
use Rattle.band_line.specs.Store.{node_value}
use Rattle.band_line.specs.Line.{asked}
use Rattle.band_line.proofs.ArenaLemmas.{occupied_within, found_node, changes}
use Rattle.band_line.proofs.nodes.Store+Links+T.ask.Goals as goal

pub index_mut-requires : goal.index_mut-requires
index_mut-requires g c =
    omega (arith, c.index.ensures, occupied_within c.self.inside.slots.items c.args.id (rw (← c.self.view_is) at c.requires.here))

pub ask-requires-clause-here : goal.ask-requires-clause-here
ask-requires-clause-here g c =
    let here : IsSome (get_or (map node_of c.self.inside.slots.items) c.index.result None) = rw c.index.ensures (rw (← c.self.view_is) at c.requires.here) in
    rw (found_node c.self.inside.slots.items c.index.result c.index_mut.result.now here c.index_mut.ensures.value) at here

pub ask-requires-clause-callable : goal.ask-requires-clause-callable
ask-requires-clause-callable g c = λ value e.
    let here : IsSome (get_or (map node_of c.self.inside.slots.items) c.index.result None) = rw c.index.ensures (rw (← c.self.view_is) at c.requires.here) in
    let found = found_node c.self.inside.slots.items c.index.result c.index_mut.result.now here c.index_mut.ensures.value in
    (rw (← c.self.view_is, ← c.index.ensures) at c.requires.callable) value (ap node_value found ∙ e)

pub invariant_of-self : goal.invariant_of-self
invariant_of-self g c =
    let here : IsSome (get_or (map node_of c.self.inside.slots.items) c.index.result None) = rw c.index.ensures (rw (← c.self.view_is) at c.requires.here) in
    let answered = c.ask.ensures.asked in
    (changes c.index.result c.ask.new.self (asked (is_some c.ask.result) answered.0) c.self.invariant here c.index_mut.ensures.value answered.2).0

pub returns-clause-asked : goal.returns-clause-asked
returns-clause-asked g c =
    let here : IsSome (get_or (map node_of c.self.inside.slots.items) c.index.result None) = rw c.index.ensures (rw (← c.self.view_is) at c.requires.here) in
    let found = found_node c.self.inside.slots.items c.index.result c.index_mut.result.now here c.index_mut.ensures.value in
    let answered = c.ask.ensures.asked in
    rw (← c.self.view_is, ← c.index.ensures) (
      answered.0,
      rw found answered.1,
      (changes c.index.result c.ask.new.self (asked (is_some c.ask.result) answered.0) c.self.invariant here c.index_mut.ensures.value answered.2).1,
    )

pub returns-clause-had : goal.returns-clause-had
returns-clause-had g c =
    let here : IsSome (get_or (map node_of c.self.inside.slots.items) c.index.result None) = rw c.index.ensures (rw (← c.self.view_is) at c.requires.here) in
    let found = found_node c.self.inside.slots.items c.index.result c.index_mut.result.now here c.index_mut.ensures.value in
    rw (← c.self.view_is, ← c.index.ensures, found) c.ask.ensures.had
