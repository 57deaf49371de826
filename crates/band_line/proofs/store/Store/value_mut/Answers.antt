use Rattle.std.proofs.Common.{None, IsSome, arith, get_or, map, refl, ap, ◌∙◌}
use Rattle.band_line.specs.Slots.{node_of, with_slot_value}
use Rattle.band_line.specs.Store.{node_value, with_node_value}
use Rattle.band_line.proofs.ArenaLemmas.{occupied_within, found_node, changes, with_slot_value-node_of}
use Rattle.band_line.proofs.store.Store.value_mut.Goals as goal

pub index_mut-requires : goal.index_mut-requires
index_mut-requires g c = omega (arith, c.index.ensures, occupied_within c.self.inside.slots.items c.args.id (rw (← c.self.view_is) at c.requires))

pub value_mut-requires : goal.value_mut-requires
value_mut-requires g c =
    let here : IsSome (get_or (map node_of c.self.inside.slots.items) c.index.result None) = rw c.index.ensures (rw (← c.self.view_is) at c.requires) in
    rw (found_node c.self.inside.slots.items c.index.result c.index_mut.result.now here c.index_mut.ensures.value) at here

pub invariant_of-self-lent : goal.invariant_of-self-lent
invariant_of-self-lent g c w =
    let here : IsSome (get_or (map node_of c.self.inside.slots.items) c.index.result None) = rw c.index.ensures (rw (← c.self.view_is) at c.requires) in
    let slot = c.index_mut.result.now in
    (changes c.index.result (with_slot_value w slot) (with_node_value w) c.self.invariant here c.index_mut.ensures.value (with_slot_value-node_of w slot)).0

pub returns : goal.returns
returns g c =
    let here : IsSome (get_or (map node_of c.self.inside.slots.items) c.index.result None) = rw c.index.ensures (rw (← c.self.view_is) at c.requires) in
    let slot = c.index_mut.result.now in (
      (
        refl,
        λ w. rw (← c.self.view_is, ← c.index.ensures)
            (changes c.index.result (with_slot_value w slot) (with_node_value w) c.self.invariant here c.index_mut.ensures.value (with_slot_value-node_of w slot)).1,
      ),
      record {
        lends = tt;
        value = rw (← c.self.view_is, ← c.index.ensures) (ap node_value (found_node c.self.inside.slots.items c.index.result slot here c.index_mut.ensures.value) ∙ c.value_mut.ensures.value);
      },
    )
