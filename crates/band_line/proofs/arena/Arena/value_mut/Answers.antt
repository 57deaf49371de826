use Rattle.std.proofs.Common.{refl, ◌∙◌}
use Rattle.band_line.specs.Store.{with_node_value}
use Rattle.band_line.proofs.NodeValues.{held, value_is, node_values-changed_at}
use Rattle.band_line.proofs.arena.Arena.value_mut.Goals as goal

pub value_mut-requires : goal.value_mut-requires
value_mut-requires g c = held c.self.inside.store c.args.id (rw (← c.self.view_is) at c.requires)

pub returns : goal.returns
returns g c =
    let here = held c.self.inside.store c.args.id (rw (← c.self.view_is) at c.requires) in (
      (refl, λ w. rw (← c.self.view_is) (node_values-changed_at c.self.inside.store c.args.id (with_node_value w) w here (λ node. refl))),
      record {
        writes_back = tt;
        value = rw (← c.self.view_is) (value_is c.self.inside.store c.args.id ∙ c.value_mut.ensures.value);
      },
    )
