use Rattle.std.proofs.Common.{refl, ◌∙◌}
use Rattle.band_line.proofs.LineLemmas.{writes, sound_list}
use Rattle.band_line.proofs.NodeValues.{held, value_is}
use Rattle.band_line.proofs.WaitListLemmas.{after_write}
use Rattle.band_line.proofs.line.Line.waiter_mut.Goals as goal

pub invariant_of-self-lent : goal.invariant_of-self-lent
invariant_of-self-lent g c w = (writes c.args.id w c.self.invariant (held c.self.inside.nodes c.args.id (rw (← c.self.view_is) at c.requires))).line

pub returns : goal.returns
returns g c = (
  (refl, λ w. rw (← c.self.view_is) (writes c.args.id w c.self.invariant (held c.self.inside.nodes c.args.id (rw (← c.self.view_is) at c.requires))).shows),
  record {
    writes_back = tt;
    value = rw (← c.self.view_is) (value_is c.self.inside.nodes c.args.id ∙ c.waiter_mut.ensures.value);
    written = λ last. after_write c.requires refl;
    sound = rw (← c.self.view_is) (sound_list c.self.invariant);
    visits = c.waiter_mut.ensures.visits;
  },
)
