use Rattle.band_line.specs.Arena.{removed}
use Rattle.band_line.specs.WaitList.{removed_waiter}
use Rattle.band_line.specs.Line.{list_of}
use Rattle.band_line.proofs.LineLemmas.{Makes, Loses, removes, loses, no_links, sound_list}
use Rattle.band_line.proofs.NodeValues.{held}
use Rattle.band_line.specs.Store.{node_values}
use Rattle.band_line.proofs.SoundArena.{sound_mapped}
use Rattle.band_line.proofs.line.Line.remove.Given.{Over}
use Rattle.band_line.proofs.line.Line.remove.Goals as goal

module _ (g : Over) (c : goal.After-remove-value g) where
  made : Makes (removed c.args.id c.self.inside.nodes) c.self.inside.front c.self.inside.back (removed_waiter c.args.id (list_of c.self.inside.nodes c.self.inside.front))
  made =
      let h = rw c.remove-value.ensures.state at c.remove-value.ensures in
      removes c.args.id c.self.invariant (held c.self.inside.nodes c.args.id (rw (← c.self.view_is) at c.requires.here))
      (no_links c.args.id c.self.invariant (rw (← c.self.view_is) at c.requires.detached)) h.others h.vacant

  lost : Loses (node_values c.self.inside.nodes) (node_values (removed c.args.id c.self.inside.nodes)) c.args.id
  lost = let h = rw c.remove-value.ensures.state at c.remove-value.ensures in loses c.self.inside.nodes c.args.id h.others h.len

pub invariant_of-self : goal.invariant_of-self
invariant_of-self g c = rw c.remove-value.ensures.state (made g c).line

pub returns-clause-state : goal.returns-clause-state
returns-clause-state g c = rw (c.remove-value.ensures.state, ← c.self.view_is) (made g c).shows

pub returns-clause-others : goal.returns-clause-others
returns-clause-others g c = λ other differs. rw (c.remove-value.ensures.state, ← c.self.view_is) ((lost g c).others other differs)

pub returns-clause-len : goal.returns-clause-len
returns-clause-len g c = rw (c.remove-value.ensures.state, ← c.self.view_is) (lost g c).len

pub returns-clause-sound : goal.returns-clause-sound
returns-clause-sound g c = rw c.remove-value.ensures.state (sound_list (made g c).line)

pub returns-clause-nodes : goal.returns-clause-nodes
returns-clause-nodes g c = sound_mapped (λ node. node.value) c.remove-value.new.self c.remove-value.ensures.sound
