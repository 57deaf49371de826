use Rattle.std.proofs.Common.{sym, ◌∙◌, ap, Some, is_some, cond}
use Rattle.band_line.specs.WaitList.{pushed_front}
use Rattle.band_line.specs.Line.{list_of, pointed_prev}
use Rattle.band_line.proofs.LineLemmas.{Inserts, Makes, pushes_front, gains_front, sound_list, node_values-pointed_prev}
use Rattle.band_line.proofs.ArenaMaps.{next_slot-arena_map}
use Rattle.band_line.proofs.WaitListLemmas.{joins_front}
use Rattle.band_line.proofs.SoundArena.{sound_mapped}
use Rattle.band_line.proofs.line.Line.push_front.Given.{Over}
use Rattle.band_line.proofs.line.Line.push_front.Goals as goal

module _ (g : Over) (c : goal.After-new-1 g) where
  inserts : Inserts c.self.inside.nodes c.insert-id.new.self c.between-links.result c.args.value c.insert-id.result
  inserts = let h = c.insert-id.ensures in record { slot = h.slot; state = h.state; vacant = h.vacant; here = h.here; len = h.len }

  made :
      Makes (pointed_prev c.self.inside.front (Some c.insert-id.result) c.insert-id.new.self)
      (Some c.insert-id.result) (cond (is_some c.self.inside.front) c.self.inside.back (Some c.insert-id.result))
      (pushed_front c.args.value (list_of c.self.inside.nodes c.self.inside.front))
  made = pushes_front c.self.invariant inserts (c.between-links.ensures ∙ ap (λ prev. Some (record { prev = prev; next = c.self.inside.front })) c.none.ensures)

pub invariant_of-self : goal.invariant_of-self
invariant_of-self g c = rw (c.point_prev.ensures.nodes, c.point_prev.ensures.back, c.to-new.ensures) (made g c).line

pub returns-clause-state : goal.returns-clause-state
returns-clause-state g c = rw (c.point_prev.ensures.nodes, c.to-new.ensures, ← c.self.view_is) (made g c).shows

pub returns-clause-here : goal.returns-clause-here
returns-clause-here g c = rw (c.point_prev.ensures.nodes, c.to-new.ensures) (gains_front (inserts g c) c.self.inside.front).here

pub returns-clause-keeps : goal.returns-clause-keeps
returns-clause-keeps g c = λ other here.
    rw (c.point_prev.ensures.nodes, c.to-new.ensures, ← c.self.view_is) ((gains_front (inserts g c) c.self.inside.front).keeps other (rw (← c.self.view_is) at here))

pub returns-clause-len : goal.returns-clause-len
returns-clause-len g c = rw (c.point_prev.ensures.nodes, c.to-new.ensures, ← c.self.view_is) (gains_front (inserts g c) c.self.inside.front).len

pub returns-clause-sound : goal.returns-clause-sound
returns-clause-sound g c = rw (c.point_prev.ensures.nodes, c.to-new.ensures) (sound_list (made g c).line)

pub returns-clause-joins : goal.returns-clause-joins
returns-clause-joins g c =
    let slot = c.insert-id.ensures.slot ∙ sym (next_slot-arena_map (λ node. node.value) c.self.inside.nodes) in
    joins_front c.args.value (rw (← c.self.view_is) slot) (returns-clause-state g c)

pub returns-clause-others : goal.returns-clause-others
returns-clause-others g c = λ other differs.
    rw (c.point_prev.ensures.nodes, c.to-new.ensures, ← c.self.view_is) ((gains_front (inserts g c) c.self.inside.front).others other differs)

pub returns-clause-nodes : goal.returns-clause-nodes
returns-clause-nodes g c =
    rw (c.point_prev.ensures.nodes, c.to-new.ensures, node_values-pointed_prev c.insert-id.new.self c.self.inside.front (Some c.insert-id.result))
    (sound_mapped (λ node. node.value) c.insert-id.new.self c.insert-id.ensures.sound)
