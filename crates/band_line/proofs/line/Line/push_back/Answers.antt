use Rattle.std.proofs.Common.{◌≡◌, ℕ, ◌+◌, List, [], ◌∷◌, slice_get, arith, sym, ◌∙◌, ap, Some, None, is_some, cond}
use Rattle.band_line.specs.WaitList.{pushed_back}
use Rattle.band_line.specs.Line.{last_or, linked_of, list_of, pointed_next}
use Rattle.band_line.proofs.Linking.{back_linked, last_or-some}
use Rattle.band_line.proofs.LineLemmas.{Inserts, Makes, pushes_back, gains_back, stays_linked, waits, sound_list, node_values-pointed_next}
use Rattle.band_line.proofs.ArenaMaps.{next_slot-arena_map}
use Rattle.band_line.proofs.WaitListLemmas.{joins_back}
use Rattle.band_line.proofs.SoundArena.{sound_mapped}
use Rattle.band_line.proofs.line.Line.push_back.Given.{Over}
use Rattle.band_line.proofs.line.Line.push_back.Goals as goal

pub point_next-requires : goal.point_next-requires
point_next-requires g c = λ id e.
    let h = c.insert-id.ensures in
    let inserts : Inserts c.self.inside.nodes c.insert-id.new.self c.between-links.result c.args.value c.insert-id.result =
    record { slot = h.slot; state = h.state; vacant = h.vacant; here = h.here; len = h.len } in
    waits c.insert-id.new.self _ (stays_linked inserts id (back_linked c.self.invariant.line id e))

module _ (g : Over) (c : goal.After-new-1 g) where
  inserts : Inserts c.self.inside.nodes c.insert-id.new.self c.between-links.result c.args.value c.insert-id.result
  inserts = let h = c.insert-id.ensures in record { slot = h.slot; state = h.state; vacant = h.vacant; here = h.here; len = h.len }

  made :
      Makes (pointed_next c.self.inside.back (Some c.insert-id.result) c.insert-id.new.self)
      (cond (is_some c.self.inside.back) c.self.inside.front (Some c.insert-id.result)) (Some c.insert-id.result)
      (pushed_back c.args.value (list_of c.self.inside.nodes c.self.inside.front))
  made = pushes_back c.self.invariant inserts (c.between-links.ensures ∙ ap (λ next. Some (record { prev = c.self.inside.back; next = next })) c.none.ensures)

pub invariant_of-self : goal.invariant_of-self
invariant_of-self g c = rw (c.point_next.ensures.nodes, c.point_next.ensures.front, c.to-new.ensures) (made g c).line

pub returns-clause-state : goal.returns-clause-state
returns-clause-state g c = rw (c.point_next.ensures.nodes, c.point_next.ensures.front, c.to-new.ensures, ← c.self.view_is) (made g c).shows

pub returns-clause-here : goal.returns-clause-here
returns-clause-here g c = rw (c.point_next.ensures.nodes, c.to-new.ensures) (gains_back (inserts g c) c.self.inside.back).here

pub returns-clause-keeps : goal.returns-clause-keeps
returns-clause-keeps g c = λ other here.
    rw (c.point_next.ensures.nodes, c.to-new.ensures, ← c.self.view_is) ((gains_back (inserts g c) c.self.inside.back).keeps other (rw (← c.self.view_is) at here))

pub returns-clause-len : goal.returns-clause-len
returns-clause-len g c = rw (c.point_next.ensures.nodes, c.to-new.ensures, ← c.self.view_is) (gains_back (inserts g c) c.self.inside.back).len

pub returns-clause-sound : goal.returns-clause-sound
returns-clause-sound g c = rw (c.point_next.ensures.nodes, c.point_next.ensures.front, c.to-new.ensures) (sound_list (made g c).line)

pub returns-clause-joins : goal.returns-clause-joins
returns-clause-joins g c =
    let slot = c.insert-id.ensures.slot ∙ sym (next_slot-arena_map (λ node. node.value) c.self.inside.nodes) in
    joins_back c.args.value (rw (← c.self.view_is) slot) (returns-clause-state g c)

pub returns-clause-others : goal.returns-clause-others
returns-clause-others g c = λ other differs.
    rw (c.point_next.ensures.nodes, c.to-new.ensures, ← c.self.view_is) ((gains_back (inserts g c) c.self.inside.back).others other differs)

pub returns-clause-nodes : goal.returns-clause-nodes
returns-clause-nodes g c =
    rw (c.point_next.ensures.nodes, c.to-new.ensures, node_values-pointed_next c.insert-id.new.self c.self.inside.back (Some c.insert-id.result))
    (sound_mapped (λ node. node.value) c.insert-id.new.self c.insert-id.ensures.sound)

-- where somebody is first, somebody is last
beside : (ids : List ℕ) (steps : ℕ) → (steps + 1) + cond (is_some (last_or None ids)) 1 0 ≡ steps + cond (is_some (slice_get ids 0)) 2 1
beside [] steps = omega arith
beside (x ∷ xs) steps = rw (last_or-some x xs) (omega arith)

pub returns-clause-counted : goal.returns-clause-counted
returns-clause-counted g c =
    rw (c.point_next.ensures.visits, c.insert-id.ensures.visits, ← c.self.view_is, c.self.invariant.line.back_is)
    (beside (linked_of c.self.inside.nodes c.self.inside.front) c.args.steps.now)
