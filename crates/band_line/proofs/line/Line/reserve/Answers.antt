use Rattle.band_line.specs.Arena.{ArenaState, with_room, slot_limit}
use Rattle.band_line.specs.Line.{IsWaitLine, list_of}
use Rattle.std.proofs.Common.{arith, ap, sym, ◌∙◌, subst, ℕ, ◌+◌, ◌*◌, ◌<◌, ◌≤◌, min, max, OnOk, Option}
use Rattle.band_line.specs.Line.{Node}
use Rattle.band_line.proofs.ArenaMaps.{occupied_len-arena_map}
use Rattle.band_line.proofs.LineLemmas.{sound_list}
use Rattle.band_line.proofs.SoundArena.{sound_mapped}
use Rattle.band_line.proofs.line.Line.reserve.Goals as goal

-- other room links nobody else
IsWaitLine-with_room : {T : Type 0} {nodes : ArenaState (Node T)} {front back : Option ℕ} (spare : ℕ) → IsWaitLine nodes front back → IsWaitLine (with_room spare nodes) front back
IsWaitLine-with_room spare line = record { line = line.line; counted = line.counted }

pub invariant_of-self : goal.invariant_of-self
invariant_of-self g c = rw c.reserve.ensures.same (IsWaitLine-with_room c.reserve.new.self.spare c.self.invariant)

pub returns-clause-same : goal.returns-clause-same
returns-clause-same g c = rw (c.reserve.ensures.same, ← c.self.view_is)

pub returns-clause-limit : goal.returns-clause-limit
returns-clause-limit g c =
    let same = occupied_len-arena_map (λ node. node.value) c.self.inside.nodes in
    λ over. c.reserve.ensures.limit (omega (arith, same, rw (← c.self.view_is) at over))

pub returns-clause-twofold : goal.returns-clause-twofold
returns-clause-twofold g c =
    let spare = c.self.inside.nodes.spare in
    rw (← c.self.view_is)
    (subst (λ many. OnOk c.reserve.result (spare < c.args.n → min slot_limit (2 * (many + spare)) ≤ many + c.reserve.new.self.spare))
    (sym (occupied_len-arena_map (λ node. node.value) c.self.inside.nodes)) c.reserve.ensures.twofold)

pub returns-clause-most : goal.returns-clause-most
returns-clause-most g c =
    let spare = c.self.inside.nodes.spare in
    rw (← c.self.view_is)
    (subst (λ many. OnOk c.reserve.result (many + c.reserve.new.self.spare ≤ max (many + c.args.n) (2 * (many + spare))))
    (sym (occupied_len-arena_map (λ node. node.value) c.self.inside.nodes)) c.reserve.ensures.most)

pub returns-clause-no_more : goal.returns-clause-no_more
returns-clause-no_more g c = λ fits.
    ap (λ nodes. list_of nodes c.self.inside.front) (c.reserve.ensures.no_more (rw (← c.self.view_is) at fits)) ∙ c.self.view_is

pub returns-clause-sound : goal.returns-clause-sound
returns-clause-sound g c = rw c.reserve.ensures.same (sound_list (IsWaitLine-with_room c.reserve.new.self.spare c.self.invariant))

pub returns-clause-nodes : goal.returns-clause-nodes
returns-clause-nodes g c = sound_mapped (λ node. node.value) c.reserve.new.self c.reserve.ensures.sound
