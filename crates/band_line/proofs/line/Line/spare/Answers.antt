use Rattle.std.proofs.Common.{arith}
use Rattle.band_line.proofs.ArenaMaps.{occupied_len-arena_map}
use Rattle.band_line.proofs.LineLemmas.{sound_list}
use Rattle.band_line.proofs.SoundArena.{sound_mapped}
use Rattle.band_line.proofs.line.Line.spare.Goals as goal

pub returns-clause-limit : goal.returns-clause-limit
returns-clause-limit g c = rw (← c.self.view_is) (omega (arith, c.spare.ensures.limit, occupied_len-arena_map (λ node. node.value) c.self.inside.nodes))

pub returns-clause-sound : goal.returns-clause-sound
returns-clause-sound g c = rw (← c.self.view_is) (sound_list c.self.invariant)

pub returns-clause-nodes : goal.returns-clause-nodes
returns-clause-nodes g c = rw (← c.self.view_is) (sound_mapped (λ node. node.value) c.self.inside.nodes c.spare.ensures.sound)
