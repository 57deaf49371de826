use Rattle.std.proofs.Common.{ap, sym, ◌∙◌, ◌+◌}
use Rattle.band_line.proofs.ArenaMaps.{arena_map-removed}
use Rattle.band_line.proofs.NodeValues.{len_is, others_shown}
use Rattle.band_line.proofs.SoundArena.{sound_mapped}
use Rattle.band_line.proofs.arena.Arena.remove.Goals as goal

pub returns-clause-state : goal.returns-clause-state
returns-clause-state g c =
    rw (c.remove.ensures.state, ← c.self.view_is) (arena_map-removed (λ node. node.value) c.self.inside.store c.args.id)

pub returns-clause-others : goal.returns-clause-others
returns-clause-others g c = rw (← c.self.view_is) (others_shown c.self.inside.store c.remove.new.self c.remove.ensures.others)

pub returns-clause-len : goal.returns-clause-len
returns-clause-len g c =
    rw (← c.self.view_is) (ap (λ n. n + 1) (len_is c.remove.new.self) ∙ c.remove.ensures.len ∙ sym (len_is c.self.inside.store))

pub returns-clause-sound : goal.returns-clause-sound
returns-clause-sound g c = sound_mapped (λ node. node.value) c.remove.new.self c.remove.ensures.sound
