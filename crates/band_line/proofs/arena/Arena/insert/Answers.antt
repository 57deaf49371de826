use Rattle.std.proofs.Common.{ap, sym, ◌∙◌, ◌+◌}
use Rattle.band_line.proofs.ArenaMaps.{arena_map-inserted}
use Rattle.band_line.proofs.NodeValues.{len_is, others_shown, values_shown}
use Rattle.band_line.proofs.SoundArena.{sound_mapped}
use Rattle.band_line.proofs.arena.Arena.insert.Goals as goal

pub returns-clause-state : goal.returns-clause-state
returns-clause-state g c =
    rw (c.insert.ensures.state, ← c.self.view_is)
    (arena_map-inserted (λ node. node.value) c.self.inside.store (record { links = tt; value = c.args.value }))

pub returns-clause-others : goal.returns-clause-others
returns-clause-others g c = rw (← c.self.view_is) (others_shown c.self.inside.store c.insert.new.self c.insert.ensures.others)

pub returns-clause-keeps : goal.returns-clause-keeps
returns-clause-keeps g c = rw (← c.self.view_is) (values_shown c.self.inside.store c.insert.new.self c.insert.ensures.keeps)

pub returns-clause-len : goal.returns-clause-len
returns-clause-len g c =
    rw (← c.self.view_is) (len_is c.insert.new.self ∙ c.insert.ensures.len ∙ ap (λ n. n + 1) (sym (len_is c.self.inside.store)))

pub returns-clause-sound : goal.returns-clause-sound
returns-clause-sound g c = sound_mapped (λ node. node.value) c.insert.new.self c.insert.ensures.sound
