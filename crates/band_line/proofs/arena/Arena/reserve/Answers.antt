use Rattle.std.proofs.Common.{arith, sym, subst, ◌+◌, ◌*◌, ◌<◌, ◌≤◌, min, max, OnOk}
use Rattle.band_line.specs.Arena.{slot_limit}
use Rattle.band_line.proofs.NodeValues.{len_is}
use Rattle.band_line.proofs.SoundArena.{sound_mapped}
use Rattle.band_line.proofs.arena.Arena.reserve.Goals as goal

pub returns-clause-limit : goal.returns-clause-limit
returns-clause-limit g c = λ over. c.reserve.ensures.limit (omega (arith, len_is c.self.inside.store, rw (← c.self.view_is) at over))

pub returns-clause-twofold : goal.returns-clause-twofold
returns-clause-twofold g c =
    let spare = c.self.inside.store.spare in
    rw (← c.self.view_is)
    (subst (λ many. OnOk c.reserve.result (spare < c.args.n → min slot_limit (2 * (many + spare)) ≤ many + c.reserve.new.self.spare))
    (sym (len_is c.self.inside.store)) c.reserve.ensures.twofold)

pub returns-clause-most : goal.returns-clause-most
returns-clause-most g c =
    let spare = c.self.inside.store.spare in
    rw (← c.self.view_is)
    (subst (λ many. OnOk c.reserve.result (many + c.reserve.new.self.spare ≤ max (many + c.args.n) (2 * (many + spare))))
    (sym (len_is c.self.inside.store)) c.reserve.ensures.most)

pub returns-clause-sound : goal.returns-clause-sound
returns-clause-sound g c = sound_mapped (λ node. node.value) c.reserve.new.self c.reserve.ensures.sound
