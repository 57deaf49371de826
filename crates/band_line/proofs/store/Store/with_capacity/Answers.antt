use Rattle.std.proofs.Common.{arith, ◌-◌}
use Rattle.band_line.proofs.SoundArena.{sound_room}
use Rattle.band_line.proofs.store.Store.with_capacity.Goals as goal

pub returns-clause-sound : goal.returns-clause-sound
returns-clause-sound g c =
    rw (c.in_ok-with_capacity.ensures.items, c.in_ok-with_capacity.ensures.exact) (sound_room (c.args.n - 0) (omega (arith, c.if-n-gt-LIMIT.false)))
