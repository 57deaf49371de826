use Rattle.std.proofs.Common.{is_some, arith, ap}
use Rattle.band_line.proofs.ArenaMaps.{occupied_len-with_value}
use Rattle.band_line.proofs.SoundArena.{sound_with_value}
use Rattle.band_line.proofs.waker_set.WakerSet.register.Goals as goal

pub returns-in-Some-clause-len : goal.returns-in-Some-clause-len
returns-in-Some-clause-len g c =
    let same = occupied_len-with_value c.self.inside.wakers c.token.inside.slot c.replace_waker.new.current (ap is_some c.occupied_mut.ensures.value) in
    rw (c.in-Some.is, ← c.self.view_is) (omega (arith, same))

pub invariant_of-self : goal.invariant_of-self
invariant_of-self g c =
    sound_with_value c.self.inside.wakers c.token.inside.slot c.replace_waker.new.current (ap is_some c.occupied_mut.ensures.value) c.self.invariant

pub returns-in-Some-clause-sound : goal.returns-in-Some-clause-sound
returns-in-Some-clause-sound g c = invariant_of-self g c
