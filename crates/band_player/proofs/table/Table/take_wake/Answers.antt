use Rattle.std.proofs.Common.{refl, ap, arith}
use Rattle.std.proofs.lemmas.Option.{slice_get_read, slice_get_past}
use Rattle.band_player.specs.Kept.{wakes_of}
use Rattle.band_player.proofs.Follow.{sound_still}
use Rattle.band_player.proofs.Waking.{still_stands}
use Rattle.band_player.proofs.table.Table.take_wake.Goals as goal

pub returns-then-last-len-clause-state : goal.returns-then-last-len-clause-state
returns-then-last-len-clause-state c = λ state stands.
    let there = slice_get_read c.args.self.now.objects.items _ c.args.self.now.last c.index_mut.result.now refl (omega arith) c.index_mut.ensures.value in
    still_stands c.args.self.now _ c.index_mut.result.now c.take_wake.new.self c.take_wake.result there c.take_wake.ensures.woken c.take_wake.ensures.steady refl refl refl state stands

pub returns-then-last-len-clause-sound : goal.returns-then-last-len-clause-sound
returns-then-last-len-clause-sound c = sound_still c.args.self.now _ c.requires (returns-then-last-len-clause-state c)

pub returns-clause-woken : goal.returns-clause-woken
returns-clause-woken c =
    let past = ap wakes_of (slice_get_past c.args.self.now.objects.items c.args.self.now.last (omega arith)) in
    (past, past)
