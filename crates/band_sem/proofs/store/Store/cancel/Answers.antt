use Rattle.std.proofs.Common.{◌≡◌, refl, sym, subst, arith}
use Rattle.std.specs.List.Sorted.{IsPermutation}
use Rattle.std.proofs.lemmas.List.Sorted.{IsPermutation-refl}
use Rattle.std.proofs.lemmas.Int.{ints, to_z-of_z}
use Rattle.band_balance.specs.Line.{cancel, without}
use Rattle.band_partial.specs.PartialLine.{line_of}
use Rattle.band_row.specs.Row.{ended_of, is_slot, part}
use Rattle.band_sem.specs.Kept.Store.{line_in}
use Rattle.band_sem.proofs.Bridge.{SettlesTo, leaves, leaves_closing}
use Rattle.band_sem.proofs.store.Store.cancel.Given.{Over}
use Rattle.band_sem.proofs.store.Store.cancel.Goals as goal

module _ (g : Over) (c : goal.After-cancel g) where
  settles : SettlesTo (cancel (is_slot c.args.slot) (line_in c.args.self.now)) c.in_all-all.result c.args.self.now.held (line_of (part c.cancel.new.self))
  settles = (leaves c.args.self.now c.requires.sound c.cancel.new.self c.args.slot c.in_all-all.result c.in_all-all.ensures c.requires.sound.row c.cancel.ensures.cancels).0

pub free_of-self-requires-clause-all : goal.free_of-self-requires-clause-all
free_of-self-requires-clause-all g c = let whole = (settles g c).adds_up in grind (arith, ints, to_z-of_z)

pub free_of-self-requires-clause-fit : goal.free_of-self-requires-clause-fit
free_of-self-requires-clause-fit g c = (settles g c).fit

module _ (g : Over) (c : goal.After-self-1 g) where
  both : SettlesTo (cancel (is_slot c.args.slot) (line_in c.args.self.now)) c.in_all-all.result c.args.self.now.held (line_of (part c.cancel.new.self))
      × (ended_of c.cancel.new.self.list ≡ without (is_slot c.args.slot) (ended_of c.args.self.now.row.list))
  both = leaves c.args.self.now c.requires.sound c.cancel.new.self c.args.slot c.in_all-all.result c.in_all-all.ensures c.requires.sound.row c.cancel.ensures.cancels

pub returns-clause-state : goal.returns-clause-state
returns-clause-state g c = record {
  number = refl;
  line = (both g c).0.alike;
  held = refl;
  closed = refl;
  ended = subst (IsPermutation (without (is_slot c.args.slot) (ended_of c.args.self.now.row.list))) (sym (both g c).1) (IsPermutation-refl _);
}

pub returns-clause-sound : goal.returns-clause-sound
returns-clause-sound g c = record {
  row = c.cancel.ensures.row;
  settled = c.cancel.ensures.settled;
  free = c.free_of-self.ensures;
  fit = (both g c).0.fit;
  closing = leaves_closing c.args.self.now c.requires.sound c.cancel.new.self c.args.slot (both g c).1 (both g c).0.alike;
}
