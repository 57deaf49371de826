use Rattle.std.proofs.Common.{◌+ℤ◌, pos, refl, sym, subst, arith}
use Rattle.std.proofs.lemmas.Int.{ints, to_z-of_z}
use Rattle.band_balance.specs.Line.{give_back}
use Rattle.band_partial.specs.PartialLine.{line_of}
use Rattle.std.specs.List.Sorted.{IsPermutation}
use Rattle.std.proofs.lemmas.List.Sorted.{IsPermutation-refl}
use Rattle.band_row.specs.Row.{ended_of, part}
use Rattle.band_sem.specs.Kept.Store.{line_in}
use Rattle.band_sem.proofs.Bridge.{SettlesTo, gives, gives_closing}
use Rattle.band_sem.proofs.store.Store.add.Given.{Over}
use Rattle.band_sem.proofs.store.Store.add.Goals as goal

module _ (g : Over) (c : goal.After-pass_on g) where
  settles : SettlesTo (give_back c.args.count (line_in c.args.self.now)) (c.in_all.result +ℤ pos c.args.count) c.args.self.now.held (line_of (part c.pass_on.new.self))
  settles = gives c.args.self.now c.requires.sound c.pass_on.new.self c.args.count c.in_all.result c.requires.fits c.pass_on.ensures.part c.in_all.ensures

pub free_of-self-requires-clause-all : goal.free_of-self-requires-clause-all
free_of-self-requires-clause-all g c = let whole = (settles g c).adds_up in grind (arith, ints, to_z-of_z)

pub free_of-self-requires-clause-fit : goal.free_of-self-requires-clause-fit
free_of-self-requires-clause-fit g c = (settles g c).fit

module _ (g : Over) (c : goal.After-self-1 g) where
  settled : SettlesTo (give_back c.args.count (line_in c.args.self.now)) (c.in_all.result +ℤ pos c.args.count) c.args.self.now.held (line_of (part c.pass_on.new.self))
  settled = gives c.args.self.now c.requires.sound c.pass_on.new.self c.args.count c.in_all.result c.requires.fits c.pass_on.ensures.part c.in_all.ensures

pub returns-clause-state : goal.returns-clause-state
returns-clause-state g c = record {
  number = refl;
  line = (settled g c).alike;
  held = refl;
  closed = refl;
  ended = subst (IsPermutation (ended_of c.args.self.now.row.list)) (sym c.pass_on.ensures.ended) (IsPermutation-refl (ended_of c.args.self.now.row.list));
}

pub returns-clause-sound : goal.returns-clause-sound
returns-clause-sound g c = record {
  row = c.pass_on.ensures.row;
  settled = c.pass_on.ensures.settled;
  free = c.free_of-self.ensures;
  fit = (settled g c).fit;
  closing = gives_closing c.args.self.now c.requires.sound c.pass_on.new.self c.args.count c.pass_on.ensures.ended (settled g c).alike;
}
