use Rattle.std.proofs.Common.{refl, sym, ap, ◌∙◌, arith}
use Rattle.std.specs.List.{slice_set}
use Rattle.band_player.proofs.Acting.{updated_same}
use Rattle.band_player.proofs.Calls.{drops_name, drops_nothing, drops_object}
use Rattle.band_player.proofs.Follow.{answered}
use Rattle.band_player.proofs.Visits.{pays_at}
use Rattle.band_player.proofs.Fitting.{known}
use Rattle.band_player.proofs.table.Table.drop_name.Goals as goal

pub returns-then-is_object-clause-answered : goal.returns-then-is_object-clause-answered
returns-then-is_object-clause-answered g c = answered _ _ _ _ c.requires.sound (λ state stands.
    drops_object c.args.self.now c.requires.quiet state stands c.args.self.now c.args.name.now (sym c.is_object.ensures ∙ c.if-is_object.true) (λ n. refl) refl)

pub returns-in_default-clause-answered : goal.returns-in_default-clause-answered
returns-in_default-clause-answered g c = answered _ _ _ _ c.requires.sound (λ state stands.
    let free = sym c.in_default.ensures.before in
    drops_nothing c.args.self.now c.requires.quiet state stands _ c.args.name.now free (updated_same _ _ c.args.name.now _ c.in_default.ensures.updated free) refl)

pub index_mut-requires : goal.index_mut-requires
index_mut-requires g c =
    let r = known c.args.self.now c.args.name.now c.in-Some.token c.place-place.result c.requires.sound (sym c.in-Some.ensures.before) c.place-place.ensures in
    let within = r.within in
    omega arith

pub drop_to-requires : goal.drop_to-requires
drop_to-requires g c =
    let r = known c.args.self.now c.args.name.now c.in-Some.token c.place-place.result c.requires.sound (sym c.in-Some.ensures.before) c.place-place.ensures in
    r.fits c.index_mut.result.now c.index_mut.ensures.value

pub returns-clause-answered : goal.returns-clause-answered
returns-clause-answered g c = answered _ _ _ _ c.requires.sound (λ state stands.
    let r = known c.args.self.now c.args.name.now c.in-Some.token c.place-place.result c.requires.sound (sym c.in-Some.ensures.before) c.place-place.ensures in
    drops_name c.args.self.now c.requires.quiet state stands _ c.args.name.now c.in-Some.token (sym c.in-Some.ensures.before)
    (record {
      before = c.index_mut.result.now;
      after = c.drop_to.new.object;
      there = r.there c.index_mut.result.now c.index_mut.ensures.value;
      set = ap (λ k. slice_set c.args.self.now.objects.items k c.drop_to.new.object) c.place-place.ensures;
      like = c.drop_to.ensures.state;
      lawful = c.drop_to.ensures.steady;
    })
    c.in-Some.ensures.updated c.place-place.ensures)

pub returns-clause-visits : goal.returns-clause-visits
returns-clause-visits g c =
    let r = known c.args.self.now c.args.name.now c.in-Some.token c.place-place.result c.requires.sound (sym c.in-Some.ensures.before) c.place-place.ensures in
    pays_at c.args.self.now.objects.items c.place-place.result c.index_mut.result.now c.drop_to.new.object r.within c.index_mut.ensures.value c.drop_to.ensures.visits
