use Rattle.std.proofs.Common.{arith, refl, sym, ◌∙◌}
use Rattle.std.proofs.lemmas.Option.{slice_get_read}
use Rattle.band_player.specs.Moves.{mode_of}
use Rattle.band_player.specs.Thing as things
use Rattle.band_player.proofs.Fitting.{fits_in, offered_in}
use Rattle.band_player.proofs.Named.{object_from, offering_as}
use Rattle.band_player.proofs.table.Table.object_for.Goals as goal

pub index-requires : goal.index-requires
index-requires c =
    let within = fits_in c.args.self.now c.args.name.now (things.Object c.in_ok-place.place) c.requires (object_from _ c.in_ok-place.place (sym c.object_at.ensures ∙ c.in_ok-place.was)) in
    omega arith

pub returns-then-offers : goal.returns-then-offers
returns-then-offers c =
    let is = sym c.object_at.ensures ∙ c.in_ok-place.was in
    let within = fits_in c.args.self.now c.args.name.now (things.Object c.in_ok-place.place) c.requires (object_from _ c.in_ok-place.place is) in
    let there = slice_get_read c.args.self.now.objects.items _ c.in_ok-place.place c.index.result.now refl within c.index.ensures in
    offered_in c.args.self.now c.requires (mode_of c.args.want) c.args.name.now c.in_ok-place.place
    (offering_as (mode_of c.args.want) c.args.self.now.objects.items _ c.in_ok-place.place c.index.result.now _ is there (sym c.offers.ensures ∙ c.if-offers.true))

pub returns-else-offers : goal.returns-else-offers
returns-else-offers c =
    let is = sym c.object_at.ensures ∙ c.in_ok-place.was in
    let within = fits_in c.args.self.now c.args.name.now (things.Object c.in_ok-place.place) c.requires (object_from _ c.in_ok-place.place is) in
    let there = slice_get_read c.args.self.now.objects.items _ c.in_ok-place.place c.index.result.now refl within c.index.ensures in
    offering_as (mode_of c.args.want) c.args.self.now.objects.items _ c.in_ok-place.place c.index.result.now _ is there (sym c.offers.ensures ∙ c.if-offers.false)
