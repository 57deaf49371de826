use Rattle.std.proofs.Common.{◌≡◌, Some, refl, sym, ap, ◌∙◌, subst, arith}
use Rattle.std.specs.Option.{option_map}
use Rattle.std.specs.List.{slice_get, slice_set}
use Rattle.band_balance.specs.Object.{Permit}
use Rattle.band_script.specs.declared.call.Call.TheVariants as calls
use Rattle.band_sem.specs.Semaphore.{forgotten}
use Rattle.band_player.specs.Moves.{held_as}
use Rattle.band_player.specs.Objects.{on_semaphore}
use Rattle.band_player.specs.Names.{thing_at}
use Rattle.band_player.specs.Thing.{place_at}
use Rattle.band_player.specs.Token.{TokenState, Holding, thing_of, count_of}
use Rattle.band_player.proofs.Calls.{refused_holding, forgets}
use Rattle.band_player.proofs.Follow.{answered}
use Rattle.band_player.proofs.Named.{held_token}
use Rattle.band_player.proofs.Fitting.{known}
use Rattle.band_player.proofs.table.Table.forget.Goals as goal

pub returns-in-Err-clause-answered : goal.returns-in-Err-clause-answered
returns-in-Err-clause-answered c = answered _ _ _ _ c.requires.sound (λ state stands.
    refused_holding c.args.self.now c.requires.quiet state stands c.args.self.now (λ n. refl) refl (calls.Forget c.args.name.now) Permit c.args.name.now c.in-Err.refusal c.in-Err.ensures _ refl)

pub index_mut-requires : goal.index_mut-requires
index_mut-requires c =
    let found = sym c.remove.ensures.before ∙ ap (option_map thing_of) c.unwrap-permit.ensures in
    let within = (known c.args.self.now c.args.name.now c.unwrap-permit.result c.place-place.result c.requires.sound found c.place-place.ensures).within in
    omega arith

pub forget_at-requires-clause-fits : goal.forget_at-requires-clause-fits
forget_at-requires-clause-fits c =
    let found = sym c.remove.ensures.before ∙ ap (option_map thing_of) c.unwrap-permit.ensures in
    (known c.args.self.now c.args.name.now c.unwrap-permit.result c.place-place.result c.requires.sound found c.place-place.ensures).fits c.index_mut.result.now c.index_mut.ensures.value

pub returns-clause-answered : goal.returns-clause-answered
returns-clause-answered c = answered _ _ _ _ c.requires.sound (λ state stands.
    let token = c.unwrap-permit.result in
    let found : thing_at c.args.self.now.names c.args.name.now ≡ Some (thing_of token) = sym c.remove.ensures.before ∙ ap (option_map thing_of) c.unwrap-permit.ensures in
    let r = known c.args.self.now c.args.name.now token c.place-place.result c.requires.sound found c.place-place.ensures in
    let permit = c.in_default.ensures.holding in
    let is : token ≡ Holding permit = (held_token Permit token permit (ap (held_as Permit) (sym found) ∙ c.in_default.ensures.is)).0 in
    let at = c.place-place.ensures ∙ ap (λ (t : TokenState). place_at (thing_of t)) is in
    let object = c.index_mut.result.now in
    forgets c.args.self.now c.requires.quiet state stands _ c.args.name.now permit c.in_default.ensures.is object c.forget_at.new.object
    (subst (λ (t : TokenState). slice_get c.args.self.now.objects.items (place_at (thing_of t)) ≡ Some object) is (r.there object c.index_mut.ensures.value))
    (c.forget_at.ensures.state ∙ ap (λ (t : TokenState). on_semaphore (forgotten (count_of t)) object) is) c.forget_at.ensures.steady c.remove.ensures.updated
    (ap (λ k. slice_set c.args.self.now.objects.items k c.forget_at.new.object) at) at)
