use Rattle.std.proofs.Common.{◌≡◌, ◌<◌, Some, refl, sym, ap, ◌∙◌, subst, arith, rules}
use Rattle.std.specs.List.{slice_get, slice_set}
use Rattle.band_balance.specs.Object.{Read, Write}
use Rattle.band_script.specs.declared.call.Call.TheVariants as calls
use Rattle.band_player.proofs.Calls.{refused_holding, downgrades}
use Rattle.band_player.proofs.Follow.{answered}
use Rattle.band_player.specs.Apart.{at as at_name}
use Rattle.band_player.specs.Moves.{held_as, downgraded}
use Rattle.band_player.specs.Objects.{IsLikeObject}
use Rattle.band_player.specs.Thing.{place_at}
use Rattle.band_player.specs.Token.{TokenState, Holding, thing_of, count_of}
use Rattle.band_player.proofs.Named.{held_token}
use Rattle.band_player.proofs.Updates.{sets_of, token_there, token_filled, apart_filled}
use Rattle.band_player.proofs.Visits.{pays_at}
use Rattle.band_player.proofs.Fitting.{known_token}
use Rattle.band_player.proofs.table.Table.downgrade.Goals as goal

pub returns-in-Err-clause-answered : goal.returns-in-Err-clause-answered
returns-in-Err-clause-answered g c = answered _ _ _ _ c.requires.sound (λ state stands.
    refused_holding c.args.self.now c.requires.quiet state stands c.args.self.now (λ n. refl) refl (calls.Downgrade c.args.name.now) Write c.args.name.now c.in-Err.refusal c.in-Err.ensures _ refl)

pub index_mut-object-requires : goal.index_mut-object-requires
index_mut-object-requires g c =
    let within = (known_token c.args.self.now c.args.name.now c.take-writer.result c.place-place.result c.requires.sound (search rules) c.place-place.ensures).within in
    omega arith

pub downgrade_at-requires-clause-fits : goal.downgrade_at-requires-clause-fits
downgrade_at-requires-clause-fits g c =
    let r = known_token c.args.self.now c.args.name.now c.take-writer.result c.place-place.result c.requires.sound (search rules) c.place-place.ensures in
    r.fits c.index_mut-object.result.now c.index_mut-object.ensures.value

pub invariant_of-self : goal.invariant_of-self
invariant_of-self g c = record {
  apart =
      apart_filled c.args.self.now.names c.args.name.now (c.get_mut.follows.lender c.fill.new.self) c.take-writer.result c.fill.new.self (search rules)
      (sets_of c.args.self.now.names.tokens (c.get_mut.follows.lender c.fill.new.self) c.args.name.now (Some c.fill.new.self) ((c.get_mut.follows.holds c.fill.new.self).3 (search rules)));
}

pub returns-clause-answered : goal.returns-clause-answered
returns-clause-answered g c = answered _ _ _ _ c.requires.sound (λ state stands.
    let token = c.take-writer.result in
    let was : at_name c.args.self.now.names.tokens c.args.name.now ≡ Some token = search rules in
    let r = known_token c.args.self.now c.args.name.now token c.place-place.result c.requires.sound was c.place-place.ensures in
    let writer = c.in_default.ensures.holding in
    let is : token ≡ Holding writer =
    (held_token Write token writer (ap (held_as Write) (sym (token_there c.args.self.now.names c.args.name.now token was)) ∙ c.in_default.ensures.is)).0 in
    let at = c.place-place.ensures ∙ ap (λ (t : TokenState). place_at (thing_of t)) is in
    let object = c.index_mut-object.result.now in
    let after = c.downgrade_at.new.object in
    downgrades c.args.self.now c.requires.quiet state stands _ c.args.name.now writer c.in_default.ensures.is (subst (λ (t : TokenState). 0 < count_of t) is c.downgrade_at.ensures.some)
    (record {
      before = object;
      after = after;
      there = subst (λ (t : TokenState). slice_get c.args.self.now.objects.items (place_at (thing_of t)) ≡ Some object) is (r.there object c.index_mut-object.ensures.value);
      set = ap (λ k. slice_set c.args.self.now.objects.items k after) at;
      like = subst (λ (t : TokenState). IsLikeObject (downgraded (count_of t) object) after) is c.downgrade_at.ensures.state;
      lawful = c.downgrade_at.ensures.steady;
    })
    (token_filled c.args.self.now.names c.args.name.now (c.get_mut.follows.lender c.fill.new.self) token _ _ was
    (c.fill.ensures ∙ c.downgrade_at.ensures.reader ∙ ap (λ (t : TokenState). Holding (record { mode = Read; of = place_at (thing_of t); count = 1 })) is)
    (sets_of c.args.self.now.names.tokens (c.get_mut.follows.lender c.fill.new.self) c.args.name.now (Some c.fill.new.self) ((c.get_mut.follows.holds c.fill.new.self).3 (search rules)))) at)

pub returns-clause-visits : goal.returns-clause-visits
returns-clause-visits g c =
    let r = known_token c.args.self.now c.args.name.now c.take-writer.result c.place-place.result c.requires.sound (search rules) c.place-place.ensures in
    pays_at c.args.self.now.objects.items c.place-place.result c.index_mut-object.result.now c.downgrade_at.new.object r.within c.index_mut-object.ensures.value c.downgrade_at.ensures.visits
