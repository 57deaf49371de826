use Rattle.std.proofs.Common.{◌≡◌, ℕ, List, Option, Some, refl, sym, ap, ◌∙◌, subst, arith, rules}
use Rattle.std.specs.List.{slice_set}
use Rattle.band_player.specs.Apart.{at}
use Rattle.band_balance.proofs.Rules.{bytes_told}
use Rattle.band_player.specs.Moves.{object_place, left_by}
use Rattle.band_player.specs.Thing.{Thing}
use Rattle.band_player.specs.Names.{Updated, is_object, thing_from, thing_at}
use Rattle.band_player.proofs.Calls.{polls_token, polls_object, polls_nothing}
use Rattle.band_player.proofs.Follow.{answered}
use Rattle.band_player.proofs.Named.{object_from}
use Rattle.band_player.proofs.Polled.{can_poll, was_polled}
use Rattle.band_player.proofs.Updates.{sets_of, token_there, no_token_kind, token_filled, apart_filled, updated_twice}
use Rattle.band_player.proofs.Visits.{pays_at}
use Rattle.band_player.proofs.Fitting.{known_token}
use Rattle.band_player.proofs.table.Table.poll.Goals as goal

pub returns-in-Ok-clause-answered : goal.returns-in-Ok-clause-answered
returns-in-Ok-clause-answered g c = answered _ _ _ _ c.requires.sound (λ state stands.
    let same : (n : List ℕ) → thing_from (at c.args.self.now.names.objects n) (at c.get_mut.follows.lender-at-none n) ≡ thing_at c.args.self.now.names n
    = λ n. ap (λ m. thing_from (at c.args.self.now.names.objects n) (at m n)) c.get_mut.follows.holds-at-none in
    let is = object_from _ _ (sym (ap object_place (same c.args.name.now)) ∙ sym c.object_at.ensures ∙ c.in-Ok.is) in
    polls_object c.args.self.now c.requires.quiet state stands _ c.args.name.now (ap is_object is) same refl c.args.waker.0)

pub returns-in-Err-clause-answered : goal.returns-in-Err-clause-answered
returns-in-Err-clause-answered g c = answered _ _ _ _ c.requires.sound (λ state stands.
    let same : (n : List ℕ) → thing_from (at c.args.self.now.names.objects n) (at c.get_mut.follows.lender-at-none n) ≡ thing_at c.args.self.now.names n
    = λ n. ap (λ m. thing_from (at c.args.self.now.names.objects n) (at m n)) c.get_mut.follows.holds-at-none in
    let none = no_token_kind (at c.args.self.now.names.objects c.args.name.now) (at c.args.self.now.names.tokens c.args.name.now) c.in-Err.refusal (search rules)
    (sym (ap object_place (same c.args.name.now)) ∙ sym c.object_at.ensures ∙ c.in-Err.is) in
    polls_nothing c.args.self.now c.requires.quiet state stands _ c.args.name.now c.args.waker.0 c.in-Err.refusal none.1 none.0 same refl)

pub index_mut-object-requires : goal.index_mut-object-requires
index_mut-object-requires g c =
    let within = (known_token c.args.self.now c.args.name.now c.take-token.result c.place-place.result c.requires.sound (search rules) c.place-place.ensures).within in
    omega arith

pub poll-requires : goal.poll-requires
poll-requires g c =
    let r = known_token c.args.self.now c.args.name.now c.take-token.result c.place-place.result c.requires.sound (search rules) c.place-place.ensures in
    can_poll c.index_mut-object.result.now c.take-token.result (r.fits c.index_mut-object.result.now c.index_mut-object.ensures.value)

pub unreachable-requires : goal.unreachable-requires
unreachable-requires g c =
    let r = known_token c.args.self.now c.args.name.now c.take-token.result c.place-place.result c.requires.sound (search rules) c.place-place.ensures in
    let object = c.index_mut-object.result.now in
    let later = c.in-Err-poll.ensures.later (was_polled object c.take-token.result (r.fits object c.index_mut-object.ensures.value)) in
    cc

pub invariant_of-self-in-Err-poll : goal.invariant_of-self-in-Err-poll
invariant_of-self-in-Err-poll g c = record {
  apart =
      apart_filled c.args.self.now.names c.args.name.now (c.get_mut.follows.lender c.take-token.new.self) c.take-token.result c.take-token.new.self (search rules)
      (sets_of c.args.self.now.names.tokens (c.get_mut.follows.lender c.take-token.new.self) c.args.name.now (Some c.take-token.new.self) ((c.get_mut.follows.holds c.take-token.new.self).3 (search rules)));
}

pub invariant_of-self-in-Ok-poll : goal.invariant_of-self-in-Ok-poll
invariant_of-self-in-Ok-poll g c = record {
  apart =
      apart_filled c.args.self.now.names c.args.name.now (c.get_mut.follows.lender c.fill.new.self) c.take-token.result c.fill.new.self (search rules)
      (sets_of c.args.self.now.names.tokens (c.get_mut.follows.lender c.fill.new.self) c.args.name.now (Some c.fill.new.self) ((c.get_mut.follows.holds c.fill.new.self).3 (search rules)));
}

pub returns-clause-answered : goal.returns-clause-answered
returns-clause-answered g c = answered _ _ _ _ c.requires.sound (λ state stands.
    let token = c.take-token.result in
    let object = c.index_mut-object.result.now in
    let was : at c.args.self.now.names.tokens c.args.name.now ≡ Some token = search rules in
    let there = (known_token c.args.self.now c.args.name.now token c.place-place.result c.requires.sound was c.place-place.ensures).there object c.index_mut-object.ensures.value in
    polls_token c.args.self.now c.requires.quiet state stands _ c.args.name.now c.args.waker.0 c.in-Ok-poll.reply token c.in-Ok-poll.token object c.poll.new.object
    (token_there c.args.self.now.names c.args.name.now token was) there c.in-Ok-poll.ensures.ok
    (let filled = token_filled c.args.self.now.names c.args.name.now (c.get_mut.follows.lender c.fill.new.self) token _ _ was c.fill.ensures (sets_of c.args.self.now.names.tokens (c.get_mut.follows.lender c.fill.new.self) c.args.name.now (Some c.fill.new.self) ((c.get_mut.follows.holds c.fill.new.self).3 (search rules))) in
    subst (λ (thing : Option Thing). Updated (thing_at c.args.self.now.names) (thing_at c.end_closed.new.self) c.args.name.now (left_by c.in-Ok-poll.reply thing))
    (filled.here c.args.name.now (bytes_told.itself c.args.name.now)) (updated_twice filled c.end_closed.ensures))
    (ap (λ k. slice_set c.args.self.now.objects.items k c.poll.new.object) c.place-place.ensures) c.place-place.ensures)

pub returns-clause-visits : goal.returns-clause-visits
returns-clause-visits g c =
    let r = known_token c.args.self.now c.args.name.now c.take-token.result c.place-place.result c.requires.sound (search rules) c.place-place.ensures in
    pays_at c.args.self.now.objects.items c.place-place.result c.index_mut-object.result.now c.poll.new.object r.within c.index_mut-object.ensures.value c.poll.ensures.visits
