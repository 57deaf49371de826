use Rattle.std.proofs.Common.{◌≡◌, ◌+◌, Some, ap, sym, ◌∙◌, arith, rules}
use Rattle.band_balance.specs.Object.{Permit}
use Rattle.band_player.specs.Apart.{at}
use Rattle.band_player.specs.Moves.{held_as}
use Rattle.band_player.specs.Thing.{place_at}
use Rattle.band_player.specs.Token.{TokenState, Holding, thing_of, count_of, counted}
use Rattle.band_player.proofs.Named.{held_token}
use Rattle.band_player.proofs.Updates.{sets_of, token_there, token_filled, apart_filled}
use Rattle.band_player.proofs.names.Names.grow.Goals as goal

pub join-requires : goal.join-requires
join-requires c =
    let was : at c.args.self.now.tokens c.args.name.now ≡ Some c.take-permit.result = search rules in
    let found = token_there c.args.self.now c.args.name.now c.take-permit.result was in
    let held = held_token Permit c.take-permit.result c.requires.whole (ap (held_as Permit) (sym found) ∙ c.requires.is) in
    let count : count_of c.take-permit.result ≡ c.requires.whole.count = ap count_of held.0 in
    record { mode = held.1; more = c.requires.mode; same = ap (λ t. place_at (thing_of t)) held.0 ∙ c.requires.same; fits = omega arith }

pub invariant_of-self : goal.invariant_of-self
invariant_of-self c = record {
  apart =
      apart_filled c.args.self.now c.args.name.now (c.get_mut.follows.lender c.fill.new.self) c.take-permit.result c.fill.new.self (search rules)
      (sets_of c.args.self.now.tokens (c.get_mut.follows.lender c.fill.new.self) c.args.name.now (Some c.fill.new.self) ((c.get_mut.follows.holds c.fill.new.self).3 (search rules)));
}

pub returns : goal.returns
returns c =
    let was : at c.args.self.now.tokens c.args.name.now ≡ Some c.take-permit.result = search rules in
    let found = token_there c.args.self.now c.args.name.now c.take-permit.result was in
    let held = held_token Permit c.take-permit.result c.requires.whole (ap (held_as Permit) (sym found) ∙ c.requires.is) in
    let left : c.fill.new.self ≡ Holding (record c.requires.whole { count = c.requires.whole.count + count_of c.args.more }) =
    c.fill.ensures ∙ c.join.ensures ∙ ap (λ (t : TokenState). counted (count_of t + count_of c.args.more) t) held.0 in
    record {
      whole = c.requires.whole;
      was = c.requires.is;
      updated =
          token_filled c.args.self.now c.args.name.now (c.get_mut.follows.lender c.fill.new.self) c.take-permit.result _ _ was left (sets_of c.args.self.now.tokens (c.get_mut.follows.lender c.fill.new.self) c.args.name.now (Some c.fill.new.self) ((c.get_mut.follows.holds c.fill.new.self).3 (search rules)));
    }
