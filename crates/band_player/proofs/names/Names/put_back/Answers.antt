use Rattle.std.proofs.Common.{Some, ap, subst, rules}
use Rattle.band_player.specs.Apart.{Sets}
use Rattle.band_player.specs.Names.{is_object}
use Rattle.band_player.specs.Token.{TokenState}
use Rattle.band_player.proofs.Updates.{sets_of, free_of_object, token_set, apart_set}
use Rattle.band_player.proofs.names.Names.put_back.Goals as goal

pub invariant_of-self : goal.invariant_of-self
invariant_of-self c = record {
  apart =
      apart_set c.args.self.now c.args.name.now (c.get_mut.follows.lender c.fill.new.self) (Some c.fill.new.self) (free_of_object c.args.self.now c.args.name.now (ap is_object c.requires))
      (sets_of c.args.self.now.tokens (c.get_mut.follows.lender c.fill.new.self) c.args.name.now (Some c.fill.new.self) ((c.get_mut.follows.holds c.fill.new.self).3 (search rules)));
}

pub returns : goal.returns
returns c =
    token_set c.args.self.now c.args.name.now (c.get_mut.follows.lender c.fill.new.self) _ (free_of_object c.args.self.now c.args.name.now (ap is_object c.requires))
    (subst (λ (t : TokenState). Sets c.args.self.now.tokens (c.get_mut.follows.lender c.fill.new.self) c.args.name.now (Some t)) c.fill.ensures
    (sets_of c.args.self.now.tokens (c.get_mut.follows.lender c.fill.new.self) c.args.name.now (Some c.fill.new.self) ((c.get_mut.follows.holds c.fill.new.self).3 (search rules))))
