use Rattle.std.proofs.Common.{Some, IsOk, subst, rules}
use Rattle.band_balance.specs.Object.{Permit}
use Rattle.band_player.specs.Moves.{held_as}
use Rattle.band_player.proofs.Named.{held_ok}
use Rattle.band_player.proofs.Updates.{sets_of, token_there, token_filled, apart_filled}
use Rattle.band_player.proofs.names.Names.take_out.Goals as goal

pub invariant_of-self : goal.invariant_of-self
invariant_of-self c = record {
  apart =
      apart_filled c.args.self.now c.args.name.now (c.get_mut.follows.lender c.take.new.self) c.take.result c.take.new.self (search rules) (sets_of c.args.self.now.tokens (c.get_mut.follows.lender c.take.new.self) c.args.name.now (Some c.take.new.self) ((c.get_mut.follows.holds c.take.new.self).3 (search rules)));
}

pub returns-clause-permit : goal.returns-clause-permit
returns-clause-permit c = token_there c.args.self.now c.args.name.now c.take.result (search rules)

pub returns-clause-mode : goal.returns-clause-mode
returns-clause-mode c = held_ok Permit c.take.result (subst (λ found. IsOk (held_as Permit found)) (returns-clause-permit c) c.requires)

pub returns-clause-updated : goal.returns-clause-updated
returns-clause-updated c =
    token_filled c.args.self.now c.args.name.now (c.get_mut.follows.lender c.take.new.self) c.take.result _ _ (search rules) c.take.ensures.left
    (sets_of c.args.self.now.tokens (c.get_mut.follows.lender c.take.new.self) c.args.name.now (Some c.take.new.self) ((c.get_mut.follows.holds c.take.new.self).3 (search rules)))
