use Rattle.std.proofs.Common.{None}
use Rattle.band_player.proofs.Updates.{sets_of, free_of_object, token_set, apart_set}
use Rattle.band_player.proofs.names.Names.remove.Goals as goal

pub invariant_of-self : goal.invariant_of-self
invariant_of-self c = record {
  apart = apart_set c.args.self.now c.args.name.now c.remove.new.self None (free_of_object c.args.self.now c.args.name.now c.requires) (sets_of c.args.self.now.tokens c.remove.new.self c.args.name.now None c.remove.ensures.updates);
}

pub returns-clause-updated : goal.returns-clause-updated
returns-clause-updated c = token_set c.args.self.now c.args.name.now c.remove.new.self None (free_of_object c.args.self.now c.args.name.now c.requires) (sets_of c.args.self.now.tokens c.remove.new.self c.args.name.now None c.remove.ensures.updates)
