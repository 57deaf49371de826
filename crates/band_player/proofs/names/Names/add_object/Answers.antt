use Rattle.band_player.proofs.Updates.{free_of_token, object_added, object_apart}
use Rattle.band_player.proofs.names.Names.add_object.Goals as goal

pub invariant_of-self : goal.invariant_of-self
invariant_of-self c = record {
  apart = object_apart c.args.self.now c.args.name c.insert.new.self c.args.place c.insert.result (free_of_token c.args.self.now c.args.name c.requires) c.insert.ensures.updates c.insert.ensures.err;
}

pub returns-in-Ok-clause-ok : goal.returns-in-Ok-clause-ok
returns-in-Ok-clause-ok c = object_added c.args.self.now c.args.name c.insert.new.self c.args.place c.in-Ok.ensures.updates
