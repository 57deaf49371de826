use Rattle.std.proofs.Common.{Some, ap, ◌∙◌, rules}
use Rattle.std.specs.BTreeMap.Entry.{map_with_value}
use Rattle.band_player.specs.Names.{is_object}
use Rattle.band_player.specs.Token.{counted}
use Rattle.band_player.proofs.Updates.{free_of_object, token_set, apart_set, sets_written}
use Rattle.band_player.proofs.names.Names.add_part.Goals as goal

pub invariant_of-self-2 : goal.invariant_of-self-2
invariant_of-self-2 c =
    record {
      apart =
          apart_set c.args.self.now c.args.name c.self-3-1.given.0 (Some (counted c.args.n c.args.permit.now)) (free_of_object c.args.self.now c.args.name (ap is_object c.requires.free))
          (sets_written c.args.self.now.tokens c.self-3-1.given.0 (map_with_value c.in-Ok-Vacant.field-0 c.insert.result.now) c.args.name c.insert.result.now (counted c.args.n c.args.permit.now) (search rules)
          (c.insert.ensures.value ∙ c.filled.ensures ∙ c.split-part.ensures.part)
          (c.in-Ok-Vacant.ensures.update.0 c.insert.result.now));
    }

pub returns-clause-ok : goal.returns-clause-ok
returns-clause-ok c =
    token_set c.args.self.now c.args.name c.self-3-1.given.0 (Some (counted c.args.n c.args.permit.now)) (free_of_object c.args.self.now c.args.name (ap is_object c.requires.free))
    (sets_written c.args.self.now.tokens c.self-3-1.given.0 (map_with_value c.in-Ok-Vacant.field-0 c.insert.result.now) c.args.name c.insert.result.now (counted c.args.n c.args.permit.now) (search rules)
    (c.insert.ensures.value ∙ c.filled.ensures ∙ c.split-part.ensures.part)
    (c.in-Ok-Vacant.ensures.update.0 c.insert.result.now))
