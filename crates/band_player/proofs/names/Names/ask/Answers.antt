use Rattle.std.proofs.Common.{◌≡◌, ℕ, List, None, Some, ap, ◌∙◌, subst, rules}
use Rattle.std.specs.BTreeMap.{BTreeMap}
use Rattle.std.specs.BTreeMap.Entry.{map_with_value, map_without_entry}
use Rattle.band_player.specs.Apart.{at}
use Rattle.band_player.specs.Moves.{PollsToken}
use Rattle.band_player.specs.Names.{is_object, thing_from}
use Rattle.band_player.specs.Token.{TokenState}
use Rattle.band_player.proofs.Updates.{free_of_object, free_of_token, token_set, apart_set, apart_kept, sets_written, at_without}
use Rattle.band_player.proofs.names.Names.ask.Goals as goal

pub invariant_of-self-in-Err : goal.invariant_of-self-in-Err
invariant_of-self-in-Err g c =
    let without = λ (n : BTreeMap (List ℕ) TokenState). at_without c.args.self.now.tokens
    (map_without_entry c.in-Ok-Vacant.field-0) n c.args.name (free_of_token c.args.self.now c.args.name c.requires.free) c.in-Ok-Vacant.ensures.removal.0 in
    record { apart = apart_kept c.args.self.now c.args.name c.self-in-Err-1.given.0 (λ other. search (rules, without)) }

pub returns-in-Err-clause-err : goal.returns-in-Err-clause-err
returns-in-Err-clause-err g c =
    let without = λ (n : BTreeMap (List ℕ) TokenState). at_without c.args.self.now.tokens
    (map_without_entry c.in-Ok-Vacant.field-0) n c.args.name (free_of_token c.args.self.now c.args.name c.requires.free) c.in-Ok-Vacant.ensures.removal.0 in
    (λ other. ap (thing_from (at c.args.self.now.objects other)) (search (rules, without)), c.in-Err.ensures.err)

pub invariant_of-self-2 : goal.invariant_of-self-2
invariant_of-self-2 g c =
    let free : at c.args.self.now.objects c.args.name ≡ None = free_of_object c.args.self.now c.args.name (ap is_object c.requires.free) in
    record {
      apart =
          apart_set c.args.self.now c.args.name c.self-3-1.given.0 (Some c.in-Ok.made.0) free
          (sets_written c.args.self.now.tokens _ (map_with_value c.in-Ok-Vacant.field-0 c.insert.result.now) c.args.name c.insert.result.now _ (search rules)
          (c.insert.ensures.value ∙ c.filled.ensures)
          (c.in-Ok-Vacant.ensures.update.0 c.insert.result.now));
    }

pub returns-clause-ok : goal.returns-clause-ok
returns-clause-ok g c =
    let free : at c.args.self.now.objects c.args.name ≡ None = free_of_object c.args.self.now c.args.name (ap is_object c.requires.free) in
    record {
      left = c.in-Ok.made.0;
      polled = subst (λ (t : TokenState). PollsToken t c.args.waker.0 c.args.object.now c.in-Ok.made.0 c.in-Ok.made.1 c.poll.new.object) c.request.ensures c.in-Ok.ensures.ok;
      updated =
          token_set c.args.self.now c.args.name c.self-3-1.given.0 (Some c.in-Ok.made.0) free
          (sets_written c.args.self.now.tokens _ (map_with_value c.in-Ok-Vacant.field-0 c.insert.result.now) c.args.name c.insert.result.now _ (search rules)
          (c.insert.ensures.value ∙ c.filled.ensures)
          (c.in-Ok-Vacant.ensures.update.0 c.insert.result.now));
    }
