use Rattle.std.proofs.Common.{◌≡◌, Some, refl, sym, ap, ◌∙◌, subst}
use Rattle.std.specs.Option.{option_map}
use Rattle.band_balance.specs.Object.{Permit}
use Rattle.band_player.specs.Moves.{held_as, CanGrow, Grows}
use Rattle.band_player.specs.Names.{thing_at}
use Rattle.band_player.specs.Token.{Holding, thing_of}
use Rattle.band_player.proofs.Calls.{merge_refused, merges_two}
use Rattle.band_player.proofs.Fitting.{can_grow}
use Rattle.band_player.proofs.Follow.{answered}
use Rattle.band_player.proofs.Named.{can_merge, held_token}
use Rattle.band_player.proofs.table.Table.merge.Goals as goal

pub returns-in-Err-clause-answered : goal.returns-in-Err-clause-answered
returns-in-Err-clause-answered c = answered _ _ _ _ c.requires.sound (λ state stands.
    merge_refused c.args.self.now c.requires.quiet state stands c.args.self.now c.args.kept.now c.args.spent.now c.in-Err.refusal (sym c.mergeable.ensures ∙ c.in-Err.is) (λ n. refl) refl)

pub grow-requires : goal.grow-requires
grow-requires c =
    let token = c.unwrap-more.result in
    let is = sym c.mergeable.ensures ∙ c.in-Ok.is in
    let two = can_merge c.args.kept.now c.args.spent.now (thing_at c.args.self.now.names c.args.kept.now) (thing_at c.args.self.now.names c.args.spent.now) c.in-Ok.place is in
    let found : thing_at c.args.self.now.names c.args.spent.now ≡ Some (thing_of token) = sym c.remove.ensures.before ∙ ap (option_map thing_of) c.unwrap-more.ensures in
    let more : token ≡ Holding two.second = (held_token Permit token two.second (ap (held_as Permit) (sym found) ∙ two.second_is)).0 in
    subst (λ t. CanGrow (thing_at c.remove.new.self c.args.kept.now) t) (sym more)
    (can_grow c.args.self.now c.requires.sound c.args.kept.now c.args.spent.now c.in-Ok.place is two.second two.second_is (thing_at c.remove.new.self) c.remove.ensures.updated)

pub returns-clause-answered : goal.returns-clause-answered
returns-clause-answered c = answered _ _ _ _ c.requires.sound (λ state stands.
    let token = c.unwrap-more.result in
    let is = sym c.mergeable.ensures ∙ c.in-Ok.is in
    let two = can_merge c.args.kept.now c.args.spent.now (thing_at c.args.self.now.names c.args.kept.now) (thing_at c.args.self.now.names c.args.spent.now) c.in-Ok.place is in
    let found : thing_at c.args.self.now.names c.args.spent.now ≡ Some (thing_of token) = sym c.remove.ensures.before ∙ ap (option_map thing_of) c.unwrap-more.ensures in
    let more : token ≡ Holding two.second = (held_token Permit token two.second (ap (held_as Permit) (sym found) ∙ two.second_is)).0 in
    merges_two c.args.self.now c.requires.quiet state stands _ c.args.kept.now c.args.spent.now c.in-Ok.place is two.second two.second_is (thing_at c.remove.new.self) c.remove.ensures.updated
    (subst (λ t. Grows c.args.kept.now (thing_at c.remove.new.self) (thing_at c.grow.new.self) t) more c.grow.ensures) refl refl)
