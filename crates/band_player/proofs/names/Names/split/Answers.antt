use Rattle.std.proofs.Common.{◌≡◌, ◌-◌, Some, false, ap, sym, ◌∙◌, subst}
use Rattle.std.specs.Str.{bytes_eq}
use Rattle.band_balance.specs.Object.{Permit}
use Rattle.band_player.specs.Moves.{held_as}
use Rattle.band_player.specs.Names.{Updated, thing_at}
use Rattle.band_player.specs.Thing.{place_at}
use Rattle.band_player.specs.Thing as things
use Rattle.band_player.specs.Token.{TokenState, Holding, thing_of, count_of, counted}
use Rattle.band_player.proofs.Named.{held_token, on_err, two_names}
use Rattle.band_player.proofs.Parted.{between, changed_first, then_added, as_before}
use Rattle.band_player.proofs.names.Names.split.Goals as goal

pub returns-in_err-added-clause-err : goal.returns-in_err-added-clause-err
returns-in_err-added-clause-err c =
    on_err c.from_residual.result _
    (as_before (thing_at c.args.self.now) (thing_at c.take_out-permit.new.self) (thing_at c.add_part-added.new.self) (thing_at c.put_back.new.self) c.args.name.now _ _
    c.take_out-permit.ensures.updated c.in_err-added.ensures.err.0 c.put_back.ensures
    (c.take_out-permit.ensures.permit ∙ ap (λ p. Some (thing_of p)) (sym c.in_err-added.ensures.err.1)))

pub returns-clause-ok : goal.returns-clause-ok
returns-clause-ok c =
    let whole = c.requires.enough.whole in
    let there = c.take_out-permit.ensures.permit in
    let apart : bytes_eq c.args.name.now c.args.made ≡ false = two_names (thing_at c.args.self.now) c.args.name.now c.args.made _ there c.requires.free in
    let is : c.take_out-permit.result ≡ Holding whole = (held_token Permit c.take_out-permit.result whole (ap (held_as Permit) (sym there) ∙ c.requires.enough.is)).0 in
    let back : Updated (thing_at c.add_part-added.new.self) (thing_at c.put_back.new.self) c.args.name.now (Some (things.Holding (record whole { count = whole.count - c.args.n }))) =
    subst (λ (t : TokenState). Updated (thing_at c.add_part-added.new.self) (thing_at c.put_back.new.self) c.args.name.now (Some (thing_of t)))
    (c.in_ok-added.ensures.parted ∙ ap (λ (t : TokenState). counted (count_of t - c.args.n) t) is) c.put_back.ensures in
    let made : Updated (thing_at c.take_out-permit.new.self) (thing_at c.add_part-added.new.self) c.args.made (Some (things.Holding (record whole { count = c.args.n }))) =
    subst (λ (t : TokenState). Updated (thing_at c.take_out-permit.new.self) (thing_at c.add_part-added.new.self) c.args.made (Some (thing_of (counted c.args.n t)))) is c.in_ok-added.ensures.ok in
    record {
      whole = whole;
      mid = between (thing_at c.args.self.now) (thing_at c.take_out-permit.new.self) (thing_at c.add_part-added.new.self)
          (thing_at c.put_back.new.self) c.args.name.now c.args.made _ _ _ apart c.take_out-permit.ensures.updated made back;
      was = c.requires.enough.is;
      enough = c.requires.enough.enough;
      at = c.place-place.ensures ∙ ap (λ t. place_at (thing_of t)) is;
      parted = changed_first (thing_at c.args.self.now) (thing_at c.take_out-permit.new.self) (thing_at c.add_part-added.new.self)
          (thing_at c.put_back.new.self) c.args.name.now c.args.made _ _ _ apart
          c.take_out-permit.ensures.updated made back;
      added = then_added (thing_at c.args.self.now) (thing_at c.take_out-permit.new.self) (thing_at c.add_part-added.new.self) (thing_at c.put_back.new.self) c.args.name.now c.args.made _ _ _ apart
          c.take_out-permit.ensures.updated made back;
    }
