use Rattle.std.proofs.Common.{◌≡◌, length, refl, ap, ◌∙◌, subst, arith, Some}
use Rattle.band_sem.specs.Semaphore.{new_state}
use Rattle.band_player.specs.Moves.{kind_made, count_made}
use Rattle.band_player.specs.Names.{Updated, thing_at}
use Rattle.band_player.specs.Objects.{of_kind}
use Rattle.band_player.specs.Thing as things
use Rattle.band_player.proofs.Follow.{answered, wanting}
use Rattle.band_player.proofs.Making.{lets_in, make_taken, makes, pushed, works_make}
use Rattle.band_player.proofs.Named.{free_name, on_err}
use Rattle.band_player.proofs.table.Table.make.Goals as goal

pub returns-then-is_live-clause-answered : goal.returns-then-is_live-clause-answered
returns-then-is_live-clause-answered c = answered _ _ _ _ c.requires.sound (λ state stands.
    make_taken c.args.self.now c.requires.quiet state stands c.args.new c.args.made.now (c.is_live.ensures.0 c.if-is_live.true))

pub returns-in_err-reserve-clause-wanting : goal.returns-in_err-reserve-clause-wanting
returns-in_err-reserve-clause-wanting c =
    on_err c.from_residual.result _ (wanting c.args.self.now c.requires.sound c.requires.quiet _ (λ name. refl) c.in_err-reserve.ensures.items _ (λ state stands.
    works_make c.args.self.now c.requires.quiet state stands c.args.new c.args.made.now (free_name _ c.is_live.result c.is_live.ensures.1 c.if-is_live.false)))

pub returns-in_err-add_object-clause-wanting : goal.returns-in_err-add_object-clause-wanting
returns-in_err-add_object-clause-wanting c =
    on_err c.from_residual-in_err-add_object.result _ (wanting c.args.self.now c.requires.sound c.requires.quiet _ c.in_err-add_object.ensures.err c.in_ok-reserve.ensures.items _ (λ state stands.
    works_make c.args.self.now c.requires.quiet state stands c.args.new c.args.made.now (free_name _ c.is_live.result c.is_live.ensures.1 c.if-is_live.false)))

pub new-requires : goal.new-requires
new-requires c = lets_in c.args.new c.args.made.now c.requires.readers

pub returns-clause-answered : goal.returns-clause-answered
returns-clause-answered c = answered _ _ _ _ c.requires.sound (λ state stands.
    let place : c.len-place.result ≡ length c.args.self.now.objects.items = omega arith in
    makes c.args.self.now c.requires.quiet state stands c.args.new c.args.made.now (free_name _ c.is_live.result c.is_live.ensures.1 c.if-is_live.false) _ c.new.result
    (c.new.ensures.start ∙ ap (λ k. of_kind (kind_made c.args.new) (new_state k (count_made c.args.new))) place) c.new.ensures.steady
    (subst (λ k. Updated (thing_at c.args.self.now.names) (thing_at c.add_object.new.self) c.args.made.now (Some (things.Object k))) place
    (subst (λ name. Updated (thing_at c.args.self.now.names) (thing_at c.add_object.new.self) name (Some (things.Object c.len-place.result))) c.copy_of.ensures c.in_ok-add_object.ensures.ok))
    (pushed c.args.self.now.objects.items c.reserve.new.self.items c.push.new.self.items c.push.result _ c.new.result c.push.ensures.items c.unwrap.ensures c.in_ok-reserve.ensures.items))
