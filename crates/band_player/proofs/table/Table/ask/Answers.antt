use Rattle.std.proofs.Common.{refl, sym, ap, ◌∙◌, List, ℕ, subst}
use Rattle.std.specs.List.{slice_set}
use Rattle.std.specs.Vec.{with_item}
use Rattle.band_balance.specs.Object.{tag}
use Rattle.band_balance.specs.Rule as rules
use Rattle.band_player.specs.Moves.{mode_of, size_for, offers_at, ask_call, AsksName}
use Rattle.band_player.proofs.Calls.{refused_for, plan_asks, asks_name, works_ask, name_taken, closed_refused}
use Rattle.band_player.proofs.Fitting.{numbered_in}
use Rattle.band_player.proofs.Follow.{answered, wanting}
use Rattle.band_player.proofs.Lists.{some_at, set_itself}
use Rattle.band_player.proofs.Named.{free_name, offered, on_err}
use Rattle.band_player.specs.Names.{thing_at}
use Rattle.band_player.proofs.table.Table.ask.Goals as goal

pub returns-in-Err-clause-answered : goal.returns-in-Err-clause-answered
returns-in-Err-clause-answered g c = answered _ _ _ _ c.requires.sound (λ state stands.
    refused_for c.args.self.now c.requires.quiet state stands c.args.self.now (λ n. refl) refl (ask_call c.args.want c.args.made.now c.args.of.now c.args.waker.0)
    (mode_of c.args.want) c.args.of.now c.in-Err.refusal c.in-Err.ensures _ (plan_asks c.args.want c.args.made.now c.args.of.now c.args.waker.0 state))

pub returns-then-is_live-clause-answered : goal.returns-then-is_live-clause-answered
returns-then-is_live-clause-answered g c = answered _ _ _ _ c.requires.sound (λ state stands.
    let object = some_at c.args.self.now.objects.items c.in-Ok.place c.in-Ok.ensures.within in
    name_taken c.args.self.now c.requires.quiet state stands c.args.self.now (λ n. refl) refl (mode_of c.args.want) c.args.made.now c.args.of.now c.in-Ok.place c.in-Ok.ensures.is object.0 object.1
    (c.is_live.ensures.0 c.if-is_live.true) _ (size_for c.args.want)
    (λ n. rules.Ask (tag (mode_of c.args.want) c.args.made.now) n c.args.waker.0) (plan_asks c.args.want c.args.made.now c.args.of.now c.args.waker.0 state))

pub returns-then-is_closed-clause-answered : goal.returns-then-is_closed-clause-answered
returns-then-is_closed-clause-answered g c = answered _ _ _ _ c.requires.sound (λ state stands.
    let object = c.index_mut-object.result.now in
    let there = c.in-Ok.ensures.there object c.index_mut-object.ensures.value in
    closed_refused c.args.self.now c.requires.quiet state stands _ (λ n. refl) (set_itself c.args.self.now.objects.items c.in-Ok.place object there) (mode_of c.args.want) c.args.made.now c.args.of.now c.in-Ok.place
    c.in-Ok.ensures.is object there (free_name _ c.is_live.result c.is_live.ensures.1 c.if-is_live.false) (sym c.is_closed.ensures ∙ c.if-is_closed.true) _ (size_for c.args.want)
    (λ n. rules.Ask (tag (mode_of c.args.want) c.args.made.now) n c.args.waker.0) (plan_asks c.args.want c.args.made.now c.args.of.now c.args.waker.0 state))

pub ask-requires-clause-offered : goal.ask-requires-clause-offered
ask-requires-clause-offered g c =
    ap (offers_at (mode_of c.args.want)) (sym (c.in-Ok.ensures.there c.index_mut-object.result.now c.index_mut-object.ensures.value))
    ∙ (offered (mode_of c.args.want) c.args.self.now.objects.items _ c.in-Ok.place c.in-Ok.ensures.is).1

pub returns-in_err-reply-clause-wanting : goal.returns-in_err-reply-clause-wanting
returns-in_err-reply-clause-wanting g c =
    let object = c.index_mut-object.result.now in
    let there = c.in-Ok.ensures.there object c.index_mut-object.ensures.value in
    on_err c.from_residual.result _ (wanting c.args.self.now c.requires.sound c.requires.quiet _ c.in_err-reply.ensures.err.0
    (ap (slice_set c.args.self.now.objects.items c.in-Ok.place) c.in_err-reply.ensures.err.1 ∙ set_itself c.args.self.now.objects.items c.in-Ok.place object there) _ (λ state stands.
    works_ask c.args.self.now c.requires.quiet state stands c.args.self.now c.args.want c.args.made.now c.args.of.now c.in-Ok.place c.in-Ok.ensures.is
    (free_name _ c.is_live.result c.is_live.ensures.1 c.if-is_live.false) object there (sym c.is_closed.ensures ∙ c.if-is_closed.false) c.args.waker.0))

pub returns-clause-answered : goal.returns-clause-answered
returns-clause-answered g c = answered _ _ _ _ c.requires.sound (λ state stands.
    let object = c.index_mut-object.result.now in
    let there = c.in-Ok.ensures.there object c.index_mut-object.ensures.value in
    asks_name c.args.self.now c.requires.quiet state stands (record { names = c.ask.new.self; objects = with_item c.args.self.now.objects c.in-Ok.place c.ask.new.object; last = c.in-Ok.place })
    c.args.want c.args.made.now c.args.of.now c.args.waker.0 c.in-Ok.place c.in_ok-reply.reply c.in-Ok.ensures.is (free_name _ c.is_live.result c.is_live.ensures.1 c.if-is_live.false)
    object c.ask.new.object there (sym c.is_closed.ensures ∙ c.if-is_closed.false) (numbered_in c.args.self.now c.in-Ok.place c.requires.sound object there)
    (subst (λ (name : List ℕ). AsksName name c.args.want c.args.waker.0 (thing_at c.args.self.now.names) (thing_at c.ask.new.self) object c.ask.new.object c.in_ok-reply.reply) c.copy_of.ensures
    c.in_ok-reply.ensures.ok) refl refl)
