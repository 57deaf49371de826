use Rattle.std.proofs.lemmas.Bool.{and_from}
use Rattle.std.proofs.Common.{not, Some, refl, sym, ap, ◌∙◌, subst, ℕ, List}
use Rattle.std.specs.List.{slice_set}
use Rattle.std.specs.Vec.{with_item}
use Rattle.band_balance.specs.Object.{tag}
use Rattle.band_balance.specs.Rule as rules
use Rattle.band_player.specs.Moves.{mode_of, size_for, try_call, had_of}
use Rattle.band_player.specs.Names.{Updated, thing_at}
use Rattle.band_player.specs.Thing as things
use Rattle.band_player.proofs.Calls.{refused_for, plan_tries, tried_nothing, tried, works_try, name_taken, closed_refused}
use Rattle.band_player.proofs.Fitting.{numbered_in}
use Rattle.band_player.proofs.Follow.{answered, wanting}
use Rattle.band_player.proofs.Lists.{some_at, set_itself}
use Rattle.band_player.proofs.Named.{free_name, on_err}
use Rattle.band_player.proofs.table.Table.try_for.Goals as goal

pub returns-in-Err-clause-answered : goal.returns-in-Err-clause-answered
returns-in-Err-clause-answered c = answered _ _ _ _ c.requires.sound (λ state stands.
    refused_for c.args.self.now c.requires.quiet state stands c.args.self.now (λ n. refl) refl (try_call c.args.want c.args.made.now c.args.of.now) (mode_of c.args.want) c.args.of.now c.in-Err.refusal
    c.in-Err.ensures _ (plan_tries c.args.want c.args.made.now c.args.of.now state))

pub returns-then-is_live-clause-answered : goal.returns-then-is_live-clause-answered
returns-then-is_live-clause-answered c = answered _ _ _ _ c.requires.sound (λ state stands.
    let object = some_at c.args.self.now.objects.items c.in-Ok.place c.in-Ok.ensures.within in
    name_taken c.args.self.now c.requires.quiet state stands c.args.self.now (λ n. refl) refl (mode_of c.args.want) c.args.made.now c.args.of.now c.in-Ok.place c.in-Ok.ensures.is object.0 object.1
    (c.is_live.ensures.0 c.if-is_live.true) _ (size_for c.args.want)
    (rules.Try (tag (mode_of c.args.want) c.args.made.now)) (plan_tries c.args.want c.args.made.now c.args.of.now state))

pub returns-then-is_closed-clause-answered : goal.returns-then-is_closed-clause-answered
returns-then-is_closed-clause-answered c = answered _ _ _ _ c.requires.sound (λ state stands.
    let object = c.index_mut-object.result.now in
    let there = c.in-Ok.ensures.there object c.index_mut-object.ensures.value in
    closed_refused c.args.self.now c.requires.quiet state stands _ (λ n. refl) (set_itself c.args.self.now.objects.items c.in-Ok.place object there) (mode_of c.args.want) c.args.made.now c.args.of.now c.in-Ok.place
    c.in-Ok.ensures.is object there (free_name _ c.is_live.result c.is_live.ensures.1 c.if-is_live.false) (sym c.is_closed.ensures ∙ c.if-is_closed.true) _ (size_for c.args.want)
    (rules.Try (tag (mode_of c.args.want) c.args.made.now)) (plan_tries c.args.want c.args.made.now c.args.of.now state))

pub returns-then-not-would_serve-clause-answered : goal.returns-then-not-would_serve-clause-answered
returns-then-not-would_serve-clause-answered c = answered _ _ _ _ c.requires.sound (λ state stands.
    let object = c.index_mut-object.result.now in
    let there = c.in-Ok.ensures.there object c.index_mut-object.ensures.value in
    tried_nothing c.args.self.now c.requires.quiet state stands _ (λ n. refl) c.args.of.now c.in-Ok.place object there c.args.want c.args.made.now c.in-Ok.ensures.is
    (free_name _ c.is_live.result c.is_live.ensures.1 c.if-is_live.false) (sym c.is_closed.ensures ∙ c.if-is_closed.false) (sym c.would_serve.ensures ∙ c.if-not-would_serve.true)
    (set_itself c.args.self.now.objects.items c.in-Ok.place object there))

pub take-requires-clause-served : goal.take-requires-clause-served
take-requires-clause-served c = and_from _ _ (ap not (sym c.is_closed.ensures ∙ c.if-is_closed.false)) (sym c.would_serve.ensures ∙ c.if-not-would_serve.false)

pub returns-in_err-take-clause-wanting : goal.returns-in_err-take-clause-wanting
returns-in_err-take-clause-wanting c =
    let object = c.index_mut-object.result.now in
    let there = c.in-Ok.ensures.there object c.index_mut-object.ensures.value in
    on_err c.from_residual.result _ (wanting c.args.self.now c.requires.sound c.requires.quiet _ c.in_err-take.ensures.err.0
    (ap (slice_set c.args.self.now.objects.items c.in-Ok.place) c.in_err-take.ensures.err.1 ∙ set_itself c.args.self.now.objects.items c.in-Ok.place object there) _ (λ state stands.
    works_try c.args.self.now c.requires.quiet state stands c.args.self.now c.args.want c.args.made.now c.args.of.now c.in-Ok.place c.in-Ok.ensures.is
    (free_name _ c.is_live.result c.is_live.ensures.1 c.if-is_live.false) object there (sym c.is_closed.ensures ∙ c.if-is_closed.false)
    (size_for c.args.want object.kind) refl (sym c.would_serve.ensures ∙ c.if-not-would_serve.false)))

pub returns-clause-answered : goal.returns-clause-answered
returns-clause-answered c = answered _ _ _ _ c.requires.sound (λ state stands.
    let object = c.index_mut-object.result.now in
    let there = c.in-Ok.ensures.there object c.index_mut-object.ensures.value in
    tried c.args.self.now c.requires.quiet state stands (record { names = c.take.new.self; objects = with_item c.args.self.now.objects c.in-Ok.place c.take.new.object; last = c.in-Ok.place })
    c.args.want c.args.made.now c.args.of.now c.in-Ok.place c.in-Ok.ensures.is (free_name _ c.is_live.result c.is_live.ensures.1 c.if-is_live.false) object there
    (sym c.is_closed.ensures ∙ c.if-is_closed.false) (size_for c.args.want object.kind) c.take.new.object refl
    (sym c.would_serve.ensures ∙ c.if-not-would_serve.false) c.in_ok-take.ensures.taken c.in_ok-take.ensures.steady
    (subst (λ (k : ℕ). Updated (thing_at c.args.self.now.names) (thing_at c.take.new.self) c.args.made.now
    (Some (things.Holding (record { mode = mode_of c.args.want; of = k; count = size_for c.args.want object.kind }))))
    (numbered_in c.args.self.now c.in-Ok.place c.requires.sound object there)
    (subst (λ (name : List ℕ). Updated (thing_at c.args.self.now.names) (thing_at c.take.new.self) name (Some (things.Holding (had_of c.args.want object)))) c.copy_of.ensures
    c.in_ok-take.ensures.ok)) refl refl)
