use Rattle.std.proofs.Common.{Err, refl, ap, ◌∙◌}
use Rattle.std.specs.List.{slice_set}
use Rattle.band_balance.specs.Object.{Permit}
use Rattle.band_script.specs.declared.call.Call.TheVariants as calls
use Rattle.band_sem.specs.declared.errors.ReduceError.TheVariants.{Debt}
use Rattle.band_player.proofs.Calls.{refused_for, reduces, debt_refused, works_reduce}
use Rattle.band_player.proofs.Follow.{answered, wanting}
use Rattle.band_player.proofs.Lists.{set_itself}
use Rattle.band_player.proofs.Named.{no_debt, unless_err}
use Rattle.band_player.proofs.table.Table.reduce.Goals as goal

pub returns-in-Err-clause-answered : goal.returns-in-Err-clause-answered
returns-in-Err-clause-answered g c = answered _ _ _ _ c.requires.sound (λ state stands.
    refused_for c.args.self.now c.requires.quiet state stands c.args.self.now (λ n. refl) refl (calls.Reduce c.args.of.now c.args.n) Permit c.args.of.now c.in-Err.refusal c.in-Err.ensures _ refl)

pub returns-in-Ok-reduce-clause-answered : goal.returns-in-Ok-reduce-clause-answered
returns-in-Ok-reduce-clause-answered g c = answered _ _ _ _ c.requires.sound (λ state stands.
    let object = c.index_mut-object.result.now in
    reduces c.args.self.now c.requires.quiet state stands _ (λ n. refl) c.args.of.now c.in-Ok.place object (c.in-Ok.ensures.there object c.index_mut-object.ensures.value) c.in-Ok.ensures.is
    c.args.n c.reduce.new.self (unless_err c.reduce.result _ _ Debt c.in-Ok-reduce.is c.reduce.ensures.debt.1) c.in-Ok-reduce.ensures.ok c.reduce.ensures.steady refl refl)

pub returns-in-Err-Debt-clause-answered : goal.returns-in-Err-Debt-clause-answered
returns-in-Err-Debt-clause-answered g c = answered _ _ _ _ c.requires.sound (λ state stands.
    let object = c.index_mut-object.result.now in
    let there = c.in-Ok.ensures.there object c.index_mut-object.ensures.value in
    debt_refused c.args.self.now c.requires.quiet state stands _ (λ n. refl) c.args.of.now c.in-Ok.place object there c.in-Ok.ensures.is c.args.n
    (c.reduce.ensures.debt.0 (c.in-Err-Debt.is ∙ ap Err c.in-Err-Debt.field-0-is))
    (ap (slice_set c.args.self.now.objects.items c.in-Ok.place) c.in-Err-Debt.ensures.err ∙ set_itself c.args.self.now.objects.items c.in-Ok.place object there))

pub returns-in-Err-NoMemory-clause-wanting : goal.returns-in-Err-NoMemory-clause-wanting
returns-in-Err-NoMemory-clause-wanting g c =
    let object = c.index_mut-object.result.now in
    let there = c.in-Ok.ensures.there object c.index_mut-object.ensures.value in
    wanting c.args.self.now c.requires.sound c.requires.quiet _ (λ n. refl)
    (ap (slice_set c.args.self.now.objects.items c.in-Ok.place) c.in-Err-NoMemory.ensures.err ∙ set_itself c.args.self.now.objects.items c.in-Ok.place object there) _ (λ state stands.
    works_reduce c.args.self.now c.requires.quiet state stands c.args.self.now (λ n. refl) c.args.of.now c.in-Ok.place object there c.in-Ok.ensures.is c.args.n
    (no_debt c.reduce.result _ (c.in-Err-NoMemory.is ∙ ap Err c.in-Err-NoMemory.field-0-is) c.reduce.ensures.debt.1))
