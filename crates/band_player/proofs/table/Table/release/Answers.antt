use Rattle.std.proofs.Common.{Err, refl, ap, ◌∙◌}
use Rattle.std.specs.List.{slice_set}
use Rattle.band_balance.specs.Object.{Permit}
use Rattle.band_script.specs.declared.call.Call.TheVariants as calls
use Rattle.band_sem.specs.declared.errors.ReleaseError.TheVariants.{Overflow}
use Rattle.band_player.proofs.Calls.{refused_for, releases, overflow_refused}
use Rattle.band_player.proofs.Follow.{answered}
use Rattle.band_player.proofs.Lists.{set_itself}
use Rattle.band_player.proofs.Named.{only_overflow, unless_err}
use Rattle.band_player.proofs.Visits.{pays_at}
use Rattle.band_player.proofs.table.Table.release.Goals as goal

pub returns-in-Err-clause-answered : goal.returns-in-Err-clause-answered
returns-in-Err-clause-answered g c = answered _ _ _ _ c.requires.sound (λ state stands.
    refused_for c.args.self.now c.requires.quiet state stands c.args.self.now (λ n. refl) refl (calls.Release c.args.of.now c.args.n) Permit c.args.of.now c.in-Err.refusal c.in-Err.ensures _ refl)

pub returns-in-Ok-release-clause-answered : goal.returns-in-Ok-release-clause-answered
returns-in-Ok-release-clause-answered g c = answered _ _ _ _ c.requires.sound (λ state stands.
    let object = c.index_mut-object.result.now in
    releases c.args.self.now c.requires.quiet state stands _ (λ n. refl) c.args.of.now c.in-Ok.place object (c.in-Ok.ensures.there object c.index_mut-object.ensures.value) c.in-Ok.ensures.is
    c.args.n c.release.new.self (unless_err c.release.result _ _ Overflow c.in-Ok-release.is c.release.ensures.overflow.1) c.in-Ok-release.ensures.ok c.release.ensures.steady refl refl)

pub returns-in-Err-release-clause-answered : goal.returns-in-Err-release-clause-answered
returns-in-Err-release-clause-answered g c = answered _ _ _ _ c.requires.sound (λ state stands.
    let object = c.index_mut-object.result.now in
    let there = c.in-Ok.ensures.there object c.index_mut-object.ensures.value in
    overflow_refused c.args.self.now c.requires.quiet state stands _ (λ n. refl) c.args.of.now c.in-Ok.place object there c.in-Ok.ensures.is c.args.n
    (c.release.ensures.overflow.0 (c.in-Err-release.is ∙ ap Err (only_overflow c.in-Err-release.field-0)))
    (ap (slice_set c.args.self.now.objects.items c.in-Ok.place) c.in-Err-release.ensures.err ∙ set_itself c.args.self.now.objects.items c.in-Ok.place object there))

pub returns-in-Ok-release-clause-visits : goal.returns-in-Ok-release-clause-visits
returns-in-Ok-release-clause-visits g c =
    pays_at c.args.self.now.objects.items c.in-Ok.place c.index_mut-object.result.now c.release.new.self c.in-Ok.ensures.within c.index_mut-object.ensures.value c.release.ensures.visits
