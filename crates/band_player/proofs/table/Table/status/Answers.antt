use Rattle.std.proofs.Common.{◌≡◌, Some, refl, sym, ap, ◌∙◌, subst, arith, length, rules, SFits, to_z-of_z}
use Rattle.std.specs.Int.{w128}
use Rattle.std.specs.List.{slice_get}
use Rattle.std.proofs.lemmas.Option.{slice_get_read}
use Rattle.band_balance.specs.Line.{available, total}
use Rattle.band_rules.specs.declared.reply.Reply.{Reply}
use Rattle.band_script.specs.declared.call.Call.TheVariants as calls
use Rattle.band_sem.specs.Semaphore.{SemaphoreState}
use Rattle.band_player.specs.Kept.{FollowsFrom}
use Rattle.band_player.specs.Objects.{shares_of}
use Rattle.band_player.specs.Thing as things
use Rattle.band_player.proofs.Calls.{refused_plain, figures, same_figures}
use Rattle.band_player.proofs.Fitting.{fits_in}
use Rattle.band_player.proofs.Named.{object_from}
use Rattle.band_player.proofs.table.Table.status.Goals as goal

pub returns-in-Err : goal.returns-in-Err
returns-in-Err c = λ state stands. refused_plain c.args.self.now c.requires.quiet state stands c.args.self.now (λ n. refl) refl c.args.name.now c.in-Err.refusal (sym c.object_at.ensures ∙ c.in-Err.is)

pub index-requires : goal.index-requires
index-requires c =
    let within = fits_in c.args.self.now c.args.name.now (things.Object c.in-Ok.place) c.requires.sound (object_from _ c.in-Ok.place (sym c.object_at.ensures ∙ c.in-Ok.is)) in
    omega arith

pub returns : goal.returns
returns c = λ state stands.
    let fits : SFits w128 c.free.result = search rules in
    let object = c.index.result.now in
    let same : c.semaphore-semaphore.result.now ≡ shares_of object = c.semaphore-semaphore.ensures in
    let is = sym c.object_at.ensures ∙ c.in-Ok.is in
    let within = fits_in c.args.self.now c.args.name.now (things.Object c.in-Ok.place) c.requires.sound (object_from _ c.in-Ok.place is) in
    let there : slice_get c.args.self.now.objects.items c.in-Ok.place ≡ Some object = slice_get_read c.args.self.now.objects.items _ c.in-Ok.place object refl within c.index.ensures in
    subst (λ (r : Reply). FollowsFrom (calls.Status c.args.name.now) r c.args.self.now state)
    (sym (same_figures _ _ _ _ _ _ _ _ _ _ (c.available_permits.ensures.count ∙ ap (λ (s : SemaphoreState). available s.line) same)
    (to_z-of_z fits ∙ c.free.ensures.count ∙ ap (λ (s : SemaphoreState). s.line.free) same)
    (c.waiting_count.ensures.count ∙ ap (λ (s : SemaphoreState). length s.line.waiting) same) (c.granted_permits.ensures.count ∙ ap (λ (s : SemaphoreState). total s.line.granted) same)
    (c.held_permits.ensures.count ∙ ap (λ (s : SemaphoreState). s.held) same)))
    (figures c.args.self.now c.requires.quiet state stands c.args.self.now (λ n. refl) c.args.name.now c.in-Ok.place object there is refl)
