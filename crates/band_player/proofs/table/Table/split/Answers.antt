use Rattle.std.proofs.Common.{◌<◌, ◌≤◌, refl, subst, rules, List, ℕ}
use Rattle.band_balance.specs.Object.{Permit}
use Rattle.band_script.specs.declared.call.Call.TheVariants as calls
use Rattle.band_player.proofs.Calls.{refused_holding, split_taken, splits_off, splits_none, works_split}
use Rattle.band_player.proofs.Follow.{answered, wanting}
use Rattle.band_player.proofs.Named.{free_name, on_err}
use Rattle.band_player.specs.Moves.{SplitsTo}
use Rattle.band_player.specs.Names.{thing_at}
use Rattle.band_player.proofs.table.Table.split.Goals as goal

pub returns-in-Err-clause-answered : goal.returns-in-Err-clause-answered
returns-in-Err-clause-answered c = answered _ _ _ _ c.requires.sound (λ state stands.
    refused_holding c.args.self.now c.requires.quiet state stands c.args.self.now (λ n. refl) refl
    (calls.Split c.args.name.now c.args.made.now c.args.n) Permit c.args.name.now c.in-Err.refusal c.in-Err.ensures _ refl)

pub returns-then-is_live-clause-answered : goal.returns-then-is_live-clause-answered
returns-then-is_live-clause-answered c = answered _ _ _ _ c.requires.sound (λ state stands.
    split_taken c.args.self.now c.requires.quiet state stands c.args.self.now c.args.name.now c.args.made.now c.args.n c.in-Ok.ensures.permit c.in-Ok.ensures.is
    (c.is_live.ensures.0 c.if-is_live.true) (λ n. refl) refl)

pub returns-then-permits-n-clause-answered : goal.returns-then-permits-n-clause-answered
returns-then-permits-n-clause-answered c = answered _ _ _ _ c.requires.sound (λ state stands.
    splits_none c.args.self.now c.requires.quiet state stands c.args.self.now c.args.name.now c.args.made.now c.args.n c.in-Ok.ensures.permit c.in-Ok.ensures.is
    (free_name _ c.is_live.result c.is_live.ensures.1 c.if-is_live.false) (subst (λ k. k < c.args.n) c.in-Ok.ensures.same (search rules)) (λ n. refl) refl)

pub returns-in_err-place-clause-wanting : goal.returns-in_err-place-clause-wanting
returns-in_err-place-clause-wanting c =
    on_err c.from_residual.result _ (wanting c.args.self.now c.requires.sound c.requires.quiet _ c.in_err-place.ensures.err refl _ (λ state stands.
    works_split c.args.self.now c.requires.quiet state stands c.args.self.now c.args.name.now c.args.made.now c.args.n c.in-Ok.ensures.permit c.in-Ok.ensures.is
    (free_name _ c.is_live.result c.is_live.ensures.1 c.if-is_live.false) (subst (λ k. c.args.n ≤ k) c.in-Ok.ensures.same (search rules))))

pub returns-clause-answered : goal.returns-clause-answered
returns-clause-answered c = answered _ _ _ _ c.requires.sound (λ state stands.
    let split = subst (λ (made : List ℕ). SplitsTo c.args.name.now made c.args.n (thing_at c.args.self.now.names) (thing_at c.split.new.self) c.in_ok-place.place) c.copy_of.ensures c.in_ok-place.ensures.ok in
    splits_off c.args.self.now c.requires.quiet state stands _ c.args.name.now c.args.made.now c.args.n split.whole split.was
    (free_name _ c.is_live.result c.is_live.ensures.1 c.if-is_live.false) split.enough split refl)
