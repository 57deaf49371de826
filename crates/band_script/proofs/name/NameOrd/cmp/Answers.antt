use Rattle.std.proofs.Common.{refl, sym, ◌∙◌, arith}
use Rattle.band_script.proofs.FrontLemmas.{kept_bytes, fronts_cmp}
use Rattle.band_script.proofs.NameLemmas.{padded_cmp}
use Rattle.band_script.proofs.name.NameOrd.cmp.Goals as goal

pub returns-then-mine-others : goal.returns-then-mine-others
returns-then-mine-others c =
    let own = c.self.invariant in
    let others = c.other.invariant in
    let mine = c.front-mine.ensures in
    let its = c.front-others.ensures in
    let told = fronts_cmp 8 0 0 _ _ refl (omega (arith, c.self.told, c.other.told)) (kept_bytes _ own) (kept_bytes _ others)
    (λ same. c.if-mine-others.true (mine ∙ same ∙ sym its)) in
    rw (← c.self.view_is, ← c.other.view_is, ← padded_cmp _ _ own.0 others.0, ← own.1, ← others.1) (c.cmp.ensures ∙ rw (mine, its) told)

pub returns : goal.returns
returns c =
    let own = c.self.invariant in
    let others = c.other.invariant in
    rw (← c.self.view_is, ← c.other.view_is, ← padded_cmp _ _ own.0 others.0, ← own.1, ← others.1) c.cmp-2.ensures
