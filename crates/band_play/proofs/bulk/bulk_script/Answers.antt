use Rattle.std.proofs.Common.{◌∙◌, ap}
use Rattle.band_play.proofs.BulkTexts.{whole}
use Rattle.band_play.proofs.bulk.bulk_script.Goals as goal

pub returns : goal.returns
returns c =
    ap (λ v. v.items) c.into_bytes.ensures.value
    ∙ whole c.args.n _ _ _ _ _ c.in_ok-script.ensures.ok c.in_ok-push_asks.ensures c.in_ok-push_drops.ensures c.in_ok-push_release.ensures c.in_ok-push_polls.ensures
