use Rattle.std.proofs.Common.{◌++◌, take, ap, ◌∙◌}
use Rattle.band_play.proofs.HeldLemmas.{pushed, at_ok}
use Rattle.band_play.proofs.held.HeldLine.push.Goals as goal

pub returns : goal.returns
returns c =
    let added = at_ok c.try_extend_from_slice.result c.unwrap.result c.unwrap.ensures c.try_extend_from_slice.ensures.ok in
    pushed c.self.inside.front.items _ c.args.more.now c.remaining_capacity.result c.min-count.result c.remaining_capacity.ensures c.min-count.ensures added
    ∙ ap (λ held. take 112 (held ++ c.args.more.now)) c.self.view_is
