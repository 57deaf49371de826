use Rattle.std.proofs.Common.{sym, ◌∙◌}
use Rattle.band_line.proofs.LineLemmas.{waits, points_next}
use Rattle.band_line.proofs.Linking.{next_links}
use Rattle.band_line.proofs.nodes.Store+Links+T.close_gap.Goals as goal

pub point_next-requires : goal.point_next-requires
point_next-requires g c = λ id e. waits c.args.self.now _ (c.requires.prev c.in-Some.between (sym c.get.ensures ∙ c.in-Some.is) id e)

pub point_prev-requires-clause-linked : goal.point_prev-requires-clause-linked
point_prev-requires-clause-linked g c = λ id e.
    let linked = c.requires.next c.in-Some.between (sym c.get.ensures ∙ c.in-Some.is) id e in
    rw c.point_next.ensures.nodes (next_links (points_next c.args.self.now c.in-Some.between.prev c.in-Some.between.next) id ∙ linked)

pub point_prev-requires-clause-here : goal.point_prev-requires-clause-here
point_prev-requires-clause-here g c = λ id e.
    let linked = c.requires.next c.in-Some.between (sym c.get.ensures ∙ c.in-Some.is) id e in
    rw c.point_next.ensures.nodes (waits c.args.self.now _ (next_links (points_next c.args.self.now c.in-Some.between.prev c.in-Some.between.next) id ∙ linked))
