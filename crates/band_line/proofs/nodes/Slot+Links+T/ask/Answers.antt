use Rattle.std.proofs.Common.{Some, ap}
use Rattle.band_line.proofs.nodes.Slot+Links+T.ask.Goals as goal

pub returns-clause-asked : goal.returns-clause-asked
returns-clause-asked g c =
    let left = c.detach_if.new.value in
    rw c.in-Occupied.is (left, c.detach_if.ensures.asked, ap (λ links. Some (record { links = links; value = left })) c.detach_if.ensures.links)
