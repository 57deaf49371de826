use Rattle.std.proofs.Common.{rules}
use Rattle.band_once.proofs.Idle.{idle, one_if_idle}
use Rattle.band_once.proofs.once.Once.is_idle.Goals as goal

pub returns : goal.returns
returns c =
    rw (c.available_permits.ensures.count, ← c.self.view_is)
    (λ one. idle c.self.inside.permit c.self.invariant.1 (search rules), λ is_idle. let one = one_if_idle c.self.inside.permit is_idle in search rules)
