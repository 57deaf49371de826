use Rattle.std.proofs.Common.{◌+◌}
use Rattle.band_partial.proofs.Fronts.{serves_a_front, served_are_cleared}
use Rattle.band_partial.proofs.laws.distribution_serves_a_front.Goals as goal

pub returns-clause-front : goal.returns-clause-front
returns-clause-front c = λ n nodes order. serves_a_front nodes order n

pub returns-clause-cleared : goal.returns-clause-cleared
returns-clause-cleared c = λ n part order. served_are_cleared part.nodes order (part.word + n)
