use Rattle.std.proofs.Common.{◌≡◌}
use Rattle.band_partial.specs.Moves.{give_out}
use Rattle.band_partial.proofs.Steps.{gives_out_served, gives_out_given, gives_out_done}
use Rattle.band_partial.proofs.Follows.{of_shown}
use Rattle.band_partial.proofs.laws.give_out_goes_node_by_node.Goals as goal

pub returns-clause-served : goal.returns-clause-served
returns-clause-served c = gives_out_served

pub returns-clause-given : goal.returns-clause-given
returns-clause-given c = gives_out_given

pub returns-clause-done : goal.returns-clause-done
returns-clause-done c = of_shown (λ line part. give_out part ≡ part) gives_out_done
