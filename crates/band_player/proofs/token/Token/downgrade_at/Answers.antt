use Rattle.std.proofs.Common.{rules}
use Rattle.band_sem.proofs.Visits.{pays-given_back}
use Rattle.band_player.proofs.Visits.{pays_nothing}
use Rattle.band_player.proofs.token.Token.downgrade_at.Goals as goal
use Rattle.band_player.proofs.token.Token.downgrade_at.Goals.{in-WriteAccess-ReaderWriter, in_default, in_default-2}

pub returns-clause-visits : goal.returns-clause-visits
returns-clause-visits g c = elim c.match-any.branch [
  | in-WriteAccess-ReaderWriter w ↦ rw (w.object-inside-is, w.steps-is, ← c.object.view_is, w.in-WriteAccess-ReaderWriter.is-1) (search (rules, pays-given_back))
  | in_default w ↦ rw (w.object-inside-is, w.steps-is, ← c.object.view_is) pays_nothing
  | in_default-2 w ↦ rw (w.object-inside-is, w.steps-is, ← c.object.view_is) pays_nothing
]
