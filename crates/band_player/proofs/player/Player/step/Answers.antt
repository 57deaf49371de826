use Rattle.band_player.proofs.Follow.{sound_either}
use Rattle.band_player.proofs.Joining.{visits_joiners}
use Rattle.band_player.proofs.Updates.{if_ok, if_err}
use Rattle.band_player.proofs.player.Player.step.Goals as goal

pub invariant_of-self : goal.invariant_of-self
invariant_of-self g c = record { sound = sound_either c.args.self.now.table c.run.new.self c.args.call.now c.run.result c.run.ensures.answered c.run.ensures.wanting }

pub returns-clause-follows : goal.returns-clause-follows
returns-clause-follows g c = if_ok c.run.result c.run.ensures.answered (λ reply it. it.follows)

pub returns-clause-err : goal.returns-clause-err
returns-clause-err g c = if_err c.run.result c.run.ensures.wanting (λ it. (it.stays, it.quiet))

pub returns-clause-works : goal.returns-clause-works
returns-clause-works g c = if_err c.run.result c.run.ensures.wanting (λ it. it.works)

pub returns-clause-joins : goal.returns-clause-joins
returns-clause-joins g c = visits_joiners c.args.call.now c.run.result c.args.self.now.table c.run.new.self c.run.ensures.answered c.run.ensures.waits c.run.ensures.visits.no_fewer
