use Rattle.band_play.specs.declared.fault.PlayFault.TheVariants as faults
use Rattle.band_uses.proofs.PlayLemmas.{says_ok, says_all_read, says_fault, says_outcome, says_joined, takes_of, front_of}
use Rattle.band_uses.proofs.promises.play_script.Goals as goal

pub returns-clause-ok : goal.returns-clause-ok
returns-clause-ok g c = says_ok c.play.result _ _ _ c.play.ensures.plays

pub returns-clause-all_read : goal.returns-clause-all_read
returns-clause-all_read g c = says_all_read c.play.result _ _ _ c.play.ensures.plays

pub returns-clause-malformed : goal.returns-clause-malformed
returns-clause-malformed g c = λ line is. says_fault c.play.result (faults.Malformed line) _ _ _ c.play.ensures.plays is

pub returns-clause-too_long : goal.returns-clause-too_long
returns-clause-too_long g c = λ is. (says_fault c.play.result faults.TooLong _ _ _ c.play.ensures.plays is).0

pub returns-clause-past : goal.returns-clause-past
returns-clause-past g c = λ is. (says_fault c.play.result faults.TooLong _ _ _ c.play.ensures.plays is).1

pub returns-clause-read : goal.returns-clause-read
returns-clause-read g c = λ is. (says_fault c.play.result faults.Read _ _ _ c.play.ensures.plays is).0

pub returns-clause-stops : goal.returns-clause-stops
returns-clause-stops g c = λ is. (says_fault c.play.result faults.Read _ _ _ c.play.ensures.plays is).1

pub returns-clause-write : goal.returns-clause-write
returns-clause-write g c = λ is. says_fault c.play.result faults.Write _ _ _ c.play.ensures.plays is

pub returns-clause-joins : goal.returns-clause-joins
returns-clause-joins g c = says_joined c.play.result _ _ _ _ _ c.play.ensures.visits

pub returns-clause-takes : goal.returns-clause-takes
returns-clause-takes g c = takes_of _ _ _ _ _ c.play.ensures.plays.keeps_up

pub returns-clause-front : goal.returns-clause-front
returns-clause-front g c = front_of _ _ _ _ _ c.play.ensures.plays.keeps_up

pub returns-clause-completes : goal.returns-clause-completes
returns-clause-completes g c = λ reads writes bytes tells. says_outcome c.play.result _ _ _ c.play.ensures.plays reads writes bytes tells
