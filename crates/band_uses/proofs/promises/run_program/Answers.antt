use Rattle.std.proofs.Common.{ap}
use Rattle.band_play.specs.Play.{program_limit}
use Rattle.band_uses.proofs.PlayLemmas.{says_all_read, front_of}
use Rattle.band_uses.proofs.RunLemmas.{usage_of, other_of, ran_well, ran_malformed, ran_too_long, ran_unread, ran_unwritten, tells_usage, tells_front, ran_keeps_up, ran_takes, reads_never_fall, ran_completes}
use Rattle.band_uses.proofs.promises.run_program.Goals as goal

pub returns-clause-usage : goal.returns-clause-usage
returns-clause-usage g c = λ is. usage_of _ _ _ _ _ c.run.ensures.runs is

pub returns-clause-other_words : goal.returns-clause-other_words
returns-clause-other_words g c = λ others. other_of _ _ _ _ _ c.run.ensures.runs others

pub returns-clause-ok : goal.returns-clause-ok
returns-clause-ok g c = λ play is.
    let well = ran_well _ _ _ _ _ c.run.ensures.runs play is in
    (well.0, well.1.answers.0)

pub returns-clause-all_read : goal.returns-clause-all_read
returns-clause-all_read g c = λ play is.
    let well = ran_well _ _ _ _ _ c.run.ensures.runs play is in
    says_all_read _ _ _ _ well.1

pub returns-clause-malformed : goal.returns-clause-malformed
returns-clause-malformed g c = λ is.
    let ran = ran_malformed _ _ _ _ _ c.run.ensures.runs is in
    (ran.0, ran.1.0.answers, ran.1.1)

pub returns-clause-too_long : goal.returns-clause-too_long
returns-clause-too_long g c = λ is. (ran_too_long _ _ _ _ _ c.run.ensures.runs is).0.answers.0

pub returns-clause-past : goal.returns-clause-past
returns-clause-past g c = λ is. (ran_too_long _ _ _ _ _ c.run.ensures.runs is).0.answers.1

pub returns-clause-read : goal.returns-clause-read
returns-clause-read g c = λ is. (ran_unread _ _ _ _ _ c.run.ensures.runs is).0.answers.0

pub returns-clause-stops : goal.returns-clause-stops
returns-clause-stops g c = λ is. (ran_unread _ _ _ _ _ c.run.ensures.runs is).0.answers.1

pub returns-clause-write : goal.returns-clause-write
returns-clause-write g c = λ is. (ran_unwritten _ _ _ _ _ c.run.ensures.runs is).0

pub returns-clause-keeps_up : goal.returns-clause-keeps_up
returns-clause-keeps_up g c = λ play. ran_keeps_up _ _ _ _ _ c.run.ensures.runs play

pub returns-clause-takes : goal.returns-clause-takes
returns-clause-takes g c = ran_takes _ _ _ _ _ c.run.ensures.runs (λ other. ap g.S.Source.left (c.run.ensures.unread other))

pub returns-clause-front : goal.returns-clause-front
returns-clause-front g c = λ play. front_of program_limit _ _ _ _ (ran_keeps_up _ _ _ _ _ c.run.ensures.runs play)

pub returns-clause-completes : goal.returns-clause-completes
returns-clause-completes g c = λ is reads writes bytes tells. ran_completes _ _ _ _ _ c.run.ensures.runs is reads writes bytes tells

pub returns-clause-tells_usage : goal.returns-clause-tells_usage
returns-clause-tells_usage g c = λ is. tells_usage _ _ _ _ _ c.run.ensures.runs is

pub returns-clause-tells_too_long : goal.returns-clause-tells_too_long
returns-clause-tells_too_long g c = λ is. (ran_too_long _ _ _ _ _ c.run.ensures.runs is).1

pub returns-clause-tells_read : goal.returns-clause-tells_read
returns-clause-tells_read g c = λ is. (ran_unread _ _ _ _ _ c.run.ensures.runs is).1

pub returns-clause-tells_write : goal.returns-clause-tells_write
returns-clause-tells_write g c = λ is. (ran_unwritten _ _ _ _ _ c.run.ensures.runs is).1

pub returns-clause-tells_front : goal.returns-clause-tells_front
returns-clause-tells_front g c = λ is. tells_front _ _ _ _ _ c.run.ensures.runs is

pub returns-clause-reads_never_fall : goal.returns-clause-reads_never_fall
returns-clause-reads_never_fall g c = reads_never_fall _ _ _ _ _ c.run.ensures.runs (λ other. ap g.S.Source.faults (c.run.ensures.unread other))
