use Rattle.std.proofs.Common.{◌∙◌}
use Rattle.band_play.proofs.Summing.{has_lines, has_transcript, lacks_memory, visits_few, visits_joiners}
use Rattle.band_play.proofs.summary.play_bulk.Goals as goal

pub returns-clause-lines : goal.returns-clause-lines
returns-clause-lines g c =
    has_lines c.args.n c.requires.most c.new.result (c.new.ensures ∙ c.deref.ensures.value ∙ c.in_ok-script.ensures) c.play.result c.play.new.src c.args.out.now c.play.new.dst c.play.ensures.plays.answers

pub returns-clause-written : goal.returns-clause-written
returns-clause-written g c =
    has_transcript c.args.n c.requires.most c.new.result (c.new.ensures ∙ c.deref.ensures.value ∙ c.in_ok-script.ensures) c.play.result c.play.new.src c.args.out.now c.play.new.dst c.play.ensures.plays.answers

pub returns-clause-memory : goal.returns-clause-memory
returns-clause-memory g c =
    lacks_memory c.args.n c.requires.most c.new.result (c.new.ensures ∙ c.deref.ensures.value ∙ c.in_ok-script.ensures) c.play.result c.play.new.src c.args.out.now c.play.new.dst c.play.ensures.plays.answers

pub returns-clause-visits : goal.returns-clause-visits
returns-clause-visits g c =
    visits_few c.args.n c.requires.most c.new.result (c.new.ensures ∙ c.deref.ensures.value ∙ c.in_ok-script.ensures) c.play.result c.play.new.src c.args.steps.now c.play.new.steps c.play.ensures.visits

pub returns-clause-joins : goal.returns-clause-joins
returns-clause-joins g c =
    visits_joiners c.args.n c.requires.most c.new.result (c.new.ensures ∙ c.deref.ensures.value ∙ c.in_ok-script.ensures) c.play.result c.play.new.src c.args.out.now c.play.new.dst c.args.steps.now c.play.new.steps
    c.play.ensures.plays.answers c.play.ensures.visits
