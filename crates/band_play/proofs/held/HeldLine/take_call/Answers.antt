use Rattle.std.proofs.Common.{◌∙◌, ap}
use Rattle.band_script.specs.Grammar.{call_of}
use Rattle.band_play.proofs.HeldLemmas.{call_of_empty, call_of_held}
use Rattle.band_play.proofs.held.HeldLine.take_call.Goals as goal

pub returns-then-is_empty-clause-call : goal.returns-then-is_empty-clause-call
returns-then-is_empty-clause-call c = λ start e.
    call_of_empty c.args.self.now start c.args.end.now _ (c.is_empty.ensures.0 c.if-is_empty.true) c.parse_line.ensures.exact e

pub returns-clause-call : goal.returns-clause-call
returns-clause-call c = λ start e.
    call_of_held c.args.self.now start c.args.end.now _
    (c.parse_line-call.ensures.exact ∙ ap call_of (c.as_slice.ensures.value ∙ c.self.view_is ∙ c.push.ensures)) e
