use Rattle.std.proofs.Common.{◌≡◌, ap, sym, ◌∙◌, refl}
use Rattle.band_balance.specs.Line.{requests}
use Rattle.band_sem.specs.Semaphore.{finished, is_slot}
use Rattle.band_sem.proofs.Lawful.{granted-size}
use Rattle.band_balance.proofs.Requests.{found_behind}
use Rattle.band_sem.proofs.acquire.Acquire.poll_later.Goals as goal

pub returns-in-Granted-clause-polls : goal.returns-in-Granted-clause-polls
returns-in-Granted-clause-polls g c =
    let polls = c.in-Granted.ensures.polls in
    let state = c.args.sem.now in
    let size : c.in-Granted.size ≡ c.args.self.now.size =
    granted-size c.args.slot _ _ state.line polls.1 (sym (found_behind (is_slot c.args.slot) state.ended (requests state.line) polls.0) ∙ c.requires) in
    let number : c.self.inside.of ≡ c.args.self.now.of = ap (λ r. r.of) c.self.view_is in
    (polls.0, rw (← size) polls.1, c.new.ensures ∙ rw (number, size) refl, rw (← size) polls.2, ap finished c.self.view_is)
