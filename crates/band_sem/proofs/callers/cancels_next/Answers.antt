use Rattle.std.proofs.Common.{◌∷◌, subst}
use Rattle.band_sem.specs.Requests.{AreOwn}
use Rattle.band_sem.proofs.Requests.{AreOwn-cancels}
use Rattle.band_sem.proofs.callers.cancels_next.Goals as goal

pub returns-in-Some : goal.returns-in-Some
returns-in-Some g c =
    let all : AreOwn c.args.sem.now (c.in-Some.request ∷ c.pop_front.new.self.items) = subst (AreOwn c.args.sem.now) c.in-Some.ensures.items c.requires in
    AreOwn-cancels c.in-Some.request c.args.sem.now c.cancel.new.sem c.pop_front.new.self.items all.2 all.1 c.cancel.ensures.state c.cancel.ensures.lawful
