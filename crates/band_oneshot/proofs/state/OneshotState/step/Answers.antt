use Rattle.std.proofs.Common.{sym, ◌∙◌, ◌≡◌, true, false}
use Rattle.band_oneshot.specs.Step.{needs}
use Rattle.band_oneshot.proofs.state.OneshotState.step.Goals as goal
use Rattle.band_oneshot.proofs.Moving.{MovesMessage-after, MovesWakerBy-after, KeepsFoundWords-after}
use Rattle.band_oneshot.proofs.Sound.{IsSound-after}

pub returns-then-not-is_at-clause-message : goal.returns-then-not-is_at-clause-message
returns-then-not-is_at-clause-message c = λ h.
    let refused : needs c.args.s c.args.self.now ≡ false = sym c.is_at.ensures ∙ c.if-not-is_at.true in
    rw refused at (MovesMessage-after c.args.s c.args.self.now h)

pub returns-then-not-is_at-clause-waker : goal.returns-then-not-is_at-clause-waker
returns-then-not-is_at-clause-waker c =
    let refused : needs c.args.s c.args.self.now ≡ false = sym c.is_at.ensures ∙ c.if-not-is_at.true in
    rw refused at (MovesWakerBy-after c.args.s c.args.self.now)

pub returns-then-not-is_at-clause-found_words : goal.returns-then-not-is_at-clause-found_words
returns-then-not-is_at-clause-found_words c = λ h.
    let refused : needs c.args.s c.args.self.now ≡ false = sym c.is_at.ensures ∙ c.if-not-is_at.true in
    rw refused at (KeepsFoundWords-after c.args.s c.args.self.now h)

pub returns-clause-sound : goal.returns-clause-sound
returns-clause-sound c = λ h.
    let taken : needs c.args.s c.args.self.now ≡ true = sym c.is_at.ensures ∙ c.if-not-is_at.false in
    rw c.make.ensures (rw taken at (IsSound-after c.args.s c.args.self.now h))

pub returns-clause-message : goal.returns-clause-message
returns-clause-message c = λ h.
    let taken : needs c.args.s c.args.self.now ≡ true = sym c.is_at.ensures ∙ c.if-not-is_at.false in
    rw c.make.ensures (rw taken at (MovesMessage-after c.args.s c.args.self.now h))

pub returns-clause-waker : goal.returns-clause-waker
returns-clause-waker c =
    let taken : needs c.args.s c.args.self.now ≡ true = sym c.is_at.ensures ∙ c.if-not-is_at.false in
    rw c.make.ensures (rw taken at (MovesWakerBy-after c.args.s c.args.self.now))

pub returns-clause-found_words : goal.returns-clause-found_words
returns-clause-found_words c = λ h.
    let taken : needs c.args.s c.args.self.now ≡ true = sym c.is_at.ensures ∙ c.if-not-is_at.false in
    rw c.make.ensures (rw taken at (KeepsFoundWords-after c.args.s c.args.self.now h))
