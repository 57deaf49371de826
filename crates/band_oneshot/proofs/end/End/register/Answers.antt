use Rattle.std.proofs.Common.{ℕ, inl, inr, refl, ap, ◌∙◌, Some}
use Rattle.band_oneshot.specs.declared.word.TheConstants.{EMPTY}
use Rattle.band_oneshot.specs.declared.view.Held.TheVariants as held
use Rattle.band_oneshot.specs.declared.view.View.TheVariants as view
use Rattle.band_oneshot.specs.Ends.{left}
use Rattle.band_oneshot.specs.Kept.Plays.{receiver_of}
use Rattle.band_oneshot.proofs.Slots.{begins_with}
use Rattle.band_oneshot.proofs.Waiting.{left_in_vain, not_awaking, receives_of, rests, left_told, registers}
use Rattle.band_oneshot.proofs.end.End.register.Goals as goal

pub returns-then-found-eq-EMPTY-clause-registers : goal.returns-then-found-eq-EMPTY-clause-registers
returns-then-found-eq-EMPTY-clause-registers g c =
    let told = left_told c.args.waker c.args.self.now.seat.me _ _ _ c.put_waker.ensures c.empty_to_receiving-found.ensures.play in
    ap receiver_of told.0 ∙ ap (λ (x : ℕ). left c.args.waker x (receiver_of c.args.self.now.seat.me.0)) c.if-found-eq-EMPTY.true

pub returns-then-found-eq-EMPTY-clause-resting : goal.returns-then-found-eq-EMPTY-clause-resting
returns-then-found-eq-EMPTY-clause-resting g c =
    let told = left_told c.args.waker c.args.self.now.seat.me _ _ _ c.put_waker.ensures c.empty_to_receiving-found.ensures.play in
    rests _ (left c.args.waker EMPTY (receiver_of c.args.self.now.seat.me.0))
    (told.0 ∙ ap (λ (x : ℕ). view.Receives (left c.args.waker x (receiver_of c.args.self.now.seat.me.0))) c.if-found-eq-EMPTY.true)
    (inr refl) (λ plain follows. cc)

pub drop_waker-requires : goal.drop_waker-requires
drop_waker-requires g c =
    let told = left_told c.args.waker c.args.self.now.seat.me _ _ _ c.put_waker.ensures c.empty_to_receiving-found.ensures.play in
    (Some (held.Waker c.args.waker), begins_with _ _ _ (told.1 c.if-found-eq-EMPTY.false))

pub settle-requires-clause-receives : goal.settle-requires-clause-receives
settle-requires-clause-receives g c =
    let told = left_told c.args.waker c.args.self.now.seat.me _ _ _ c.put_waker.ensures c.empty_to_receiving-found.ensures.play in
    receives_of _ _ (ap (λ x. x.0) c.drop_waker.ensures ∙ told.0)

pub settle-requires-clause-stage : goal.settle-requires-clause-stage
settle-requires-clause-stage g c =
    let told = left_told c.args.waker c.args.self.now.seat.me _ _ _ c.put_waker.ensures c.empty_to_receiving-found.ensures.play in
    inl (ap (λ x. (receiver_of x.0).stage) c.drop_waker.ensures ∙ ap (λ x. (receiver_of x).stage) told.0
    ∙ (left_in_vain c.args.waker _ (receiver_of c.args.self.now.seat.me.0) c.if-found-eq-EMPTY.false).0 ∙ c.requires.stage)

pub settle-requires-clause-found : goal.settle-requires-clause-found
settle-requires-clause-found g c =
    let told = left_told c.args.waker c.args.self.now.seat.me _ _ _ c.put_waker.ensures c.empty_to_receiving-found.ensures.play in
    ap (λ x. (receiver_of x.0).word) c.drop_waker.ensures ∙ ap (λ x. (receiver_of x).word) told.0
    ∙ (left_in_vain c.args.waker _ (receiver_of c.args.self.now.seat.me.0) c.if-found-eq-EMPTY.false).1

pub returns-clause-registers : goal.returns-clause-registers
returns-clause-registers g c =
    let told = left_told c.args.waker c.args.self.now.seat.me _ _ _ c.put_waker.ensures c.empty_to_receiving-found.ensures.play in
    registers c.args.waker c.empty_to_receiving-found.result (receiver_of c.args.self.now.seat.me.0) _ _ c.settle.result
    (not_awaking _ _ (ap (λ x. (receiver_of x.0).word) c.put_waker.ensures ∙ c.requires.empty) c.empty_to_receiving-found.ensures.follows)
    (ap (λ x. receiver_of x.0) c.drop_waker.ensures ∙ ap receiver_of told.0) c.settle.ensures.settles
