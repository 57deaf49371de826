use Rattle.std.proofs.Common.{sym, ap, ◌∙◌, true}
use Rattle.band_base.specs.declared.waker.Waker.{Waker}
use Rattle.band_oneshot.specs.declared.step.OneshotStep.TheVariants.{Add}
use Rattle.band_oneshot.specs.declared.view.View.TheVariants as view
use Rattle.band_oneshot.specs.Ends.{awoken}
use Rattle.band_oneshot.proofs.Sending.{late, added_empty, added_waiting, added_late, awoken_after, is_sending}
use Rattle.band_oneshot.proofs.Slots.{begins_with, same_message}
use Rattle.band_oneshot.proofs.sender.Sender.begin_send.Goals as goal

pub add-found-requires-clause-message : goal.add-found-requires-clause-message
add-found-requires-clause-message g c = (c.args.message, ap (λ x. x.1) c.put_message.ensures)

pub returns-then-found-eq-EMPTY-clause-begins : goal.returns-then-found-eq-EMPTY-clause-begins
returns-then-found-eq-EMPTY-clause-begins g c = c.into_spent.ensures
    ∙ added_empty c.args.message _ c.self.inside.end.seat.me _ _ _ c.self.view_is c.put_message.ensures c.add-found.ensures.play
    c.if-found-eq-EMPTY.true

pub take_waker-waker-requires : goal.take_waker-waker-requires
take_waker-waker-requires g c =
    let awoke = added_waiting c.args.message _ c.self.inside.end.seat.me _ _ _ c.self.view_is c.put_message.ensures c.add-found.ensures.play
    c.if-found-eq-RECEIVING.true in
    (awoke.0, begins_with _ _ _ (ap (λ x. x.1) awoke.1))

begun : goal.returns-then-found-eq-RECEIVING-clause-begins
begun g c =
    let awoke = added_waiting c.args.message _ c.self.inside.end.seat.me _ _ _ c.self.view_is c.put_message.ensures c.add-found.ensures.play
    c.if-found-eq-RECEIVING.true in
    awoken_after (λ (w : Waker). view.Sends (awoken Add true w c.args.self)) _ _ _ _ _ awoke.1 c.take_waker-waker.ensures.waker
    c.take_waker-waker.ensures.seat

pub invariant_of-result : goal.invariant_of-result
invariant_of-result g c = is_sending c.take_waker-waker.result c.args.message c.args.self _
    (ap (λ x. x.message) (sym c.self.view_is) ∙ c.self.invariant.0.message) (begun g c)

pub returns-then-found-eq-RECEIVING-clause-begins : goal.returns-then-found-eq-RECEIVING-clause-begins
returns-then-found-eq-RECEIVING-clause-begins = begun

pub take_message-message-requires : goal.take_message-message-requires
take_message-message-requires g c =
    let handed = added_late c.args.message _ c.self.inside.end.seat.me _ _ _ c.self.view_is c.put_message.ensures c.add-found.ensures.play
    (late _ c.add-found.ensures.words c.if-found-eq-EMPTY.false c.if-found-eq-RECEIVING.false) in
    (c.args.message, begins_with _ _ _ handed.1)

pub returns-clause-begins : goal.returns-clause-begins
returns-clause-begins g c =
    let handed = added_late c.args.message _ c.self.inside.end.seat.me _ _ _ c.self.view_is c.put_message.ensures c.add-found.ensures.play
    (late _ c.add-found.ensures.words c.if-found-eq-EMPTY.false c.if-found-eq-RECEIVING.false) in (
      same_message _ _ _ _ _ c.take_message-message.ensures.message handed.1,
      c.into_spent-2.ensures ∙ ap (λ x. x.0) c.take_message-message.ensures.seat ∙ handed.0,
    )
