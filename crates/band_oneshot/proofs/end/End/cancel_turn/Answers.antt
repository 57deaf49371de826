use Rattle.std.proofs.Common.{◌≡◌, ℕ, ap, ◌∙◌, Some}
use Rattle.band_oneshot.specs.declared.word.TheConstants.{RECEIVING}
use Rattle.band_oneshot.specs.declared.view.Held.TheVariants as held
use Rattle.band_oneshot.specs.Ends.{fetched, cancel_looked}
use Rattle.band_oneshot.specs.Kept.Plays.{receiver_of}
use Rattle.band_oneshot.proofs.Slots.{begins_with}
use Rattle.band_oneshot.proofs.Waiting.{receiving_left, fetching_fails}
use Rattle.band_oneshot.proofs.end.End.cancel_turn.Goals as goal
use Rattle.band_oneshot.proofs.end.End.cancel_turn.Goals.{then-receiving_to_empty-eq-RECEIVING, else-receiving_to_empty-eq-RECEIVING}

pub drop_waker-requires : goal.drop_waker-requires
drop_waker-requires g c =
    let there = c.receiving_to_empty.ensures.play.2 c.if-receiving_to_empty-eq-RECEIVING.true in
    (Some (held.Waker there.0), begins_with _ _ _ there.1)

pub returns-clause-turns : goal.returns-clause-turns
returns-clause-turns g c =
    let before = receiver_of c.args.self.now.seat.me.0 in
    let found : c.cancel_load-found.result ≡ RECEIVING =
    receiving_left _ c.cancel_load-found.ensures.word c.if-found-eq-MESSAGE.false c.if-found-eq-DISCONNECTED.false
    c.if-found-eq-EMPTY.false c.if-found-eq-AWAKING.false in
    let looked : receiver_of c.cancel_load-found.new.self.seat.me.0 ≡ cancel_looked RECEIVING before =
    ap receiver_of (c.cancel_load-found.ensures.play.2 c.if-found-eq-MESSAGE.false).0 ∙ ap (λ (x : ℕ). cancel_looked x before) found in
    let last : c.if-receiving_to_empty-eq-RECEIVING.self.seat.me.0 ≡ c.receiving_to_empty.new.self.seat.me.0 =
    elim c.if-receiving_to_empty-eq-RECEIVING.branch [
      | then-receiving_to_empty-eq-RECEIVING w ↦ ap (λ x. x.seat.me.0) w.self-is ∙ ap (λ x. x.0) w.drop_waker.ensures
      | else-receiving_to_empty-eq-RECEIVING w ↦ ap (λ x. x.seat.me.0) w.self-is
    ] in
    fetching_fails c.receiving_to_empty.result before _
    (ap receiver_of last ∙ ap receiver_of c.receiving_to_empty.ensures.play.1 ∙ ap (λ x. fetched c.receiving_to_empty.result x) looked)
    (rw found at c.cancel_load-found.ensures.follows) (rw looked at c.receiving_to_empty.ensures.follows)
