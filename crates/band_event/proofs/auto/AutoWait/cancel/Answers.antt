use Rattle.std.proofs.Common.{is_some, ap, sym, ◌∙◌, subst}
use Rattle.band_signal.specs.Waits.{IsOther}
use Rattle.band_event.specs.Event.{is_called}
use Rattle.band_signal.specs.WaitQueue.{place_at}
use Rattle.band_event.proofs.auto.AutoWait.cancel.Goals as goal

pub returns-then-cancel-clause-others : goal.returns-then-cancel-clause-others
returns-then-cancel-clause-others g c other differs here =
    let kept = c.cancel.ensures.others other (subst (λ life. IsOther other life) (sym c.self.view_is) differs)
    (ap (λ event. is_some (place_at other event.queue)) c.event.view_is ∙ here)
    ∙ ap (λ event. place_at other event.queue) c.event.view_is in
    let stays = c.set.ensures.stay other in
    (stays.0 ∙ ap is_some kept ∙ here, λ was. stays.1 (ap is_called kept ∙ was))
