-- What a call's text is, once its reply and its wakes are added.
use Rattle.std.proofs.Common.{◌≡◌, ℕ, List, [], ◌∷◌, ◌++◌, ap, ◌∙◌, append_assoc, flat_map}
use Rattle.band_script.specs.declared.call.Call.{Call}
use Rattle.band_player.specs.declared.player.Player.{Player}
use Rattle.band_rules.specs.declared.reply.Reply.{Reply}
use Rattle.band_rules.specs.Step.{step}
use Rattle.band_rules.specs.Text.{reply_text, wake_line}
use Rattle.band_player.specs.Player.{Follows, Stays, wakers_left}
use Rattle.band_play.specs.Lines.{text_after, Tells}

pub tells : (call : Call) (old mid new : Player) (reply : Reply) (before between after : List ℕ) → Follows call old reply mid → between ≡ before ++ (reply_text reply ++ 10 ∷ [])
    → after ≡ between ++ flat_map wake_line (wakers_left mid) → Stays mid new → Tells call old new before after
tells call old mid new reply before between after follows e f stays state stands =
    let p = follows state stands in
    let W = flat_map wake_line (wakers_left mid) in
    let R = reply_text reply ++ 10 ∷ [] in
    let same : R ++ W ≡ text_after call state = ap (λ r. (reply_text r ++ 10 ∷ []) ++ W) p.replied ∙ ap (λ w. (reply_text (step call state).reply ++ 10 ∷ []) ++ flat_map wake_line w) p.woken in
    (f ∙ ap (λ t. t ++ W) e ∙ append_assoc before R W ∙ ap (λ t. before ++ t) same, stays (step call state).state p.stands)
