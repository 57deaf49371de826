-- What the first part of a sender's last call comes to.
use Rattle.std.specs.Prelude.{◌≡◌, true, false, [], ◌∷◌, Some, None, ◌⊎◌}
use Rattle.band_oneshot.specs.declared.word.TheConstants.{EMPTY, DISCONNECTED}
use Rattle.band_oneshot.specs.declared.step.OneshotStep.TheVariants.{Add, ExclusiveOr}
use Rattle.band_oneshot.specs.declared.awaking.BegunToSend.{BegunToSend}
use Rattle.band_oneshot.specs.declared.awaking.BegunToSend.TheVariants as to_send
use Rattle.band_oneshot.specs.declared.awaking.BegunToPart.{BegunToPart}
use Rattle.band_oneshot.specs.declared.awaking.BegunToPart.TheVariants as to_part
use Rattle.band_oneshot.specs.declared.view.Held.TheVariants as held
use Rattle.band_oneshot.specs.declared.view.SenderView.{SenderView}
use Rattle.band_oneshot.specs.declared.view.View.TheVariants as view
use Rattle.band_oneshot.specs.Ends.{added, parted, awoken}

module _ {T : Type 0} where
  abbrev pub BeginsToSend : T → SenderView T → BegunToSend T → Type 0
  BeginsToSend message before (to_send.Ended spent) = spent ≡ view.Sends (added message EMPTY before)
  BeginsToSend message before (to_send.Refused back spent) =
      (back ≡ message) × (spent ≡ view.Sends (added message DISCONNECTED before))
  BeginsToSend message before (to_send.Awaking sending w) =
      sending ≡ (view.Sends (awoken Add true w before), (0, Some (held.Message message)) ∷ (1, None) ∷ [])

  abbrev pub BeginsToPart : SenderView T → BegunToPart T → Type 0
  BeginsToPart before (to_part.Ended spent) =
      (spent ≡ view.Sends (parted EMPTY before)) ⊎ (spent ≡ view.Sends (parted DISCONNECTED before))
  BeginsToPart before (to_part.Awaking parting w) =
      parting ≡ (view.Sends (awoken ExclusiveOr false w before), (0, None) ∷ (1, None) ∷ [])

  -- a sender that found no receiver finds none again
  abbrev pub FindsNobody : SenderView T → BegunToSend T → Type 0
  FindsNobody before (to_send.Refused back spent) = Unit {0}
  FindsNobody before begun = before.word ≡ DISCONNECTED → ⊥

  abbrev pub LeavesNobody : SenderView T → BegunToPart T → Type 0
  LeavesNobody before (to_part.Ended spent) = Unit {0}
  LeavesNobody before begun = before.word ≡ DISCONNECTED → ⊥
