-- What one end can make of the word while the other makes no step.
use Rattle.std.specs.Prelude.{ℕ, Bool, true, false, not, ◌&&◌, ◌||◌, ◌==◌}
use Rattle.band_oneshot.specs.declared.word.TheConstants.{EMPTY, RECEIVING, AWAKING, MESSAGE, DISCONNECTED}
use Rattle.band_oneshot.specs.declared.step.OneshotStep.{OneshotStep}
use Rattle.band_oneshot.specs.declared.step.OneshotStep.TheVariants.{SenderLoad, Add, ExclusiveOr, TakeWaker, FinalSwap}

-- is it a step of the sender?
abbrev pub is_senders : OneshotStep → Bool
is_senders SenderLoad = true
is_senders Add = true
is_senders ExclusiveOr = true
is_senders TakeWaker = true
is_senders FinalSwap = true
is_senders s = false

-- is it a step of the receiver?
abbrev pub is_receivers : OneshotStep → Bool
is_receivers s = not (is_senders s)

-- can the sender have made this of a word that the receiver left?
abbrev pub sender_makes : ℕ → ℕ → Bool
sender_makes left found =
    (found == left)
    || ((left == RECEIVING) && (found == AWAKING))
    || (((left == EMPTY) || (left == RECEIVING) || (left == AWAKING))
    && ((found == MESSAGE) || (found == DISCONNECTED)))

-- can the receiver have made this of a word that the sender left, before it ended?
abbrev pub receiver_makes : ℕ → ℕ → Bool
receiver_makes left found =
    (found == left)
    || ((left == EMPTY) && ((found == RECEIVING) || (found == DISCONNECTED)))
    || ((left == RECEIVING) && ((found == EMPTY) || (found == DISCONNECTED)))
    || ((left == AWAKING) && (found == DISCONNECTED))
