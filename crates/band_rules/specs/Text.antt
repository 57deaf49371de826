-- The text of a reply and of the wakers woken.
use Rattle.std.specs.Prelude.{ℕ, List, [], ◌∷◌, ◌++◌, codes, flat_map, decimal}
use Rattle.std.specs.Fmt.{signed_decimal}
use Rattle.band_base.specs.declared.refusal.Refusal.{Refusal}
use Rattle.band_base.specs.declared.refusal.Refusal.TheVariants.{Unknown, Kind, Same, Taken, Finished, Other}
use Rattle.band_base.specs.declared.refusal.Refusal.TheVariants.{Overflow, Debt}
use Rattle.band_base.specs.declared.refusal.Refusal.TheVariants as refusals
use Rattle.band_rules.specs.declared.reply.Reply.{Reply}
use Rattle.band_rules.specs.declared.reply.Reply.TheVariants.{Done, Ready, Pending, Nothing, Drained, Figures}
use Rattle.band_rules.specs.declared.reply.Reply.TheVariants.{Refused, Closed}

abbrev pub refusal_word : Refusal → List ℕ
refusal_word Unknown = codes "unknown"
refusal_word Kind = codes "kind"
refusal_word Same = codes "same"
refusal_word Taken = codes "taken"
refusal_word Finished = codes "finished"
refusal_word Other = codes "other"
refusal_word Overflow = codes "overflow"
refusal_word Debt = codes "debt"
refusal_word refusals.Closed = codes "closed"

-- a reply without its newline
abbrev pub reply_text : Reply → List ℕ
reply_text Done = codes "ok"
reply_text Ready = codes "ready"
reply_text Pending = codes "pending"
reply_text Nothing = codes "none"
reply_text (Drained count) = codes "drained " ++ decimal count
reply_text (Figures available free waiting granted held) =
    codes "available " ++ decimal available ++ codes " free " ++ signed_decimal free
    ++ codes " waiting " ++ decimal waiting
    ++ codes " granted " ++ decimal granted ++ codes " held " ++ decimal held
reply_text (Refused refusal) = codes "refused " ++ refusal_word refusal
reply_text Closed = codes "closed"

abbrev pub wake_line : ℕ → List ℕ
wake_line waker = codes "wake " ++ decimal waker ++ 10 ∷ []

-- the reply's line, then a line for each waker, in order
abbrev pub effect_text : Reply → List ℕ → List ℕ
effect_text reply woken = reply_text reply ++ 10 ∷ [] ++ flat_map wake_line woken
