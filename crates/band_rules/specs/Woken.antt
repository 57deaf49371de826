-- Whom a call wakes: those that waited before it and are granted or ended after it.
use Rattle.std.specs.Prelude.{◌≡◌, Bool, true, false, ◌||◌, if◌then◌else◌, List, [], ◌∷◌, ◌++◌, map}
use Rattle.std.specs.Str.{bytes_eq}
use Rattle.band_base.specs.declared.refusal.Refusal.{Refusal}
use Rattle.band_balance.specs.Line.{Waiting}
use Rattle.band_balance.specs.Laws.{told_between, GrantsAFront}
use Rattle.band_balance.specs.Rule.{leaver}
use Rattle.band_script.specs.declared.call.Call.{Call}
use Rattle.band_script.specs.declared.call.Call.TheVariants as calls
use Rattle.band_rules.specs.declared.reply.Reply.TheVariants as replies
use Rattle.band_rules.specs.Plan.{Plan, Act}
use Rattle.band_rules.specs.State.{State, Named, Tag}
use Rattle.band_rules.specs.Step.{Effect}

-- those that waited in a line before and are granted or ended after, in order; an object stays at its place,
-- and a new one comes last
abbrev pub told_now : State → State → List (Waiting Tag)
told_now [] after = []
told_now (first ∷ rest) [] = []
told_now (first ∷ rest) (now ∷ later) =
    told_between bytes_eq first.object now.object ++ told_now rest later

-- those are woken, by the wakers that their lines keep for them
abbrev pub WakesWhoIsTold : State → Effect → Type 0
WakesWhoIsTold state effect = effect.woken ≡ map (λ w. w.waker) (told_now state effect.state)

-- who leaves the line of an object: whoever leaves by the rule that is done to it, and nobody where none is
abbrev pub leaver_by : Plan → Named → Tag → Bool
leaver_by (Act of rule) named =
    if bytes_eq of.name named.name then leaver bytes_eq rule of.object else (λ tag. false)
leaver_by plan named = λ tag. false

-- by this plan a front of each line is granted
abbrev pub EachGrantsAFront : Plan → State → State → Type 0
EachGrantsAFront plan [] after = Unit {0}
EachGrantsAFront plan (first ∷ rest) [] = ⊥
EachGrantsAFront plan (first ∷ rest) (now ∷ later) =
    GrantsAFront bytes_eq (leaver_by plan first) first.object.line now.object.line
    × EachGrantsAFront plan rest later

-- a refused call changes nothing and wakes nobody
abbrev pub RefusesWhole : State → Effect → Type 0
RefusesWhole state effect = (refusal : Refusal) → effect.reply ≡ replies.Refused refusal
    → (effect.state ≡ state) × (effect.woken ≡ [])

-- the calls that may give permits back to a line, or take a request out of it
abbrev pub may_grant : Call → Bool
may_grant (calls.Release of n) = true
may_grant (calls.Drop name) = true
may_grant (calls.Downgrade name) = true
may_grant call = false

-- the calls that end those that wait
abbrev pub closes : Call → Bool
closes (calls.Close of) = true
closes call = false

-- the calls that may wake somebody
abbrev pub may_wake : Call → Bool
may_wake call = may_grant call || closes call
