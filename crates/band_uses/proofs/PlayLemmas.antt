-- What the promise of `play` says of each answer.
use Rattle.std.proofs.Common.{◌≡◌, ℕ, ◌+◌, ◌≤◌, ◌⊎◌, inl, inr, List, length, Option, Some, None, Result, Ok, Err, IfOk, refl, sym, subst, ap, ◌∙◌}
use Rattle.std.specs.Result.{OnOk}
use Rattle.std.specs.Io.KnownBytes.{IsAtEnd}
use Rattle.band_base.specs.Device.{AppendsPrefix}
use Rattle.band_play.specs.declared.fault.PlayFault.{PlayFault}
use Rattle.band_play.specs.declared.fault.PlayFault.TheVariants as faults
use Rattle.band_play.specs.Play.{End, HasFailed, Gave, Comes, Answers, KeepsUp, Plays}
use Rattle.band_play.specs.Visits.{VisitsFew}
use Rattle.band_rules.specs.Joined.{joiners_of}
use Rattle.band_rules.specs.Script.{Verdict, Good, Malformed, TooLong, verdict, calls_within, transcript}
use Rattle.band_uses.specs.Outcome.{AllRead, answer_of}

-- what follows from what was given
gave_also : (P Q : List ℕ → Type 0) (first last : Option (List ℕ)) → ((given : List ℕ) → P given → Q given) → Gave P first last → Gave Q first last
gave_also P Q None last then gave = tt
gave_also P Q (Some bytes) None then gave = absurd gave
gave_also P Q (Some bytes) (Some left) then gave = (gave.0, gave.1, then gave.0 gave.2)

pub takes_of : (limit : ℕ) (first last before after : Option (List ℕ)) → Gave (λ given. KeepsUp limit given before after) first last → Gave (λ given. length given ≤ limit + 1) first last
takes_of limit first last before after gave =
    gave_also (λ given. KeepsUp limit given before after) (λ given. length given ≤ limit + 1) first last (λ given keeps. keeps.takes) gave

pub front_of : (limit : ℕ) (first last before after : Option (List ℕ)) → Gave (λ given. KeepsUp limit given before after) first last
    → Gave (λ given. AppendsPrefix (transcript (calls_within limit given)) before after) first last
front_of limit first last before after gave =
    gave_also (λ given. KeepsUp limit given before after) (λ given. AppendsPrefix (transcript (calls_within limit given)) before after) first last (λ given keeps. keeps.front) gave

-- `Ok`
pub says_ok : (answer : Result ℕ PlayFault) (limit : ℕ) (source sink : End) → Plays limit source sink answer → IfOk answer (λ lines. Comes (Good lines) limit source.before sink.before sink.after)
says_ok (Ok lines) limit source sink plays = plays.answers.0
says_ok (Err fault) limit source sink plays = tt

all_read : (P : List ℕ → Type 0) (first last : Option (List ℕ)) → Gave P first last → IsAtEnd last → AllRead first last
all_read P None last gave none = tt
all_read P (Some bytes) None gave none = absurd gave
all_read P (Some bytes) (Some left) gave none = ap (λ m. Some m) none

pub says_all_read : (answer : Result ℕ PlayFault) (limit : ℕ) (source sink : End) → Plays limit source sink answer → OnOk answer (AllRead source.before source.after)
says_all_read (Ok lines) limit source sink plays =
    all_read (λ given. KeepsUp limit given sink.before sink.after) source.before source.after plays.keeps_up plays.answers.1
says_all_read (Err fault) limit source sink plays = tt

-- a fault
pub says_fault : (answer : Result ℕ PlayFault) (fault : PlayFault) (limit : ℕ) (source sink : End) → Plays limit source sink answer → answer ≡ Err fault → Answers (Err fault) limit source sink
says_fault answer fault limit source sink plays is =
    let P : Result ℕ PlayFault → Type 0 = λ a. Answers a limit source sink in
    subst P is plays.answers

told_outcome : (outcome : Verdict) (answer : Result ℕ PlayFault) (limit : ℕ) (bytes : List ℕ) (first before after : Option (List ℕ)) → answer ≡ answer_of outcome → first ≡ Some bytes
    → Comes outcome limit first before after → (answer ≡ answer_of (verdict limit bytes)) ⊎ (answer ≡ Err faults.NoMemory)
told_outcome outcome answer limit bytes first before after is tells comes =
    let P : Option (List ℕ) → Type 0 = λ f. Comes outcome limit f before after in
    inl (is ∙ ap answer_of (sym (subst P tells comes).0))

-- where neither end has failed
pub says_outcome : (answer : Result ℕ PlayFault) (limit : ℕ) (source sink : End) → Plays limit source sink answer → (HasFailed source → ⊥) → (HasFailed sink → ⊥) → (bytes : List ℕ)
    → source.before ≡ Some bytes → (answer ≡ answer_of (verdict limit bytes)) ⊎ (answer ≡ Err faults.NoMemory)
says_outcome (Ok lines) limit source sink plays reads writes bytes tells = told_outcome (Good lines) _ limit bytes source.before sink.before sink.after refl tells plays.answers.0
says_outcome (Err (faults.Malformed line)) limit source sink plays reads writes bytes tells = told_outcome (Malformed line) _ limit bytes source.before sink.before sink.after refl tells plays.answers
says_outcome (Err faults.TooLong) limit source sink plays reads writes bytes tells = told_outcome TooLong _ limit bytes source.before sink.before sink.after refl tells plays.answers.0
says_outcome (Err faults.Read) limit source sink plays reads writes bytes tells = absurd (reads plays.answers.0)
says_outcome (Err faults.Write) limit source sink plays reads writes bytes tells = absurd (writes plays.answers)
says_outcome (Err faults.NoMemory) limit source sink plays reads writes bytes tells = inr refl

-- who was visited, but where there was no memory
pub says_joined : (answer : Result ℕ PlayFault) (limit : ℕ) (first last : Option (List ℕ)) (before after : ℕ) → VisitsFew limit first last answer before after → (answer ≡ Err faults.NoMemory → ⊥)
    → Gave (λ given. before + joiners_of (calls_within limit given) ≤ after) first last
says_joined (Ok lines) limit first last before after few other = few.joined
says_joined (Err faults.NoMemory) limit first last before after few other = absurd (other refl)
says_joined (Err (faults.Malformed line)) limit first last before after few other = few.joined
says_joined (Err faults.TooLong) limit first last before after few other = few.joined
says_joined (Err faults.Read) limit first last before after few other = few.joined
says_joined (Err faults.Write) limit first last before after few other = few.joined
