-- What each answer of play says, from how far it came.
use Rattle.std.proofs.Common.{◌≡◌, ℕ, ◌+◌, ◌-◌, ◌<◌, ◌≤◌, true, false, nat_lt, List, [], ◌∷◌, ◌++◌, length, take, Option, Some, None, Err, refl, sym, ap, subst, ◌∙◌, append-nil, length-append, arith}
use Rattle.std.specs.Bool.{◌==◌}
use Rattle.std.proofs.lemmas.Bool.{le-ltb, lt-ltb}
use Rattle.std.proofs.lemmas.Bool.Decides.{nat_tests}
use Rattle.std.proofs.lemmas.List.{take_all, take-append-le}
use Rattle.std.specs.Io.KnownBytes.{Appends, Consumes, Keeps, IsAtEnd}
use Rattle.std.proofs.KnownBytes.{Appends-nil, Appends-trans, Consumes-trans, Consumes-kept}
use Rattle.band_base.specs.Device.{AppendsPrefix, Rose}
use Rattle.band_play.specs.declared.fault.PlayFault.{PlayFault}
use Rattle.band_play.specs.declared.fault.PlayFault.TheVariants as faults
use Rattle.band_play.specs.declared.playing.Playing.{Playing}
use Rattle.band_rules.specs.Script.{Verdict, Good, Malformed, TooLong, verdict_on, verdict, lines_of, rest_of, calls_of, calls_within, transcript}
use Rattle.band_play.specs.Play.{End, Gave, Comes, PlaysGiven, Answers, KeepsUp}
use Rattle.band_play.specs.Playing.{HasPlayed, PlaysPiece, Stops, StopsInPiece, answer_at_end}
use Rattle.std.proofs.lemmas.Option.{none-some, same_Some}
use Rattle.band_play.proofs.Devices.{rises}
use Rattle.band_play.proofs.HeldLemmas.{take_through}
use Rattle.band_play.proofs.LineRuns.{AreCalls, verdict_at_end, verdict_of_calls}

-- what was given of a script of at most `limit` bytes, that so many may still come of, is played
pub record SoFar (limit left : ℕ) (playing : Playing) (first last before after : Option (List ℕ)) : Type 0 where
  pub given : List ℕ
  pub front : Consumes first last given
  pub size : length given + left ≡ limit
  pub played : HasPlayed given playing before after

-- after one more piece
abbrev pub so_far_more : (limit left fewer : ℕ) (piece cut : List ℕ) (old new : Playing) (first mid last before between after : Option (List ℕ)) → SoFar limit left old first mid before between
    → Consumes mid last piece → length piece ≤ left → fewer + length piece ≡ left → cut ≡ take left piece → PlaysPiece cut old new between after → SoFar limit fewer new first last before after
so_far_more limit left fewer piece cut old new first mid last before between after q gives size rest is plays =
    let P : List ℕ → Type 0 = λ given. HasPlayed given new before after in
    record {
      given = q.given ++ piece;
      front = Consumes-trans first mid last q.given piece q.front gives;
      size = omega (arith, length-append q.given piece, q.size);
      played = subst P (ap (λ p. q.given ++ p) (is ∙ take_all left piece size)) (plays q.given before q.played);
    }

-- the text of all lines that were played was written
pub all_written : (given : List ℕ) (playing : Playing) (before after : Option (List ℕ)) → HasPlayed given playing before after → Appends before after (transcript (calls_of (lines_of given)))
all_written given playing before after q =
    let P : List ℕ → Type 0 = λ text. Appends before after text in
    subst P (sym (append-nil q.front) ∙ ap (λ t. q.front ++ t) (sym q.emptied) ∙ q.run.text) q.added

-- what was given ends within the limit
pub within_limit : (limit left : ℕ) (given : List ℕ) → length given + left ≡ limit → take limit given ≡ given
within_limit limit left given size = take_all limit given (omega arith)

pub given_within : (limit left : ℕ) (given piece : List ℕ) → length given + left ≡ limit → given ++ take left piece ≡ take limit (given ++ piece)
given_within limit left given piece size =
    let rest : limit - length given ≡ left = omega arith in
    sym (take_through limit given piece ∙ ap (λ g. g ++ take (limit - length given) piece) (within_limit limit left given size) ∙ ap (λ n. given ++ take n piece) rest)

-- from what holds of the bytes that were given, whatever was left
comes_of : (outcome : Verdict) (limit : ℕ) (given : List ℕ) (first last before after : Option (List ℕ)) → Consumes first last given
    → ((more : List ℕ) → last ≡ Some more → (verdict limit (given ++ more) ≡ outcome) × Appends before after (transcript (calls_within limit (given ++ more))))
    → Comes outcome limit first before after
comes_of outcome limit given None last before after gives holds = tt
comes_of outcome limit given (Some bytes) None before after gives holds = absurd gives
comes_of outcome limit given (Some bytes) (Some more) before after gives holds =
    let P : List ℕ → Type 0 = λ b. (verdict limit b ≡ outcome) × Appends before after (transcript (calls_within limit b)) in
    subst P (sym gives) (holds more refl)

pub gave_of : (P : List ℕ → Type 0) (given : List ℕ) (first last : Option (List ℕ)) → Consumes first last given → P given → Gave P first last
gave_of P given None last gives holds = tt
gave_of P given (Some bytes) None gives holds = absurd gives
gave_of P given (Some bytes) (Some more) gives holds = (given, gives, holds)

-- a whole text is a front of it
whole_front : (text : List ℕ) (before after : Option (List ℕ)) → Appends before after text → AppendsPrefix text before after
whole_front text before after adds = record { prefix = text; rest = []; whole = append-nil text; appended = adds }

-- nothing more was given
pub nothing_given : (piece : List ℕ) (x y : Option (List ℕ)) → Keeps x y → piece ≡ [] → Consumes x y piece
nothing_given piece None y keeps empty = tt
nothing_given piece (Some x) None keeps empty = absurd keeps
nothing_given piece (Some x) (Some y) keeps empty = sym keeps ∙ ap (λ p. p ++ y) (sym empty)

-- a front of the text of what was given within the limit was written
abbrev pub WritesFront : (limit left : ℕ) (piece : List ℕ) (playing : Playing) (first mid before between after : Option (List ℕ)) → SoFar limit left playing first mid before between → Type 0
WritesFront limit left piece playing first mid before between after q = AppendsPrefix (transcript (calls_of (lines_of (q.given ++ take left piece)))) before after

-- what was played before a piece was answered, whatever was written since
pub keeps_up : (limit left : ℕ) (piece text : List ℕ) (playing : Playing) (first mid last before between after : Option (List ℕ)) (q : SoFar limit left playing first mid before between)
    → Consumes mid last piece → length piece ≤ 4096 → length piece ≤ left + 1 → Appends between after text → WritesFront limit left piece playing first mid before between after q
    → Gave (λ given. KeepsUp limit given before after) first last
keeps_up limit left piece text playing first mid last before between after q gives size room adds front =
    let P : List ℕ → Type 0 = λ g. AppendsPrefix (transcript (calls_of (lines_of g))) before after in
    let whole : length (q.given ++ piece) ≡ length q.given + length piece = length-append q.given piece in
    let played : length q.given + left ≡ limit = q.size in
    gave_of (λ given. KeepsUp limit given before after) (q.given ++ piece) first last (Consumes-trans first mid last q.given piece q.front gives) (record {
      takes = omega arith;
      front = subst P (given_within limit left q.given piece q.size) front;
      played = q.given;
      end = piece;
      whole = refl;
      most = size;
      within = omega arith;
      each = q.played.run.each;
      answered = (text, Appends-trans before between after (transcript (calls_of (lines_of q.given))) text (all_written q.given playing before between q.played) adds);
    })

-- also where nothing more was given
pub keeps_up_still : (limit left : ℕ) (piece : List ℕ) (playing : Playing) (first mid last before after : Option (List ℕ)) → SoFar limit left playing first mid before after
    → Consumes mid last piece → piece ≡ [] → Gave (λ given. KeepsUp limit given before after) first last
keeps_up_still limit left piece playing first mid last before after q gives empty =
    let P : List ℕ → Type 0 = λ g. AppendsPrefix (transcript (calls_of (lines_of g))) before after in
    let none : length piece ≡ 0 = ap (λ p. length p) empty in
    let all : q.given ++ take left piece ≡ q.given = ap (λ p. q.given ++ p) (take_all left piece (omega arith) ∙ empty) ∙ append-nil q.given in
    keeps_up limit left piece [] playing first mid last before after after q gives (omega arith) (omega arith) (Appends-nil after)
    (subst P (sym all) (whole_front _ before after (all_written q.given playing before after q.played)))

none_left : (more : List ℕ) (last : Option (List ℕ)) → IsAtEnd last → last ≡ Some more → more ≡ []
none_left more None none is = absurd (none-some more is)
none_left more (Some other) none is = same_Some more other (sym is) ∙ none

-- the source failed
pub answers_read : (limit left : ℕ) (playing : Playing) (source sink : End) (mid : Option (List ℕ)) (old : ℕ) → SoFar limit left playing source.before mid sink.before sink.after
    → Keeps mid source.after → source.faults ≤ old → Rose old source.faults_now → Answers (Err faults.Read) limit source sink
answers_read limit left playing source sink mid old q keeps kept rose =
    let plays : PlaysGiven limit q.given sink.before sink.after = record {
      within = omega (arith, q.size);
      each = q.played.run.each;
      added = all_written q.given playing sink.before sink.after q.played;
    } in (
      rises source.faults old source.faults_now kept rose,
      gave_of (λ given. PlaysGiven limit given sink.before sink.after) q.given source.before source.after (Consumes-kept source.before mid source.after q.given q.front keeps) plays,
    )

-- the source ended
verdict_within : (limit : ℕ) (given : List ℕ) → length given ≤ limit → AreCalls (lines_of given) → verdict limit given ≡ verdict_at_end (length (lines_of given)) (rest_of given) false
verdict_within limit given size each =
    ap (λ g. verdict_on (lines_of g) (rest_of g) (nat_lt limit (length given))) (take_all limit given size)
    ∙ ap (λ over. verdict_on (lines_of given) (rest_of given) over) (le-ltb limit (length given) size)
    ∙ verdict_of_calls (lines_of given) (rest_of given) false each

comes_at_end : (outcome : Verdict) (limit : ℕ) (given : List ℕ) (first last before after : Option (List ℕ)) → length given ≤ limit → Consumes first last given → IsAtEnd last
    → AreCalls (lines_of given) → Appends before after (transcript (calls_of (lines_of given))) → verdict_at_end (length (lines_of given)) (rest_of given) false ≡ outcome
    → Comes outcome limit first before after
comes_at_end outcome limit given first last before after size gives none each adds is =
    comes_of outcome limit given first last before after gives
    (λ more at.
    let all : given ++ more ≡ given = ap (λ m. given ++ m) (none_left more last none at) ∙ append-nil given in
    let P : List ℕ → Type 0 = λ text. Appends before after text in (
      ap (λ g. verdict limit g) all ∙ verdict_within limit given size each ∙ is,
      subst P (sym (ap (λ g. transcript (calls_within limit g)) all ∙ ap (λ g. transcript (calls_of (lines_of g))) (take_all limit given size))) adds,
    ))

answers_end_of : (limit lines : ℕ) (given rest held : List ℕ) (source sink : End) → lines ≡ length (lines_of given) → rest ≡ rest_of given → held ≡ take 112 rest → length given ≤ limit
    → Consumes source.before source.after given → IsAtEnd source.after → AreCalls (lines_of given) → Appends sink.before sink.after (transcript (calls_of (lines_of given)))
    → Answers (answer_at_end lines held) limit source sink
answers_end_of limit lines given [] held source sink count rest is size gives none each adds =
    let P : List ℕ → Type 0 = λ h. Answers (answer_at_end lines h) limit source sink in
    let outcome : verdict_at_end (length (lines_of given)) (rest_of given) false ≡ Good lines = ap (λ r. verdict_at_end (length (lines_of given)) r false) (sym rest) ∙ ap (λ n. Good n) (sym count) in
    subst P (sym is) (comes_at_end (Good lines) limit given source.before source.after sink.before sink.after size gives none each adds outcome, none)
answers_end_of limit lines given (byte ∷ more) held source sink count rest is size gives none each adds =
    let P : List ℕ → Type 0 = λ h. Answers (answer_at_end lines h) limit source sink in
    let outcome : verdict_at_end (length (lines_of given)) (rest_of given) false ≡ Malformed (lines + 1)
    = ap (λ r. verdict_at_end (length (lines_of given)) r false) (sym rest) ∙ ap (λ n. Malformed (n + 1)) (sym count) in
    subst P (sym is) (comes_at_end (Malformed (lines + 1)) limit given source.before source.after sink.before sink.after size gives none each adds outcome)

pub answers_end : (limit left : ℕ) (piece : List ℕ) (playing : Playing) (source sink : End) (mid : Option (List ℕ)) → SoFar limit left playing source.before mid sink.before sink.after
    → Consumes mid source.after piece → piece ≡ [] → IsAtEnd source.after → Answers (answer_at_end playing.lines playing.held) limit source sink
answers_end limit left piece playing source sink mid q gives empty none =
    let size : length q.given ≤ limit = omega (arith, q.size) in
    let P : List ℕ → Type 0 = λ g. Consumes source.before source.after g in
    let all = subst P (ap (λ p. q.given ++ p) empty ∙ append-nil q.given) (Consumes-trans source.before mid source.after q.given piece q.front gives) in
    answers_end_of limit playing.lines q.given (rest_of q.given) playing.held source sink q.played.run.count refl q.played.run.held size all none q.played.run.each
    (all_written q.given playing sink.before sink.after q.played)

-- more was given than the limit
comes_over : (limit left : ℕ) (piece cut : List ℕ) (old new : Playing) (first mid last before between after : Option (List ℕ)) → SoFar limit left old first mid before between
    → Consumes mid last piece → left < length piece → cut ≡ take left piece → PlaysPiece cut old new between after → Comes TooLong limit first before after
comes_over limit left piece cut old new first mid last before between after q gives past is plays =
    let given = q.given ++ piece in
    let played = plays q.given before q.played in
    let size : limit ≤ length given = omega (arith, q.size, length-append q.given piece) in
    let within : q.given ++ cut ≡ take limit given = ap (λ p. q.given ++ p) is ∙ given_within limit left q.given piece q.size in
    let C : List ℕ → Type 0 = λ g. AreCalls (lines_of g) in
    let W : List ℕ → Type 0 = λ g. Appends before after (transcript (calls_of (lines_of g))) in
    let each = subst C within played.run.each in
    let adds = subst W within (all_written (q.given ++ cut) new before after played) in
    comes_of TooLong limit given first last before after (Consumes-trans first mid last q.given piece q.front gives)
    (λ more at.
    let over : limit < length (given ++ more) = omega (arith, q.size, length-append q.given piece, length-append given more) in
    let same : take limit (given ++ more) ≡ take limit given = take-append-le limit given more size in (
      ap (λ g. verdict_on (lines_of g) (rest_of g) (nat_lt limit (length (given ++ more)))) same
          ∙ ap (λ o. verdict_on (lines_of (take limit given)) (rest_of (take limit given)) o) (lt-ltb limit (length (given ++ more)) over)
          ∙ verdict_of_calls (lines_of (take limit given)) (rest_of (take limit given)) true each,
      subst W (sym same) adds,
    ))

pub answers_over : (limit left : ℕ) (piece cut : List ℕ) (old new : Playing) (source sink : End) (mid between : Option (List ℕ)) → SoFar limit left old source.before mid sink.before between
    → Consumes mid source.after piece → left < length piece → length piece ≤ left + 1 → cut ≡ take left piece → PlaysPiece cut old new between sink.after
    → Answers (Err faults.TooLong) limit source sink
answers_over limit left piece cut old new source sink mid between q gives past room is plays = (
  comes_over limit left piece cut old new source.before mid source.after sink.before between sink.after q gives past is plays,
  gave_of (λ given. length given ≡ limit + 1) (q.given ++ piece) source.before source.after (Consumes-trans source.before mid source.after q.given piece q.front gives)
      (let all : length (q.given ++ piece) ≡ length q.given + length piece = length-append q.given piece in
      let size : length q.given + left ≡ limit = q.size in
      omega arith),
)

-- a piece was not played to its end
answers_stop : (fault : PlayFault) (limit : ℕ) (given : List ℕ) (source sink : End) → Consumes source.before source.after given
    → Stops fault (take limit given) sink.before sink.after sink.faults sink.faults_now → Answers (Err fault) limit source sink
answers_stop (faults.Malformed line) limit given source sink gives stops =
    comes_of (Malformed line) limit given source.before source.after sink.before sink.after gives
    (λ more at.
    let through = take_through limit given more in
    let rest = take (limit - length given) more in
    let P : List ℕ → Type 0 = λ text. Appends sink.before sink.after text in (
      ap (λ g. verdict_on (lines_of g) (rest_of g) (nat_lt limit (length (given ++ more)))) through
          ∙ stops.1.outcome rest (nat_lt limit (length (given ++ more))),
      subst P (sym (ap (λ g. transcript (calls_of (lines_of g))) through ∙ stops.1.transcript_is rest)) stops.2,
    ))
answers_stop faults.Write limit given source sink gives stops = stops.1
answers_stop faults.NoMemory limit given source sink gives stops = tt
answers_stop fault limit given source sink gives stops = absurd stops

-- a count that rose after it had not fallen
rises_in : (fault : PlayFault) (bytes : List ℕ) (before after : Option (List ℕ)) (start old new : ℕ) → start ≤ old → Stops fault bytes before after old new → Stops fault bytes before after start new
rises_in faults.Write bytes before after start old new kept stops = (stops.0, rises start old new kept stops.1)
rises_in fault bytes before after start old new kept stops = stops

pub answers_fault : (fault : PlayFault) (limit left : ℕ) (piece cut : List ℕ) (old : Playing) (source sink : End) (mid between : Option (List ℕ)) (now : ℕ)
    → SoFar limit left old source.before mid sink.before between → Consumes mid source.after piece → sink.faults ≤ now → cut ≡ take left piece
    → StopsInPiece fault cut old between sink.after now sink.faults_now → Answers (Err fault) limit source sink
answers_fault fault limit left piece cut old source sink mid between now q gives kept is stops =
    let P : List ℕ → Type 0 = λ g. Stops fault g sink.before sink.after sink.faults sink.faults_now in
    answers_stop fault limit (q.given ++ piece) source sink (Consumes-trans source.before mid source.after q.given piece q.front gives)
    (subst P (ap (λ p. q.given ++ p) is ∙ given_within limit left q.given piece q.size)
    (rises_in fault (q.given ++ cut) sink.before sink.after sink.faults now sink.faults_now kept (stops q.given sink.before q.played)))

front_stop : (fault : PlayFault) (given : List ℕ) (before after : Option (List ℕ)) (old new : ℕ) → Stops fault given before after old new
    → AppendsPrefix (transcript (calls_of (lines_of given))) before after
front_stop (faults.Malformed line) given before after old new stops =
    let P : List ℕ → Type 0 = λ text. AppendsPrefix text before after in
    subst P (sym (ap (λ g. transcript (calls_of (lines_of g))) (sym (append-nil given)) ∙ stops.1.transcript_is [])) (whole_front stops.0 before after stops.2)
front_stop faults.Write given before after old new stops = stops.0
front_stop faults.NoMemory given before after old new stops = stops
front_stop fault given before after old new stops = absurd stops

pub front_fault : (fault : PlayFault) (limit left : ℕ) (piece cut : List ℕ) (old : Playing) (first mid before between after : Option (List ℕ)) (counted now : ℕ)
    (q : SoFar limit left old first mid before between) → cut ≡ take left piece → StopsInPiece fault cut old between after counted now
    → WritesFront limit left piece old first mid before between after q
front_fault fault limit left piece cut old first mid before between after counted now q is stops =
    let P : List ℕ → Type 0 = λ c. AppendsPrefix (transcript (calls_of (lines_of (q.given ++ c)))) before after in
    subst P is (front_stop fault (q.given ++ cut) before after counted now (stops q.given before q.played))

pub front_over : (limit left : ℕ) (piece cut : List ℕ) (old new : Playing) (first mid before between after : Option (List ℕ)) (q : SoFar limit left old first mid before between)
    → cut ≡ take left piece → PlaysPiece cut old new between after → WritesFront limit left piece old first mid before between after q
front_over limit left piece cut old new first mid before between after q is plays =
    let P : List ℕ → Type 0 = λ c. AppendsPrefix (transcript (calls_of (lines_of (q.given ++ c)))) before after in
    subst P is (whole_front _ before after (all_written (q.given ++ cut) new before after (plays q.given before q.played)))

empty_length : (n : ℕ) → true ≡ (n == 0) → n ≡ 0
empty_length n e = grind (arith, nat_tests)

pub none_in : (bytes : List ℕ) → true ≡ (length bytes == 0) → bytes ≡ []
none_in [] e = refl
none_in (byte ∷ bytes) e = absurd (omega (arith, empty_length (length (byte ∷ bytes)) e))
