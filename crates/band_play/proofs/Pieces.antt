-- How far a script is played after a line, and after a piece.
use Rattle.std.proofs.Common.{◌≡◌, ℕ, ◌+◌, Bool, true, List, [], ◌∷◌, ◌++◌, length, take, string_bytes, Option, Some, None, refl, sym, ap, subst, ◌∙◌, append_assoc, append-nil, length-append, arith}
use Rattle.std.specs.Io.KnownBytes.{Appends}
use Rattle.std.proofs.KnownBytes.{Appends-trans}
use Rattle.band_base.specs.Device.{AppendsPrefix, Rose}
use Rattle.band_base.specs.declared.sink.SinkError.{SinkError}
use Rattle.band_base.specs.declared.sink.SinkError.TheVariants as sinks
use Rattle.band_script.specs.declared.call.Call.{Call}
use Rattle.band_play.specs.declared.fault.PlayFault.{PlayFault}
use Rattle.band_play.specs.declared.fault.PlayFault.TheVariants as faults
use Rattle.band_play.specs.declared.playing.Playing.{Playing}
use Rattle.band_play.specs.Faults.{fault_of}
use Rattle.band_script.specs.Grammar.{call_of}
use Rattle.band_player.specs.Player.{StandsFor}
use Rattle.band_rules.specs.Script.{Malformed, verdict_on, lines_of, rest_of, calls_of, transcript, state_from}
use Rattle.band_play.specs.Lines.{HasNoNewline, Tells, text_after}
use Rattle.band_play.specs.Playing.{HasRun, HasPlayed, IsMalformedAt, RunsPiece, PlaysPiece, Stops, StopsInPiece}
use Rattle.band_play.proofs.Devices.{front_after}
use Rattle.band_play.proofs.HeldLemmas.{take_again}
use Rattle.band_play.proofs.LineCuts.{lines_of-end, rest_of-end, lines_of-rest, rest_of-rest}
use Rattle.band_play.proofs.LineRuns.{AreCalls, calls_with, are_calls-with, state_with, transcript_with, calls_until, verdict_until, transcript_more}

-- nothing is run yet
pub run_nothing : (playing : Playing) → StandsFor playing.player [] → string_bytes playing.text ≡ [] → playing.held ≡ [] → playing.lines ≡ 0 → HasRun [] [] playing
run_nothing playing stands empty none zero = record { each = tt; count = zero; state = stands; text = empty; held = none }

-- after a line that stands for a call
pub line_run : (given front end : List ℕ) (call : Call) (old new : Playing) → HasRun given front old → HasNoNewline end → call_of (rest_of given ++ end) ≡ Some call
    → Tells call old.player new.player (string_bytes old.text) (string_bytes new.text) → new.lines ≡ old.lines + 1 → new.held ≡ [] → HasRun (given ++ (end ++ 10 ∷ [])) front new
line_run given front end call old new run none is tells next emptied =
    let line = rest_of given ++ end in
    let lines : lines_of (given ++ (end ++ 10 ∷ [])) ≡ lines_of given ++ line ∷ [] = lines_of-end given end [] none in
    let calls : calls_of (lines_of given ++ line ∷ []) ≡ calls_of (lines_of given) ++ call ∷ [] = calls_with (lines_of given) line call run.each is in
    let told = tells (state_from [] (calls_of (lines_of given))) run.state in
    let P : List (List ℕ) → Type 0 = λ l. AreCalls l in
    record {
      each = subst P (sym lines) (are_calls-with (lines_of given) line call run.each is);
      count = next ∙ ap (λ n. n + 1) run.count ∙ counted (lines_of given) line ∙ ap (λ l. length l) (sym lines);
      state = subst (λ s. StandsFor new.player s) (sym (ap (λ l. state_from [] (calls_of l)) lines ∙ ap (λ c. state_from [] c) calls ∙ state_with (calls_of (lines_of given)) call)) told.1;
      text =
          ap (λ t. front ++ t) told.0 ∙ sym (append_assoc front (string_bytes old.text) (text_after call (state_from [] (calls_of (lines_of given)))))
          ∙ ap (λ t. t ++ text_after call (state_from [] (calls_of (lines_of given)))) run.text
          ∙ sym (ap (λ l. transcript (calls_of l)) lines ∙ ap transcript calls ∙ transcript_with (calls_of (lines_of given)) call);
      held = emptied ∙ sym (ap (λ r. take 112 r) (rest_of-end given end [] none));
    }
  where
    counted : (lines : List (List ℕ)) (line : List ℕ) → length lines + 1 ≡ length (lines ++ line ∷ [])
    counted lines line = omega (arith, length-append lines (line ∷ []))

-- after bytes without a newline
rest_run : (given front more : List ℕ) (old new : Playing) → HasRun given front old → HasNoNewline more → new.player ≡ old.player → new.text ≡ old.text → new.lines ≡ old.lines
    → new.held ≡ take 112 (old.held ++ more) → HasRun (given ++ more) front new
rest_run given front more old new run none player text count held =
    let lines = lines_of-rest given more none in
    let P : List (List ℕ) → Type 0 = λ l. AreCalls l in
    record {
      each = subst P (sym lines) run.each;
      count = count ∙ run.count ∙ ap (λ l. length l) (sym lines);
      state = subst (λ p. StandsFor p (state_from [] (calls_of (lines_of (given ++ more))))) (sym player)
          (subst (λ s. StandsFor old.player s) (sym (ap (λ l. state_from [] (calls_of l)) lines)) run.state);
      text = ap (λ t. front ++ string_bytes t) text ∙ run.text ∙ sym (ap (λ l. transcript (calls_of l)) lines);
      held = held ∙ ap (λ h. take 112 (h ++ more)) run.held ∙ take_again 112 (rest_of given) more ∙ sym (ap (λ r. take 112 r) (rest_of-rest given more none));
    }

-- at a line that stands for no call
malformed_line : (given front end after more : List ℕ) (playing : Playing) → HasRun given front playing → HasNoNewline end → call_of (rest_of given ++ end) ≡ None → (over : Bool)
    → (verdict_on (lines_of (given ++ (end ++ 10 ∷ (after ++ more)))) (rest_of (given ++ (end ++ 10 ∷ (after ++ more)))) over ≡ Malformed (playing.lines + 1))
    × (transcript (calls_of (lines_of (given ++ (end ++ 10 ∷ (after ++ more))))) ≡ front ++ string_bytes playing.text)
malformed_line given front end after more playing run none is over =
    let rest = rest_of (given ++ (end ++ 10 ∷ (after ++ more))) in
    let lines = lines_of-end given end (after ++ more) none in (
      ap (λ l. verdict_on l rest over) lines
          ∙ verdict_until (lines_of given) (lines_of (after ++ more)) (rest_of given ++ end) rest over run.each is
          ∙ ap (λ n. Malformed (n + 1)) (sym run.count),
      ap (λ l. transcript (calls_of l)) lines
          ∙ ap transcript (calls_until (lines_of given) (lines_of (after ++ more)) (rest_of given ++ end) run.each is)
          ∙ sym run.text,
    )

-- of a piece, the lines that end before this rest are run
pub record RunsUpTo (piece rest : List ℕ) (old new : Playing) : Type 0 where
  pub done : List ℕ
  pub whole : done ++ rest ≡ piece
  pub runs : RunsPiece None done old new

-- what the held line and its end stand for, whatever bytes it came from
abbrev pub EndsAs : Playing → List ℕ → Option Call → Type 0
EndsAs playing end call = (start : List ℕ) → playing.held ≡ take 112 start → call ≡ call_of (start ++ end)

abbrev pub line_more : (piece rest end after : List ℕ) (call : Call) (old mid new : Playing) → RunsUpTo piece rest old mid → rest ≡ end ++ 10 ∷ after → HasNoNewline end
    → EndsAs mid end (Some call) → Tells call mid.player new.player (string_bytes mid.text) (string_bytes new.text) → new.lines ≡ mid.lines + 1 → new.held ≡ [] → RunsUpTo piece after old new
line_more piece rest end after call old mid new q cut none ends tells next emptied = record {
  done = q.done ++ (end ++ 10 ∷ []);
  whole = append_assoc q.done (end ++ 10 ∷ []) after ∙ ap (λ r. q.done ++ r) (append_assoc end (10 ∷ []) after ∙ sym cut) ∙ q.whole;
  runs = λ given front run.
      let P : List ℕ → Type 0 = λ g. HasRun g front new in
      let before = q.runs given front run in
      subst P (append_assoc given q.done (end ++ 10 ∷ []))
      (line_run (given ++ q.done) front end call mid new before none (sym (ends (rest_of (given ++ q.done)) before.held)) tells next emptied);
}

pub all_run : (piece rest : List ℕ) (old mid new : Playing) → RunsUpTo piece rest old mid → HasNoNewline rest → new.player ≡ mid.player → new.text ≡ mid.text → new.lines ≡ mid.lines
    → new.held ≡ take 112 (mid.held ++ rest) → RunsPiece None piece old new
all_run piece rest old mid new q none player text count held given front run =
    let P : List ℕ → Type 0 = λ g. HasRun g front new in
    subst P (append_assoc given q.done rest ∙ ap (λ p. given ++ p) q.whole)
    (rest_run (given ++ q.done) front rest mid new (q.runs given front run) none player text count held)

pub malformed_in : (piece rest end after : List ℕ) (old mid : Playing) → RunsUpTo piece rest old mid → rest ≡ end ++ 10 ∷ after → HasNoNewline end → EndsAs mid end None
    → RunsPiece (Some (mid.lines + 1)) piece old mid
malformed_in piece rest end after old mid q cut none ends given front run =
    let before = q.runs given front run in
    let is = sym (ends (rest_of (given ++ q.done)) before.held) in
    let bytes : (more : List ℕ) → (given ++ q.done) ++ (end ++ 10 ∷ (after ++ more)) ≡ (given ++ piece) ++ more
    = λ more.
    append_assoc given q.done (end ++ 10 ∷ (after ++ more))
    ∙ ap (λ r. given ++ (q.done ++ r)) (sym (append_assoc end (10 ∷ after) more) ∙ ap (λ r. r ++ more) (sym cut))
    ∙ ap (λ r. given ++ r) (sym (append_assoc q.done rest more) ∙ ap (λ p. p ++ more) q.whole)
    ∙ sym (append_assoc given piece more) in
    record {
      outcome = λ more over.
          let P : List ℕ → Type 0 = λ b. verdict_on (lines_of b) (rest_of b) over ≡ Malformed (mid.lines + 1) in
          subst P (bytes more) (malformed_line (given ++ q.done) front end after more mid before none is over).0;
      transcript_is = λ more.
          let P : List ℕ → Type 0 = λ b. transcript (calls_of (lines_of b)) ≡ front ++ string_bytes mid.text in
          subst P (bytes more) (malformed_line (given ++ q.done) front end after more mid before none is true).1;
    }

-- what the text of a piece, and of what is before it, comes to
pub told_in : (malformed : Option ℕ) (piece given front : List ℕ) (old new : Playing) → RunsPiece malformed piece old new → HasRun given front old
    → front ++ string_bytes new.text ≡ transcript (calls_of (lines_of (given ++ piece)))
told_in None piece given front old new runs run = (runs given front run).text
told_in (Some line) piece given front old new runs run =
    sym ((runs given front run).transcript_is []) ∙ ap (λ b. transcript (calls_of (lines_of b))) (append-nil (given ++ piece))

-- the whole text of a piece was written
pub piece_played : (piece : List ℕ) (old mid new : Playing) (x y : Option (List ℕ)) → RunsPiece None piece old mid → Appends x y (string_bytes mid.text)
    → new ≡ record mid { text = new.text } → string_bytes new.text ≡ [] → PlaysPiece piece old new x y
piece_played piece old mid new x y runs adds others emptied given start q =
    let run = runs given q.front q.run in
    record {
      front = q.front ++ string_bytes mid.text;
      run = record {
        each = run.each;
        count = ap (λ p. p.lines) others ∙ run.count;
        state = subst (λ p. StandsFor p (state_from [] (calls_of (lines_of (given ++ piece))))) (sym (ap (λ p. p.player) others)) run.state;
        text = ap (λ t. (q.front ++ string_bytes mid.text) ++ t) emptied ∙ append-nil (q.front ++ string_bytes mid.text) ∙ run.text;
        held = ap (λ p. p.held) others ∙ run.held;
      };
      added = Appends-trans start x y q.front (string_bytes mid.text) q.added adds;
      emptied = emptied;
    }

pub piece_malformed : (piece : List ℕ) (line : ℕ) (old mid : Playing) (x y : Option (List ℕ)) → RunsPiece (Some line) piece old mid → Appends x y (string_bytes mid.text)
    → (given : List ℕ) (start : Option (List ℕ)) → HasPlayed given old start x → (text : List ℕ) × IsMalformedAt (given ++ piece) line text × Appends start y text
piece_malformed piece line old mid x y runs adds given start q =
    (q.front ++ string_bytes mid.text, runs given q.front q.run, Appends-trans start x y q.front (string_bytes mid.text) q.added adds)

-- a front of it was written
front_in_piece : (malformed : Option ℕ) (piece given : List ℕ) (old mid : Playing) (start x y : Option (List ℕ)) → RunsPiece malformed piece old mid → HasPlayed given old start x
    → AppendsPrefix (string_bytes mid.text) x y → AppendsPrefix (transcript (calls_of (lines_of (given ++ piece)))) start y
front_in_piece malformed piece given old mid start x y runs q adds =
    let P : List ℕ → Type 0 = λ t. AppendsPrefix t start y in
    subst P (told_in malformed piece given q.front old mid runs q.run) (front_after q.front (string_bytes mid.text) start x y q.added adds)

pub piece_unwritten : (malformed : Option ℕ) (error : SinkError) (fault : PlayFault) (piece : List ℕ) (old mid : Playing) (x y : Option (List ℕ)) (before now : ℕ) → fault ≡ fault_of error
    → RunsPiece malformed piece old mid → AppendsPrefix (string_bytes mid.text) x y → (error ≡ sinks.Failed → Rose before now) → StopsInPiece fault piece old x y before now
piece_unwritten malformed error fault piece old mid x y before now is runs adds rose given start q =
    let P : PlayFault → Type 0 = λ f. Stops f (given ++ piece) start y before now in
    subst P (sym is) (by_error error rose)
  where
    by_error : (error : SinkError) → (error ≡ sinks.Failed → Rose before now) → Stops (fault_of error) (given ++ piece) start y before now
    by_error sinks.Failed rose = (front_in_piece malformed piece given old mid start x y runs q adds, rose refl)
    by_error sinks.NoMemory rose = front_in_piece malformed piece given old mid start x y runs q adds

-- nothing of it was written
pub piece_unfinished : (fault : PlayFault) (piece : List ℕ) (old : Playing) (x : Option (List ℕ)) (before now : ℕ) → fault ≡ faults.NoMemory → StopsInPiece fault piece old x x before now
piece_unfinished fault piece old x before now is given start q =
    let P : PlayFault → Type 0 = λ f. Stops f (given ++ piece) start x before now in
    let later = transcript_more given piece q.run.each in
    let told : transcript (calls_of (lines_of given)) ≡ q.front = sym q.run.text ∙ ap (λ t. q.front ++ t) q.emptied ∙ append-nil q.front in
    let whole : q.front ++ later.0 ≡ transcript (calls_of (lines_of (given ++ piece))) = sym (later.1 ∙ ap (λ t. t ++ later.0) told) in
    subst P (sym is) (record { prefix = q.front; rest = later.0; whole = whole; appended = q.added })
