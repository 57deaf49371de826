-- What the playing of a script pays for its visits, and who was visited.
use Rattle.std.proofs.Common.{◌≡◌, ℕ, ◌+◌, ◌*◌, ◌≤◌, Bool, true, false, cond, nat_lt, List, [], ◌∷◌, ◌++◌, length, take, string_bytes, Option, Some, None, Err, refl, sym, ap, ◌∙◌, subst, append_assoc, append-nil, length-append, arith}
use Rattle.std.proofs.lemmas.List.{take_all}
use Rattle.std.specs.Io.KnownBytes.{Consumes}
use Rattle.std.proofs.KnownBytes.{Appends-nil, Consumes-trans}
use Rattle.band_script.specs.declared.call.Call.{Call}
use Rattle.band_script.specs.Grammar.{call_of}
use Rattle.band_player.specs.Player.{load_of, VisitsJoiners}
use Rattle.band_rules.specs.Joined.{joiners_by, joiners_from, joiners_of}
use Rattle.band_rules.specs.Plan.{plan}
use Rattle.band_rules.specs.Script.{Verdict, Malformed, TooLong, verdict_on, lines_of, rest_of, calls_of, calls_from, calls_within, state_from}
use Rattle.band_rules.specs.State.{State}
use Rattle.band_rules.specs.Step.{step}
use Rattle.band_play.specs.declared.fault.PlayFault.{PlayFault}
use Rattle.band_play.specs.declared.fault.PlayFault.TheVariants as faults
use Rattle.band_play.specs.declared.playing.Playing.{Playing}
use Rattle.band_play.specs.Lines.{HasNoNewline}
use Rattle.band_play.specs.Play.{Gave}
use Rattle.band_play.specs.Playing.{HasRun, PlaysPiece, StopsInPiece, answer_at_end}
use Rattle.band_play.specs.Visits.{VisitsBy, VisitsWhoJoined, PaysPiece, VisitsPiece, calls_in}
use Rattle.band_play.proofs.Answering.{SoFar, so_far_more, gave_of, given_within, within_limit}
use Rattle.band_play.proofs.LineCuts.{lines_of-end, lines_of-rest}
use Rattle.band_play.proofs.LineRuns.{AreCalls, calls_of-append, length_calls}
use Rattle.band_play.proofs.Pieces.{RunsUpTo, EndsAs}

-- who joins by more calls
joiners_from-append : (state : State) (first second : List Call) → joiners_from state (first ++ second) ≡ joiners_from state first + joiners_from (state_from state first) second
joiners_from-append state [] second = omega arith
joiners_from-append state (call ∷ first) second =
    let more = joiners_from-append (step call state).state first second in
    omega (arith, more)

joiners_with : (calls : List Call) (call : Call) → joiners_of (calls ++ call ∷ []) ≡ joiners_of calls + joiners_by (plan call (state_from [] calls))
joiners_with calls call = let all = joiners_from-append [] calls (call ∷ []) in omega (arith, all)

-- the calls of a piece's lines up to one that ends, and from it on
calls_cut : (given done end after piece : List ℕ) (call : Option Call) → done ++ (end ++ 10 ∷ after) ≡ piece → AreCalls (lines_of (given ++ done)) → HasNoNewline end
    → call ≡ call_of (rest_of (given ++ done) ++ end) → calls_in (given ++ piece) ≡ calls_in (given ++ done) ++ calls_from call (calls_in after)
calls_cut given done end after piece call whole each none is =
    ap calls_in (ap (λ p. given ++ p) (sym whole) ∙ sym (append_assoc given done (end ++ 10 ∷ after)))
    ∙ ap calls_of (lines_of-end (given ++ done) end after none)
    ∙ calls_of-append (lines_of (given ++ done)) ((rest_of (given ++ done) ++ end) ∷ lines_of after) each
    ∙ ap (λ c. calls_in (given ++ done) ++ calls_from c (calls_in after)) (sym is)

-- where no more line ends
calls_all : (given done rest piece : List ℕ) → done ++ rest ≡ piece → HasNoNewline rest → calls_in (given ++ piece) ≡ calls_in (given ++ done)
calls_all given done rest piece whole none =
    ap calls_in (ap (λ p. given ++ p) (sym whole) ∙ sym (append_assoc given done rest)) ∙ ap calls_of (lines_of-rest (given ++ done) rest none)

lines_are : (given front : List ℕ) (playing : Playing) → HasRun given front playing → playing.lines ≡ length (calls_in given)
lines_are given front playing run = run.count ∙ sym (length_calls (lines_of given) run.each)

-- of a piece, the lines that end before this rest were run, and this was visited
pub record RanUpTo (piece rest : List ℕ) (old new : Playing) (before after : ℕ) : Type 0 where
  pub upto : RunsUpTo piece rest old new
  pub no_fewer : before ≤ after
  pub no_more : after + 8 * load_of new.player + 16 * old.lines ≤ before + 8 * load_of old.player + 16 * new.lines
  pub joins : VisitsPiece upto.done old before after

-- none of them yet
pub ran_nothing : (piece : List ℕ) (playing : Playing) {now : ℕ} → RanUpTo piece piece playing playing now now
ran_nothing piece playing = record {
  upto = record { done = []; whole = refl; runs = λ given front run. subst (λ g. HasRun g front playing) (sym (append-nil given)) run };
  no_fewer = omega arith;
  no_more = omega arith;
  joins = λ given front run. let same = ap (λ g. joiners_of (calls_in g)) (append-nil given) in omega (arith, same);
}

module _ (piece rest end more : List ℕ) (old mid : Playing) {before after : ℕ} (q : RanUpTo piece rest old mid before after) (cut : rest ≡ end ++ 10 ∷ more) (none : HasNoNewline end) where
  whole : q.upto.done ++ (end ++ 10 ∷ more) ≡ piece
  whole = ap (λ r. q.upto.done ++ r) (sym cut) ∙ q.upto.whole

  calls_now : (call : Option Call) → EndsAs mid end call → (given front : List ℕ) → HasRun given front old
      → calls_in (given ++ piece) ≡ calls_in (given ++ q.upto.done) ++ calls_from call (calls_in more)
  calls_now call ends given front run =
      let ran = q.upto.runs given front run in
      calls_cut given q.upto.done end more piece call whole ran.each none (ends (rest_of (given ++ q.upto.done)) ran.held)

  -- where the line stands for no call
  module _ (ends : EndsAs mid end None) where
    same : (given front : List ℕ) → HasRun given front old → calls_in (given ++ piece) ≡ calls_in (given ++ q.upto.done)
    same given front run = calls_now None ends given front run ∙ append-nil (calls_in (given ++ q.upto.done))

    pub pays_malformed : (new : Playing) → new.player ≡ mid.player → PaysPiece piece old new before after
    pays_malformed new player = record {
      no_fewer = q.no_fewer;
      no_more = λ given front run.
          let first = lines_are given front old run in
          let last = lines_are (given ++ q.upto.done) front mid (q.upto.runs given front run) in
          let all = ap length (same given front run) in
          let load = ap load_of player in
          omega (arith, first, last, all, load, q.no_more);
    }

    pub visits_malformed : VisitsPiece piece old before after
    visits_malformed given front run = let all = ap joiners_of (same given front run) in omega (arith, all, q.joins given front run)

  -- where there was no memory for its call
  pub pays_wanting : (call : Call) (new : Playing) {now : ℕ} → EndsAs mid end (Some call) → after ≤ now → now + 8 * load_of new.player ≤ after + 8 * load_of mid.player + 16 → PaysPiece piece old new before now
  pays_wanting call new ends kept few = record {
    no_fewer = omega (arith, q.no_fewer, kept);
    no_more = λ given front run.
        let first = lines_are given front old run in
        let last = lines_are (given ++ q.upto.done) front mid (q.upto.runs given front run) in
        let all = ap length (calls_now (Some call) ends given front run) ∙ length-append (calls_in (given ++ q.upto.done)) (call ∷ calls_in more) in
        omega (arith, first, last, all, q.no_more, few);
  }

  -- where it stands for one
  pub visits_line : (call : Call) (now : ℕ) → EndsAs mid end (Some call) → VisitsJoiners call mid.player after now → VisitsPiece (q.upto.done ++ (end ++ 10 ∷ [])) old before now
  visits_line call now ends visits given front run =
      let ran = q.upto.runs given front run in
      let line = rest_of (given ++ q.upto.done) in
      let calls = calls_cut given q.upto.done end [] (q.upto.done ++ (end ++ 10 ∷ [])) (Some call) refl ran.each none (ends line ran.held) in
      let all = ap joiners_of calls ∙ joiners_with (calls_in (given ++ q.upto.done)) call in
      omega (arith, all, q.joins given front run, visits (state_from [] (calls_in (given ++ q.upto.done))) ran.state)

-- where no more line ends
module _ (piece rest : List ℕ) (old mid : Playing) {before after : ℕ} (q : RanUpTo piece rest old mid before after) (none : HasNoNewline rest) where
  pub pays_all : (new : Playing) → new.player ≡ mid.player → PaysPiece piece old new before after
  pays_all new same = record {
    no_fewer = q.no_fewer;
    no_more = λ given front run.
        let first = lines_are given front old run in
        let last = lines_are (given ++ q.upto.done) front mid (q.upto.runs given front run) in
        let all = ap length (calls_all given q.upto.done rest piece q.upto.whole none) in
        let load = ap load_of same in
        omega (arith, first, last, all, load, q.no_more);
  }

  pub visits_all : VisitsPiece piece old before after
  visits_all given front run = let all = ap joiners_of (calls_all given q.upto.done rest piece q.upto.whole none) in omega (arith, all, q.joins given front run)

-- the text of a piece was written since
pub pays_written : (piece : List ℕ) (old mid new : Playing) {before after : ℕ} → PaysPiece piece old mid before after → new ≡ record mid { text = new.text } → PaysPiece piece old new before after
pays_written piece old mid new pays others = record {
  no_fewer = pays.no_fewer;
  no_more = λ given front run. let load = ap (λ (p : Playing). load_of p.player) others in omega (arith, load, pays.no_more given front run);
}

-- the number of the line that stands for no call
abbrev line_in : Verdict → ℕ
line_in (Malformed line) = line
line_in outcome = 0

malformed_at : (lines : List (List ℕ)) (rest : List ℕ) (line : ℕ) → verdict_on lines rest true ≡ Malformed line → line ≡ length (calls_of lines) + 1
malformed_at lines rest line is = go (nat_lt (length (calls_of lines)) (length lines)) is
  where
    go : (b : Bool) → cond b (Malformed (length (calls_of lines) + 1)) TooLong ≡ Malformed line → line ≡ length (calls_of lines) + 1
    go true is = sym (ap line_in is)
    go false is = cc

-- what was given is played, and visited
pub record Visited (limit left : ℕ) (playing : Playing) (first last before after : Option (List ℕ)) (start now : ℕ) : Type 0 where
  pub so_far : SoFar limit left playing first last before after
  pub few : now + 8 * load_of playing.player ≤ start + 16 * length (calls_in so_far.given)
  pub joined : start + joiners_of (calls_in so_far.given) ≤ now

-- nothing was given yet
nothing_taken : (bytes : Option (List ℕ)) → Consumes bytes bytes []
nothing_taken None = tt
nothing_taken (Some bytes) = refl

pub visited_nothing : (limit : ℕ) (playing : Playing) (bytes text : Option (List ℕ)) {now : ℕ} → HasRun [] [] playing → string_bytes playing.text ≡ [] → load_of playing.player ≡ 0
    → Visited limit limit playing bytes bytes text text now now
visited_nothing limit playing bytes text run emptied load = record {
  so_far = record {
    given = [];
    front = nothing_taken bytes;
    size = omega arith;
    played = record { front = []; run = run; added = Appends-nil text; emptied = emptied };
  };
  few = omega (arith, load);
  joined = omega arith;
}

-- what a piece adds to what was given
module _ (limit left : ℕ) (piece cut : List ℕ) (old : Playing) (first mid last x y : Option (List ℕ)) (start between now : ℕ) (q : Visited limit left old first mid x y start between)
    (gives : Consumes mid last piece) (is : cut ≡ take left piece) where
  abbrev given : List ℕ
  given = q.so_far.given

  gave_within : (P : List ℕ → Type 0) → P (given ++ cut) → Gave (λ given. P (take limit given)) first last
  gave_within P holds =
      gave_of (λ given. P (take limit given)) (given ++ piece) first last (Consumes-trans first mid last given piece q.so_far.front gives)
      (subst P (ap (λ p. given ++ p) is ∙ given_within limit left given piece q.so_far.size) holds)

  few_within : (new : Playing) → PaysPiece cut old new between now → now ≤ start + 16 * length (calls_in (given ++ cut))
  few_within new pays = omega (arith, q.few, pays.no_more given q.so_far.played.front q.so_far.played.run)

  joined_within : VisitsPiece cut old between now → start + joiners_of (calls_in (given ++ cut)) ≤ now
  joined_within visits = omega (arith, q.joined, visits given q.so_far.played.front q.so_far.played.run)

  pub few_taken : (new : Playing) → PaysPiece cut old new between now → Gave (λ given. now ≤ start + 16 * length (calls_within limit given)) first last
  few_taken new pays = gave_within (λ bytes. now ≤ start + 16 * length (calls_in bytes)) (few_within new pays)

  pub joined_taken : VisitsPiece cut old between now → Gave (λ given. start + joiners_of (calls_within limit given) ≤ now) first last
  joined_taken visits = gave_within (λ bytes. start + joiners_of (calls_in bytes) ≤ now) (joined_within visits)

  pub visited_more : (fewer : ℕ) (new : Playing) (z : Option (List ℕ)) → length piece ≤ left → fewer + length piece ≡ left → PlaysPiece cut old new y z → PaysPiece cut old new between now
      → VisitsPiece cut old between now → Visited limit fewer new first last x z start now
  visited_more fewer new z size rest plays pays visits =
      let all : cut ≡ piece = is ∙ take_all left piece size in
      record {
        so_far = so_far_more limit left fewer piece cut old new first mid last x y z q.so_far gives size rest is plays;
        few = subst (λ p. now + 8 * load_of new.player ≤ start + 16 * length (calls_in (given ++ p))) all
            (omega (arith, q.few, pays.no_more given q.so_far.played.front q.so_far.played.run));
        joined = subst (λ p. start + joiners_of (calls_in (given ++ p)) ≤ now) all (joined_within visits);
      }

  -- by the fault that ended it
  module _ (new : Playing) (pays : PaysPiece cut old new between now) (size : length piece ≤ 4096) where
    wanting : Gave (λ given. VisitsWhoJoined (Err faults.NoMemory) limit given start now) first last
    wanting =
        let P : List ℕ → Type 0 = λ bytes. start + joiners_of (calls_in bytes) ≤ now in
        gave_of _ (given ++ piece) first last (Consumes-trans first mid last given piece q.so_far.front gives)
        (given, (piece, refl, size, subst P (sym (within_limit limit left given q.so_far.size)) (omega (arith, q.joined, pays.no_fewer))))

    pub joined_by_fault : (fault : PlayFault) → ((fault ≡ faults.NoMemory → ⊥) → VisitsPiece cut old between now) → Gave (λ given. VisitsWhoJoined (Err fault) limit given start now) first last
    joined_by_fault faults.NoMemory visits = wanting
    joined_by_fault (faults.Malformed line) visits = joined_taken (visits (λ e. cc))
    joined_by_fault faults.TooLong visits = joined_taken (visits (λ e. cc))
    joined_by_fault faults.Read visits = joined_taken (visits (λ e. cc))
    joined_by_fault faults.Write visits = joined_taken (visits (λ e. cc))

    pub few_by_fault : (fault : PlayFault) (z : Option (List ℕ)) (counted failed : ℕ) → StopsInPiece fault cut old y z counted failed → VisitsBy (Err fault) start now
    few_by_fault (faults.Malformed line) z counted failed stops =
        let stopped = stops given x q.so_far.played in
        let at = malformed_at (lines_of ((given ++ cut) ++ [])) (rest_of ((given ++ cut) ++ [])) line (stopped.1.outcome [] true) in
        let same = ap (λ bytes. length (calls_in bytes)) (append-nil (given ++ cut)) in
        omega (arith, at, same, few_within new pays)
    few_by_fault fault z counted failed stops = tt

-- where nothing more was given
module _ (limit left : ℕ) (piece : List ℕ) (playing : Playing) (first mid last x y : Option (List ℕ)) (start now : ℕ) (q : Visited limit left playing first mid x y start now)
    (gives : Consumes mid last piece) (empty : piece ≡ []) where
  gave_still : (P : List ℕ → Type 0) → P q.so_far.given → Gave (λ given. P (take limit given)) first last
  gave_still P holds =
      let none = ap length empty in
      let all : q.so_far.given ++ take left piece ≡ q.so_far.given
      = ap (λ p. q.so_far.given ++ p) (take_all left piece (omega (arith, none)) ∙ empty) ∙ append-nil q.so_far.given in
      gave_within limit left piece (take left piece) playing first mid last x y start now now q gives refl P (subst P (sym all) holds)

  pub few_still : Gave (λ given. now ≤ start + 16 * length (calls_within limit given)) first last
  few_still = gave_still (λ bytes. now ≤ start + 16 * length (calls_in bytes)) (omega (arith, q.few))

  pub joined_still : Gave (λ given. start + joiners_of (calls_within limit given) ≤ now) first last
  joined_still = gave_still (λ bytes. start + joiners_of (calls_in bytes) ≤ now) q.joined

  -- the answer at the end
  pub few_at_end : VisitsBy (answer_at_end playing.lines playing.held) start now
  few_at_end = go playing.held (omega (arith, q.few, lines_are q.so_far.given q.so_far.played.front playing q.so_far.played.run))
    where
      go : (held : List ℕ) → now ≤ start + 16 * playing.lines → VisitsBy (answer_at_end playing.lines held) start now
      go [] few = few
      go (byte ∷ held) few = omega (arith, few)

  pub joined_at_end : Gave (λ given. VisitsWhoJoined (answer_at_end playing.lines playing.held) limit given start now) first last
  joined_at_end = go playing.held
    where
      go : (held : List ℕ) → Gave (λ given. VisitsWhoJoined (answer_at_end playing.lines held) limit given start now) first last
      go [] = joined_still
      go (byte ∷ held) = joined_still
