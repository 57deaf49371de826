-- What the promise of the program says of each status.
use Rattle.std.proofs.Common.{◌≡◌, ◌≢◌, ℕ, ◌+◌, ◌≤◌, ◌⊎◌, inl, inr, List, [], ◌∷◌, ◌++◌, length, Option, Some, None, Result, Ok, Err, refl, sym, subst, ap, ◌∙◌, append-nil, arith}
use Rattle.std.specs.Option.{unwrap_or}
use Rattle.band_base.specs.Device.{AppendsPrefix}
use Rattle.band_play.specs.declared.fault.PlayFault.{PlayFault}
use Rattle.band_play.specs.declared.fault.PlayFault.TheVariants as faults
use Rattle.band_play.specs.Play.{End, HasFailed, Gave, KeepsUp, Plays, SumsUp, Told, ToldWith, EndsWith, AskToPlay, AskForBulk, AreOthers, Runs, status_of, program_limit}
use Rattle.band_script.specs.declared.call.Call.{Call}
use Rattle.band_play.specs.Bulk.{bulk_calls}
use Rattle.band_play.specs.Text.{fault_text, usage_text}
use Rattle.band_rules.specs.Script.{verdict}
use Rattle.band_uses.specs.Outcome.{answer_of, exit_of}
use Rattle.band_uses.proofs.PlayLemmas.{says_outcome, takes_of}

bounds : (fault : PlayFault) → (3 ≤ status_of fault) × (status_of fault ≤ 7)
bounds (faults.Malformed line) = (omega arith, omega arith)
bounds faults.TooLong = (omega arith, omega arith)
bounds faults.Read = (omega arith, omega arith)
bounds faults.Write = (omega arith, omega arith)
bounds faults.NoMemory = (omega arith, omega arith)

-- a text was told with its status, or the status is 7
own_or_seven : (own status : ℕ) (text : List ℕ) (told : End) → ToldWith own text status told → (status ≡ own) ⊎ (status ≡ 7)
own_or_seven own status text told (inl whole) = inl whole.0
own_or_seven own status text told (inr front) = inr front.0

told_where : (own status : ℕ) (text : List ℕ) (told : End) → ToldWith own text status told → status ≢ 7 → (status ≡ own) × Told text told
told_where own status text told (inl whole) less = whole
told_where own status text told (inr front) less = absurd (less front.0)

whole_front : (text : List ℕ) (told : End) → Told text told → AppendsPrefix text told.before told.after
whole_front text told (inl adds) = record { prefix = text; rest = []; whole = append-nil text; appended = adds }
whole_front text told (inr front) = front.0

told_front : (own status : ℕ) (text : List ℕ) (told : End) → ToldWith own text status told → AppendsPrefix text told.before told.after
told_front own status text told (inl whole) = whole_front text told whole.1
told_front own status text told (inr front) = front.1

exit_is : (answer : Result ℕ PlayFault) (status : ℕ) (told : End) → EndsWith answer status told → (status ≡ exit_of answer) ⊎ (status ≡ 7)
exit_is (Ok lines) status told ends = inl ends
exit_is (Err fault) status told ends = own_or_seven (status_of fault) status (fault_text fault ++ 10 ∷ []) told ends

exit_not_two : (answer : Result ℕ PlayFault) → exit_of answer ≢ 2
exit_not_two (Ok lines) two = omega (arith, two)
exit_not_two (Err fault) two = omega (arith, two, (bounds fault).0)

exit_zero : (answer : Result ℕ PlayFault) → exit_of answer ≡ 0 → (lines : ℕ) × (answer ≡ Ok lines)
exit_zero (Ok lines) zero = (lines, refl)
exit_zero (Err fault) zero = absurd (omega (arith, zero, (bounds fault).0))

-- no words ask for both
play_or_bulk : (n : ℕ) (words : List (List ℕ)) → AskToPlay words → AskForBulk n words → ⊥
play_or_bulk n words play bulk = omega (arith, ap length (sym play ∙ bulk.0))

-- 2 comes with other words alone, which come to 2 or 7
not_two : (answer : Result ℕ PlayFault) (status : ℕ) (told : End) → EndsWith answer status told → status ≢ 2
not_two answer status told ends two = by_exit (exit_is answer status told ends)
  where
    by_exit : (status ≡ exit_of answer) ⊎ (status ≡ 7) → ⊥
    by_exit (inl is) = exit_not_two answer (sym is ∙ two)
    by_exit (inr seven) = omega (arith, seven, two)

pub usage_of : (words : List (List ℕ)) (source sink told : End) (status : ℕ) → Runs words source sink told status → status ≡ 2 → AreOthers words
usage_of words source sink told status (inl ran) two = absurd (not_two ran.1.0 status told ran.1.2 two)
usage_of words source sink told status (inr (inl bulk)) two = absurd (not_two bulk.2.0 status told bulk.2.2 two)
usage_of words source sink told status (inr (inr other)) two = other.0

pub other_of : (words : List (List ℕ)) (source sink told : End) (status : ℕ) → Runs words source sink told status → AreOthers words → (status ≡ 2) ⊎ (status ≡ 7)
other_of words source sink told status (inl ran) others = absurd (others.0 ran.0)
other_of words source sink told status (inr (inl bulk)) others = absurd (others.1 bulk.0 bulk.1)
other_of words source sink told status (inr (inr other)) others = own_or_seven 2 status (usage_text ++ 10 ∷ []) told other.1

-- a bulk script comes to 0, 6 or 7
bulk_exit : (calls : List Call) (answer : Result ℕ PlayFault) (sink told : End) (status : ℕ) → SumsUp calls answer sink → EndsWith answer status told → 3 ≤ status → status ≤ 5 → ⊥
bulk_exit calls (Ok lines) sink told status sums ends least most = omega (arith, ends, least)
bulk_exit calls (Err (faults.Malformed line)) sink told status sums ends least most = absurd sums
bulk_exit calls (Err faults.TooLong) sink told status sums ends least most = absurd sums
bulk_exit calls (Err faults.Read) sink told status sums ends least most = absurd sums
bulk_exit calls (Err faults.Write) sink told status sums ends least most = by_exit (exit_is (Err faults.Write) status told ends)
  where
    by_exit : (status ≡ 6) ⊎ (status ≡ 7) → ⊥
    by_exit (inl is) = omega (arith, is, most)
    by_exit (inr seven) = omega (arith, seven, most)
bulk_exit calls (Err faults.NoMemory) sink told status sums ends least most = by_exit (exit_is (Err faults.NoMemory) status told ends)
  where
    by_exit : (status ≡ 7) ⊎ (status ≡ 7) → ⊥
    by_exit (inl seven) = omega (arith, seven, most)
    by_exit (inr seven) = omega (arith, seven, most)

-- how `play` ran
abbrev Ran : End → End → End → ℕ → Type 0
Ran source sink told status = (answer : Result ℕ PlayFault) × Plays program_limit source sink answer × EndsWith answer status told

-- it ran where the words ask for it, and with a status that nothing else comes to
ran_by_words : (words : List (List ℕ)) (source sink told : End) (status : ℕ) → Runs words source sink told status → AskToPlay words → Ran source sink told status
ran_by_words words source sink told status (inl ran) play = ran.1
ran_by_words words source sink told status (inr (inl bulk)) play = absurd (play_or_bulk bulk.0 words play bulk.1)
ran_by_words words source sink told status (inr (inr other)) play = absurd (other.0.0 play)

ran_by_status : (words : List (List ℕ)) (source sink told : End) (status : ℕ) → Runs words source sink told status → 3 ≤ status → status ≤ 5 → Ran source sink told status
ran_by_status words source sink told status (inl ran) least most = ran.1
ran_by_status words source sink told status (inr (inl bulk)) least most = absurd (bulk_exit (bulk_calls bulk.0) bulk.2.0 sink told status bulk.2.1 bulk.2.2 least most)
ran_by_status words source sink told status (inr (inr other)) least most = absurd (neither (own_or_seven 2 status (usage_text ++ 10 ∷ []) told other.1))
  where
    neither : (status ≡ 2) ⊎ (status ≡ 7) → ⊥
    neither (inl two) = omega (arith, two, least)
    neither (inr seven) = omega (arith, seven, most)

own_where : (answer : Result ℕ PlayFault) (status : ℕ) (told : End) → EndsWith answer status told → status ≢ 7 → status ≡ exit_of answer
own_where answer status told ends not_seven = own (exit_is answer status told ends)
  where
    own : (status ≡ exit_of answer) ⊎ (status ≡ 7) → status ≡ exit_of answer
    own (inl is) = is
    own (inr seven) = absurd (not_seven seven)

-- with status 0
pub ran_well : (words : List (List ℕ)) (source sink told : End) (status : ℕ) → Runs words source sink told status → AskToPlay words → status ≡ 0
    → (lines : ℕ) × Plays program_limit source sink (Ok lines)
ran_well words source sink told status runs play zero =
    let ran = ran_by_words words source sink told status runs play in
    let own = own_where ran.0 status told ran.2 (λ seven. omega (arith, zero, seven)) in
    let well = exit_zero ran.0 (sym own ∙ zero) in
    let P : Result ℕ PlayFault → Type 0 = λ a. Plays program_limit source sink a in
    (well.0, subst P well.1 ran.1)

-- with the status of a fault
ran_badly_by : (answer : Result ℕ PlayFault) (source sink told : End) (status : ℕ) → Plays program_limit source sink answer → EndsWith answer status told → 3 ≤ status → status ≤ 6
    → (fault : PlayFault) × Plays program_limit source sink (Err fault) × (status ≡ status_of fault) × Told (fault_text fault ++ 10 ∷ []) told
ran_badly_by (Ok lines) source sink told status plays ends least most = absurd (omega (arith, ends, least))
ran_badly_by (Err fault) source sink told status plays ends least most =
    let own = told_where (status_of fault) status (fault_text fault ++ 10 ∷ []) told ends (λ seven. omega (arith, seven, most)) in
    (fault, plays, own.0, own.1)

ran_badly : (words : List (List ℕ)) (source sink told : End) (status : ℕ) → Runs words source sink told status → 3 ≤ status → status ≤ 5
    → (fault : PlayFault) × Plays program_limit source sink (Err fault) × (status ≡ status_of fault) × Told (fault_text fault ++ 10 ∷ []) told
ran_badly words source sink told status runs least most =
    let ran = ran_by_status words source sink told status runs least most in
    ran_badly_by ran.0 source sink told status ran.1 ran.2 least (omega (arith, most))

-- the fault that a status tells
malformed_at : (fault : PlayFault) → status_of fault ≡ 3 → (line : ℕ) × (fault ≡ faults.Malformed line)
malformed_at (faults.Malformed line) is = (line, refl)
malformed_at faults.TooLong is = absurd (omega (arith, is))
malformed_at faults.Read is = absurd (omega (arith, is))
malformed_at faults.Write is = absurd (omega (arith, is))
malformed_at faults.NoMemory is = absurd (omega (arith, is))

too_long_at : (fault : PlayFault) → status_of fault ≡ 4 → fault ≡ faults.TooLong
too_long_at (faults.Malformed line) is = absurd (omega (arith, is))
too_long_at faults.TooLong is = refl
too_long_at faults.Read is = absurd (omega (arith, is))
too_long_at faults.Write is = absurd (omega (arith, is))
too_long_at faults.NoMemory is = absurd (omega (arith, is))

read_at : (fault : PlayFault) → status_of fault ≡ 5 → fault ≡ faults.Read
read_at (faults.Malformed line) is = absurd (omega (arith, is))
read_at faults.TooLong is = absurd (omega (arith, is))
read_at faults.Read is = refl
read_at faults.Write is = absurd (omega (arith, is))
read_at faults.NoMemory is = absurd (omega (arith, is))

write_at : (fault : PlayFault) → status_of fault ≡ 6 → fault ≡ faults.Write
write_at (faults.Malformed line) is = absurd (omega (arith, is))
write_at faults.TooLong is = absurd (omega (arith, is))
write_at faults.Read is = absurd (omega (arith, is))
write_at faults.Write is = refl
write_at faults.NoMemory is = absurd (omega (arith, is))

-- how a fault is told
abbrev pub EndsIn : PlayFault → End → End → End → Type 0
EndsIn fault source sink told = Plays program_limit source sink (Err fault) × Told (fault_text fault ++ 10 ∷ []) told

ends_in : (expected fault : PlayFault) (source sink told : End) → fault ≡ expected → Plays program_limit source sink (Err fault) → Told (fault_text fault ++ 10 ∷ []) told
    → EndsIn expected source sink told
ends_in expected fault source sink told is plays tells =
    let P : PlayFault → Type 0 = λ f. EndsIn f source sink told in
    subst P is (plays, tells)

pub ran_malformed : (words : List (List ℕ)) (source sink told : End) (status : ℕ) → Runs words source sink told status → status ≡ 3 → (line : ℕ) × EndsIn (faults.Malformed line) source sink told
ran_malformed words source sink told status runs is =
    let ran = ran_badly words source sink told status runs (omega (arith, is)) (omega (arith, is)) in
    let means = malformed_at ran.0 (sym ran.2 ∙ is) in
    (means.0, ends_in (faults.Malformed means.0) ran.0 source sink told means.1 ran.1 ran.3)

pub ran_too_long : (words : List (List ℕ)) (source sink told : End) (status : ℕ) → Runs words source sink told status → status ≡ 4 → EndsIn faults.TooLong source sink told
ran_too_long words source sink told status runs is =
    let ran = ran_badly words source sink told status runs (omega (arith, is)) (omega (arith, is)) in
    ends_in faults.TooLong ran.0 source sink told (too_long_at ran.0 (sym ran.2 ∙ is)) ran.1 ran.3

pub ran_unread : (words : List (List ℕ)) (source sink told : End) (status : ℕ) → Runs words source sink told status → status ≡ 5 → EndsIn faults.Read source sink told
ran_unread words source sink told status runs is =
    let ran = ran_badly words source sink told status runs (omega (arith, is)) (omega (arith, is)) in
    ends_in faults.Read ran.0 source sink told (read_at ran.0 (sym ran.2 ∙ is)) ran.1 ran.3

-- a sink that failed, and was told of so
abbrev pub Unwritten : End → End → Type 0
Unwritten sink told = HasFailed sink × Told (fault_text faults.Write ++ 10 ∷ []) told

bulk_unwritten : (calls : List Call) (answer : Result ℕ PlayFault) (sink told : End) (status : ℕ) → SumsUp calls answer sink → EndsWith answer status told → status ≡ 6 → Unwritten sink told
bulk_unwritten calls (Ok lines) sink told status sums ends six = absurd (omega (arith, ends, six))
bulk_unwritten calls (Err (faults.Malformed line)) sink told status sums ends six = absurd sums
bulk_unwritten calls (Err faults.TooLong) sink told status sums ends six = absurd sums
bulk_unwritten calls (Err faults.Read) sink told status sums ends six = absurd sums
bulk_unwritten calls (Err faults.Write) sink told status sums ends six =
    (sums.0, (told_where 6 status (fault_text faults.Write ++ 10 ∷ []) told ends (λ seven. omega (arith, seven, six))).1)
bulk_unwritten calls (Err faults.NoMemory) sink told status sums ends six = by_exit (exit_is (Err faults.NoMemory) status told ends)
  where
    by_exit : (status ≡ 7) ⊎ (status ≡ 7) → Unwritten sink told
    by_exit (inl seven) = absurd (omega (arith, seven, six))
    by_exit (inr seven) = absurd (omega (arith, seven, six))

pub ran_unwritten : (words : List (List ℕ)) (source sink told : End) (status : ℕ) → Runs words source sink told status → status ≡ 6 → Unwritten sink told
ran_unwritten words source sink told status (inl ran) is =
    let bad = ran_badly_by ran.1.0 source sink told status ran.1.1 ran.1.2 (omega (arith, is)) (omega (arith, is)) in
    let ends = ends_in faults.Write bad.0 source sink told (write_at bad.0 (sym bad.2 ∙ is)) bad.1 bad.3 in
    (ends.0.answers, ends.1)
ran_unwritten words source sink told status (inr (inl bulk)) is = bulk_unwritten (bulk_calls bulk.0) bulk.2.0 sink told status bulk.2.1 bulk.2.2 is
ran_unwritten words source sink told status (inr (inr other)) is = absurd (neither (own_or_seven 2 status (usage_text ++ 10 ∷ []) told other.1))
  where
    neither : (status ≡ 2) ⊎ (status ≡ 7) → ⊥
    neither (inl two) = omega (arith, two, is)
    neither (inr seven) = omega (arith, seven, is)

-- with status 2, and with 7
pub tells_usage : (words : List (List ℕ)) (source sink told : End) (status : ℕ) → Runs words source sink told status → status ≡ 2 → Told (usage_text ++ 10 ∷ []) told
tells_usage words source sink told status (inl ran) two = absurd (not_two ran.1.0 status told ran.1.2 two)
tells_usage words source sink told status (inr (inl bulk)) two = absurd (not_two bulk.2.0 status told bulk.2.2 two)
tells_usage words source sink told status (inr (inr other)) two = (told_where 2 status (usage_text ++ 10 ∷ []) told other.1 (λ seven. omega (arith, two, seven))).1

tells_front_by : (answer : Result ℕ PlayFault) (told : End) (status : ℕ) → EndsWith answer status told → status ≡ 7
    → (fault : PlayFault) × AppendsPrefix (fault_text fault ++ 10 ∷ []) told.before told.after
tells_front_by (Ok lines) told status ends seven = absurd (omega (arith, ends, seven))
tells_front_by (Err fault) told status ends seven = (fault, told_front (status_of fault) status (fault_text fault ++ 10 ∷ []) told ends)

pub tells_front : (words : List (List ℕ)) (source sink told : End) (status : ℕ) → Runs words source sink told status → status ≡ 7
    → AppendsPrefix (usage_text ++ 10 ∷ []) told.before told.after ⊎ ((fault : PlayFault) × AppendsPrefix (fault_text fault ++ 10 ∷ []) told.before told.after)
tells_front words source sink told status (inl ran) seven = inr (tells_front_by ran.1.0 told status ran.1.2 seven)
tells_front words source sink told status (inr (inl bulk)) seven = inr (tells_front_by bulk.2.0 told status bulk.2.2 seven)
tells_front words source sink told status (inr (inr other)) seven = inl (told_front 2 status (usage_text ++ 10 ∷ []) told other.1)

-- whatever the status is
pub ran_keeps_up : (words : List (List ℕ)) (source sink told : End) (status : ℕ) → Runs words source sink told status → AskToPlay words
    → Gave (λ given. KeepsUp program_limit given sink.before sink.after) source.before source.after
ran_keeps_up words source sink told status runs play = (ran_by_words words source sink told status runs play).1.keeps_up

-- with other words nothing was read
none_taken : (limit : ℕ) (before after : Option (List ℕ)) → after ≡ before → Gave (λ given. length given ≤ limit + 1) before after
none_taken limit None after is = tt
none_taken limit (Some bytes) None is = cc
none_taken limit (Some bytes) (Some left) is = let same : left ≡ bytes = option_eq is in ([], sym same, omega arith)
  where
    option_eq : {a b : List ℕ} → Some a ≡ Some b → a ≡ b
    option_eq e = ap (λ o. unwrap_or o []) e

pub ran_takes : (words : List (List ℕ)) (source sink told : End) (status : ℕ) → Runs words source sink told status → ((AskToPlay words → ⊥) → source.after ≡ source.before)
    → Gave (λ given. length given ≤ program_limit + 1) source.before source.after
ran_takes words source sink told status (inl ran) unread = takes_of _ _ _ _ _ ran.1.1.keeps_up
ran_takes words source sink told status (inr (inl bulk)) unread = none_taken program_limit _ _ (unread (λ play. play_or_bulk bulk.0 words play bulk.1))
ran_takes words source sink told status (inr (inr other)) unread = none_taken program_limit _ _ (unread other.0.0)

pub reads_never_fall : (words : List (List ℕ)) (source sink told : End) (status : ℕ) → Runs words source sink told status
    → ((AskToPlay words → ⊥) → source.faults_now ≡ source.faults) → source.faults ≤ source.faults_now
reads_never_fall words source sink told status (inl ran) unread = ran.1.1.reads_never_fall
reads_never_fall words source sink told status (inr (inl bulk)) unread = omega (arith, unread (λ play. play_or_bulk bulk.0 words play bulk.1))
reads_never_fall words source sink told status (inr (inr other)) unread = omega (arith, unread other.0.0)

-- where neither end has failed
pub ran_completes : (words : List (List ℕ)) (source sink told : End) (status : ℕ) → Runs words source sink told status → AskToPlay words → (HasFailed source → ⊥)
    → (HasFailed sink → ⊥) → (bytes : List ℕ) → source.before ≡ Some bytes → (status ≡ exit_of (answer_of (verdict program_limit bytes))) ⊎ (status ≡ 7)
ran_completes words source sink told status runs play reads writes bytes tells =
    completes (says_outcome ran.0 program_limit source sink ran.1 reads writes bytes tells) (exit_is ran.0 status told ran.2)
  where
    ran : Ran source sink told status
    ran = ran_by_words words source sink told status runs play

    completes : (ran.0 ≡ answer_of (verdict program_limit bytes)) ⊎ (ran.0 ≡ Err faults.NoMemory) → (status ≡ exit_of ran.0) ⊎ (status ≡ 7)
        → (status ≡ exit_of (answer_of (verdict program_limit bytes))) ⊎ (status ≡ 7)
    completes outcome (inr seven) = inr seven
    completes (inl outcome) (inl own) = inl (own ∙ ap exit_of outcome)
    completes (inr memory) (inl own) = inr (own ∙ ap exit_of memory)
