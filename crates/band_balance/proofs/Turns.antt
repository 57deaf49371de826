-- What an allowed rule makes of the line of an object and of what is held of it, whatever it answers.
use Rattle.std.proofs.Common.{◌≡◌, ℕ, map, ◌+◌, ◌-◌, ◌≤◌, Bool, true, false, cond, not, ◌&&◌, ◌||◌, is_some, List, ◌∷◌, [], ◌++◌, Option, Some, None, nat_le, refl, sym, ap, ap₂, ◌∙◌, subst}
use Rattle.std.proofs.lemmas.Bool.{cond-true, cond-false, leb-true, false≢true}
use Rattle.band_balance.specs.Line.{Entry, Line, total, is_served, take_permits, give_back, join, drained, overflows, owes_too_much}
use Rattle.std.specs.Option.{option_map_or}
use Rattle.band_balance.specs.Line.{entry_named, without, poll_granted, poll_waiting, cancel, end_waiting, entry_of}
use Rattle.band_balance.specs.Object.{Object, Turn, Answer, Done, Ready, Pending, Nothing, Closed, Drained, turn, hold, change, size_in}
use Rattle.band_balance.specs.Object.{Kind, Semaphore, Mutex, ReaderWriter, Permit, Read, Write, Tag, tag, is_of, size_of}
use Rattle.band_balance.specs.Rule.{Rule, Ask, Poll, Try, Drop, Release, Reduce, Drain, Close, Forget, Split, Merge, Downgrade, Status}
use Rattle.band_balance.specs.Rule.{Fits, has_name, act, MayAsk, Holds, IsAllowed, leaver, brought, removed, joiner, may_grant}
use Rattle.band_balance.specs.Rule.{closes as closing}

-- what a rule may do to those that wait: nothing, or grant some once just these have left, or end them all
pub data Effect (N : Type 0) : Type 0 where
  quiet : Effect N
  grants : (left : N → Bool) → Effect N
  shuts : Effect N

-- by what it may do to those that wait, what it brings and what it takes away, and who joins
pub data Becomes {K : Type 0} (same : K → K → Bool) (object : Object (Tag K)) : Effect (Tag K) → ℕ → ℕ → Option K → Line (Tag K) → List (Entry (Tag K)) → Bool → List (Entry (Tag K)) → Type 0 where
  stays : Becomes same object quiet 0 0 None object.line object.held object.closed object.ended
  takes : (made : Tag K) (size : ℕ) → is_served size object.line ≡ true → Fits object.kind made.mode size
      → Becomes same object quiet 0 0 None (take_permits size object.line) (hold made size object.held) object.closed object.ended
  joins : (made : Tag K) (size waker : ℕ) → is_served size object.line ≡ false → MayAsk same made size object
      → Becomes same object quiet 0 0 (Some made.name) (join made size waker object.line) object.held object.closed object.ended
  receives : (name : K) (entry : Entry (Tag K)) → entry_named (has_name same name) object.line.granted ≡ Some entry
      → Becomes same object quiet 0 0 None (poll_granted (has_name same name) object.line) (object.held ++ entry ∷ []) object.closed object.ended
  rewakes : (name : K) (waker : ℕ) → Becomes same object quiet 0 0 None (poll_waiting (has_name same name) waker object.line) object.held object.closed object.ended
  returns : (name : K) (entry : Entry (Tag K)) → entry_named (has_name same name) object.held ≡ Some entry
      → Becomes same object (grants (λ tag. false)) 0 0 None (give_back entry.size object.line) (without (has_name same name) object.held) object.closed object.ended
  ends : (name : K) → Becomes same object (grants (has_name same name)) 0 0 None (cancel (has_name same name) object.line) object.held object.closed (without (has_name same name) object.ended)
  comes : (n : ℕ) → Fits object.kind Permit n → overflows n object.line (total object.held) ≡ false → Becomes same object (grants (λ tag. false)) n 0 None (give_back n object.line) object.held object.closed object.ended
  goes : (n : ℕ) → Fits object.kind Permit n → owes_too_much n object.line ≡ false → Becomes same object quiet 0 n None (take_permits n object.line) object.held object.closed object.ended
  drains : (n : ℕ) → Fits object.kind Permit n → Becomes same object quiet 0 (drained n object.line) None (take_permits (drained n object.line) object.line) object.held object.closed object.ended
  forgets : (name : K) (it : Holds same Permit name object) → Becomes same object quiet 0 it.entry.size None object.line (without (has_name same name) object.held) object.closed object.ended
  splits : (name made : K) (n : ℕ) (it : Holds same Permit name object) → n ≤ it.entry.size
      → Becomes same object quiet 0 0 None object.line (hold (tag Permit made) n (change (has_name same name) (λ e. record e { size = it.entry.size - n }) object.held)) object.closed object.ended
  merges : (kept spent : K) (it : Holds same Permit kept object) (other : Holds same Permit spent object) → same kept spent ≡ false
      → Becomes same object quiet 0 0 None object.line (without (has_name same spent) (change (has_name same kept) (λ e. record e { size = it.entry.size + other.entry.size }) object.held)) object.closed object.ended
  lowers : (name : K) (max : ℕ) → object.kind ≡ ReaderWriter max → Holds same Write name object
      → Becomes same object (grants (λ tag. false)) 0 0 None (give_back (max - 1) object.line) (change (has_name same name) (λ e. record { name = tag Read name; size = 1 }) object.held) object.closed object.ended
  tells : (name : K) → Becomes same object quiet 0 0 None object.line object.held object.closed (without (has_name same name) object.ended)
  closes : is_of object.kind Permit ≡ true → Becomes same object shuts 0 0 None (end_waiting object.line) object.held true (object.ended ++ map entry_of object.line.waiting)

-- what a rule may do to those that wait
abbrev pub gives : {K : Type 0} → (K → K → Bool) → Rule K → Object (Tag K) → Effect (Tag K)
gives same rule object = cond (may_grant rule) (grants (leaver same rule object)) (cond (closing rule) shuts quiet)

pub record TurnsBy {K : Type 0} (same : K → K → Bool) (object : Object (Tag K)) (rule : Rule K) : Type 0 where
  pub answer : Answer
  pub line : Line (Tag K)
  pub held : List (Entry (Tag K))
  pub closed : Bool
  pub ended : List (Entry (Tag K))
  pub turns : act same rule object ≡ turn answer (record object { line = line; held = held; closed = closed; ended = ended })
  pub becomes : Becomes same object (gives same rule object) (brought rule) (removed same rule object) (joiner rule object) line held closed ended

-- a poll and a drop by the entry that was found
abbrev pub poll_of : {N : Type 0} → Option (Entry N) → (N → Bool) → ℕ → Object N → Turn N
poll_of found is waker object =
    option_map_or (λ granted. turn Ready (record object { line = poll_granted is object.line; held = object.held ++ granted ∷ [] })) found
    (turn Pending (record object { line = poll_waiting is waker object.line }))

abbrev pub poll_ended : {N : Type 0} → Option (Entry N) → (N → Bool) → ℕ → Object N → Turn N
poll_ended found is waker object =
    option_map_or (λ ended. turn Closed (record object { ended = without is object.ended })) found (poll_of (entry_named is object.line.granted) is waker object)

abbrev pub drop_of : {N : Type 0} → Option (Entry N) → (N → Bool) → Object N → Turn N
drop_of found is object =
    option_map_or (λ entry. turn Done (record object { line = give_back entry.size object.line; held = without is object.held })) found
    (turn Done (record object { line = cancel is object.line; ended = without is object.ended }))

-- a split and a merge by the sizes that were found
abbrev pub split_by : {N : Type 0} → ℕ → (N → Bool) → N → ℕ → Object N → Turn N
split_by size is made n object =
    cond (nat_le n size) (turn Done (record object { held = hold made n (change is (λ e. record e { size = size - n }) object.held) })) (turn Nothing object)

abbrev pub merge_by : {N : Type 0} → ℕ → (N → Bool) → (N → Bool) → Object N → Turn N
merge_by size is_kept is_spent object = turn Done (record object { held = without is_spent (change is_kept (λ e. record e { size = size }) object.held) })

-- only a reader-writer lock is written
pub write_of : (kind : Kind) → is_of kind Write ≡ true → (max : ℕ) × (kind ≡ ReaderWriter max)
write_of Semaphore is = absurd (false≢true is)
write_of Mutex is = absurd (false≢true is)
write_of (ReaderWriter max) is = (max, refl)

module _ {K : Type 0} (same : K → K → Bool) (object : Object (Tag K)) where
  asks : (made : Tag K) (size waker : ℕ) (served : Bool) → is_served size object.line ≡ served → IsAllowed same (Ask made size waker) object → TurnsBy same object (Ask made size waker)
  asks made size waker true served allowed = record {
    answer = Ready;
    line = take_permits size object.line;
    held = hold made size object.held;
    closed = object.closed;
    ended = object.ended;
    turns = cond-true _ _ _ served;
    becomes = subst (λ who. Becomes same object quiet 0 0 who (take_permits size object.line) (hold made size object.held) object.closed object.ended) (sym (cond-true _ _ _ served)) (takes made size served allowed.fits);
  }
  asks made size waker false waits allowed = record {
    answer = Pending;
    line = join made size waker object.line;
    held = object.held;
    closed = object.closed;
    ended = object.ended;
    turns = cond-false _ _ _ waits;
    becomes = subst (λ who. Becomes same object quiet 0 0 who (join made size waker object.line) object.held object.closed object.ended) (sym (cond-false _ _ _ waits)) (joins made size waker waits allowed);
  }

  tries : (made : Tag K) (size : ℕ) (served : Bool) → is_served size object.line ≡ served → IsAllowed same (Try made size) object → TurnsBy same object (Try made size)
  tries made size true served allowed = record {
    answer = Done;
    line = take_permits size object.line;
    held = hold made size object.held;
    closed = object.closed;
    ended = object.ended;
    turns = cond-true _ _ _ served;
    becomes = takes made size served allowed.fits;
  }
  tries made size false waits allowed = record { answer = Nothing; line = object.line; held = object.held; closed = object.closed; ended = object.ended; turns = cond-false _ _ _ waits; becomes = stays }

  polls_line : (name : K) (waker : ℕ) (found : Option (Entry (Tag K))) → entry_named (has_name same name) object.line.granted ≡ found → entry_named (has_name same name) object.ended ≡ None
      → TurnsBy same object (Poll name waker)
  polls_line name waker (Some entry) there live = record {
    answer = Ready;
    line = poll_granted (has_name same name) object.line;
    held = object.held ++ entry ∷ [];
    closed = object.closed;
    ended = object.ended;
    turns = ap (λ found. poll_ended found (has_name same name) waker object) live ∙ ap (λ found. poll_of found (has_name same name) waker object) there;
    becomes = receives name entry there;
  }
  polls_line name waker None there live = record {
    answer = Pending;
    line = poll_waiting (has_name same name) waker object.line;
    held = object.held;
    closed = object.closed;
    ended = object.ended;
    turns = ap (λ found. poll_ended found (has_name same name) waker object) live ∙ ap (λ found. poll_of found (has_name same name) waker object) there;
    becomes = rewakes name waker;
  }

  polls : (name : K) (waker : ℕ) (found : Option (Entry (Tag K))) → entry_named (has_name same name) object.ended ≡ found → TurnsBy same object (Poll name waker)
  polls name waker (Some entry) there = record {
    answer = Closed;
    line = object.line;
    held = object.held;
    closed = object.closed;
    ended = without (has_name same name) object.ended;
    turns = ap (λ found. poll_ended found (has_name same name) waker object) there;
    becomes = tells name;
  }
  polls name waker None there = polls_line name waker (entry_named (has_name same name) object.line.granted) refl there

  drops : (name : K) (found : Option (Entry (Tag K))) → entry_named (has_name same name) object.held ≡ found → TurnsBy same object (Drop name)
  drops name (Some entry) there = record {
    answer = Done;
    line = give_back entry.size object.line;
    held = without (has_name same name) object.held;
    closed = object.closed;
    ended = object.ended;
    turns = ap (λ found. drop_of found (has_name same name) object) there;
    becomes =
        subst (λ found. Becomes same object (grants (λ tag. not (is_some found) && has_name same name tag)) 0 0 None (give_back entry.size object.line) (without (has_name same name) object.held) object.closed object.ended)
        (sym there) (returns name entry there);
  }
  drops name None there = record {
    answer = Done;
    line = cancel (has_name same name) object.line;
    held = object.held;
    closed = object.closed;
    ended = without (has_name same name) object.ended;
    turns = ap (λ found. drop_of found (has_name same name) object) there;
    becomes =
        subst (λ found. Becomes same object (grants (λ tag. not (is_some found) && has_name same name tag)) 0 0 None (cancel (has_name same name) object.line) object.held object.closed (without (has_name same name) object.ended)) (sym there) (ends name);
  }

  splits_by : (name made : K) (n : ℕ) (it : Holds same Permit name object) (enough : Bool) → nat_le n it.entry.size ≡ enough → TurnsBy same object (Split name made n)
  splits_by name made n it true enough = record {
    answer = Done;
    line = object.line;
    held = hold (tag Permit made) n (change (has_name same name) (λ e. record e { size = it.entry.size - n }) object.held);
    closed = object.closed;
    ended = object.ended;
    turns = ap (λ found. split_by (size_in found) (has_name same name) (tag Permit made) n object) it.there ∙ cond-true _ _ _ enough;
    becomes = splits name made n it (leb-true n it.entry.size enough);
  }
  splits_by name made n it false more = record {
    answer = Nothing;
    line = object.line;
    held = object.held;
    closed = object.closed;
    ended = object.ended;
    turns = ap (λ found. split_by (size_in found) (has_name same name) (tag Permit made) n object) it.there ∙ cond-false _ _ _ more;
    becomes = stays;
  }

  merged : (kept spent : K) (it : Holds same Permit kept object) (other : Holds same Permit spent object) → same kept spent ≡ false → TurnsBy same object (Merge kept spent)
  merged kept spent it other apart = record {
    answer = Done;
    line = object.line;
    held = without (has_name same spent) (change (has_name same kept) (λ e. record e { size = it.entry.size + other.entry.size }) object.held);
    closed = object.closed;
    ended = object.ended;
    turns = ap₂ (λ one two. merge_by (size_in one + size_in two) (has_name same kept) (has_name same spent) object) it.there other.there;
    becomes = merges kept spent it other apart;
  }

  lowered : (name : K) (it : Holds same Write name object) (max : ℕ) → object.kind ≡ ReaderWriter max → TurnsBy same object (Downgrade name)
  lowered name it max kind = record {
    answer = Done;
    line = give_back (max - 1) object.line;
    held = change (has_name same name) (λ e. record { name = tag Read name; size = 1 }) object.held;
    closed = object.closed;
    ended = object.ended;
    turns = ap (λ k. turn Done (record object {
      line = give_back (size_of k Write - 1) object.line;
      held = change (has_name same name) (λ e. record { name = tag Read name; size = 1 }) object.held;
    })) kind;
    becomes = lowers name max kind it;
  }

  pub turns_by : (rule : Rule K) → IsAllowed same rule object → TurnsBy same object rule
  turns_by (Ask made size waker) allowed = asks made size waker (is_served size object.line) refl allowed
  turns_by (Poll name waker) allowed = polls name waker (entry_named (has_name same name) object.ended) refl
  turns_by (Try made size) allowed = tries made size (is_served size object.line) refl allowed
  turns_by (Drop name) allowed = drops name (entry_named (has_name same name) object.held) refl
  turns_by (Release n) allowed = record { answer = Done; line = give_back n object.line; held = object.held; closed = object.closed; ended = object.ended; turns = refl; becomes = comes n allowed.0 allowed.1 }
  turns_by (Reduce n) allowed = record { answer = Done; line = take_permits n object.line; held = object.held; closed = object.closed; ended = object.ended; turns = refl; becomes = goes n allowed.0 allowed.1 }
  turns_by (Drain n) allowed = record {
    answer = Drained (drained n object.line);
    line = take_permits (drained n object.line) object.line;
    held = object.held;
    closed = object.closed;
    ended = object.ended;
    turns = refl;
    becomes = drains n allowed;
  }
  turns_by Close allowed = record {
    answer = Done;
    line = end_waiting object.line;
    held = object.held;
    closed = true;
    ended = object.ended ++ map entry_of object.line.waiting;
    turns = refl;
    becomes = closes allowed;
  }
  turns_by (Forget permit) allowed = record {
    answer = Done;
    line = object.line;
    held = without (has_name same permit) object.held;
    closed = object.closed;
    ended = object.ended;
    turns = refl;
    becomes = subst (λ size. Becomes same object quiet 0 size None object.line (without (has_name same permit) object.held) object.closed object.ended) (sym (ap size_in allowed.there)) (forgets permit allowed);
  }
  turns_by (Split permit made n) allowed = splits_by permit made n allowed.0 (nat_le n allowed.0.entry.size) refl
  turns_by (Merge kept spent) allowed = merged kept spent allowed.0 allowed.1 allowed.2
  turns_by (Downgrade writer) allowed = let lock = write_of object.kind allowed.fits.0 in lowered writer allowed lock.0 lock.1
  turns_by Status allowed = record { answer = _; line = object.line; held = object.held; closed = object.closed; ended = object.ended; turns = refl; becomes = stays }

abbrev pub is_shut : {N : Type 0} → Effect N → Bool
is_shut shuts = true
is_shut back = false

pub closed_by : {K : Type 0} (same : K → K → Bool) (object : Object (Tag K)) {back : Effect (Tag K)} {came gone : ℕ} {who : Option K} {line : Line (Tag K)} {held : List (Entry (Tag K))}
    {closed : Bool} {ended : List (Entry (Tag K))} → Becomes same object back came gone who line held closed ended → closed ≡ is_shut back || object.closed
closed_by same object (closes permits) = refl
closed_by same object by = refl
