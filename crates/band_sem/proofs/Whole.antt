-- The calls by which a semaphore stays one of n permits.
use Rattle.std.proofs.Common.{◌≡◌, ℕ, ◌+◌, ◌-◌, ◌==◌, ◌<◌, ◌≤◌, ◌||◌, ◌&&◌, Bool, true, false, cond, List, [], ◌∷◌, ◌++◌, map, Option, Some, None, Result, Ok, Err, ℤ, pos, ◌+ℤ◌, ◌-ℤ◌, ◌≤ℤ◌, int_le, int_lt, unsigned_abs, refl, sym, ◌∙◌, subst, ap, ap₂, arith, length}
use Rattle.std.specs.List.{AllByRecursion}
use Rattle.std.proofs.Math.Nat.{min-le_right}
use Rattle.std.proofs.lemmas.Int.{ints}
use Rattle.std.proofs.lemmas.Bool.{cond_both}
use Rattle.std.specs.Prelude.{IsTrue, IsSome, IsErrOf}
use Rattle.band_balance.specs.Line.{Entry, Waiting, Line, requests, total, entry_of, entry_named, without, nobody_waits, is_served, available, drained, give_back, cancel, withdraw, settle, settle_from}
use Rattle.band_balance.proofs.Settle.{total-cons, total-without, free-total-give_back, free-total-cancel}
use Rattle.band_balance.proofs.Rename.{all_of_first}
use Rattle.band_balance.proofs.Requests.{all-requests-give_back, all-requests-cancel, all-requests-join, all-requests-poll_granted, all-requests-poll_waiting, all-without}
use Rattle.band_base.specs.declared.poll.Poll.{Poll}
use Rattle.band_base.specs.declared.poll.Poll.TheVariants as polls
use Rattle.band_base.specs.declared.poll.PollError.{PollError}
use Rattle.band_base.specs.declared.poll.PollError.TheVariants as errors
use Rattle.band_base.specs.declared.waker.Waker.{Waker}
use Rattle.band_sem.specs.Semaphore.{SemaphoreState, is_slot, taken, released, reduced, forgotten, given_back, joined, received, with_waker, told, without_request, woken, TakesWake, FirstPoll, LaterPoll, Polls, PollsAt}
use Rattle.band_sem.specs.Permit.{Permit}
use Rattle.band_sem.specs.Request.{Request, Stage, NotPolled, Joined, Finished}
use Rattle.band_sem.specs.Whole.{IsWhole, StaysWhole}

abbrev pub Asks : List (Entry ℕ) → Type 0
Asks entries = AllByRecursion (λ (e : Entry ℕ). 0 < e.size) entries

-- where none of those that ask for something is left over, there is none
none_left : (entries : List (Entry ℕ)) → Asks entries → total entries ≡ 0 → entries ≡ []
none_left [] asks none = refl
none_left (e ∷ es) asks none =
    let first : 0 < e.size = asks.0 in
    let sum : total (e ∷ es) ≡ e.size + total es = total-cons e es in
    absurd (omega arith)

-- they are no more than what they ask for
no_more : (entries : List (Entry ℕ)) → Asks entries → length entries ≤ total entries
no_more [] asks = omega arith
no_more (e ∷ es) asks =
    let first : 0 < e.size = asks.0 in
    let rest = no_more es asks.1 in
    let sum : total (e ∷ es) ≡ e.size + total es = total-cons e es in
    omega arith

-- one without the others is the only one
only : (is : ℕ → Bool) (entries : List (Entry ℕ)) (found : Entry ℕ) → entry_named is entries ≡ Some found → without is entries ≡ [] → entries ≡ found ∷ []
only is [] found there alone = cc
only is (e ∷ es) found there alone = go (is e.name) there alone
  where
    go : (b : Bool) → cond b (Some e) (entry_named is es) ≡ Some found → cond b es (e ∷ without is es) ≡ [] → (e ∷ es) ≡ found ∷ []
    go true there alone = let same : e ≡ found = cc in ap₂ (λ (x : Entry ℕ) (xs : List (Entry ℕ)). x ∷ xs) same alone
    go false there alone = cc

-- what the rest of the facts rest on
pub is_whole : (n : ℕ) (state : SemaphoreState) → state.closed ≡ false → state.ended ≡ [] → pos 0 ≤ℤ state.line.free → state.line.free +ℤ pos (total state.line.granted + state.held) ≡ pos n → Asks (requests state.line) → IsWhole n state
is_whole n state not_closed none_ended none_owed adds_up asks = record {
  not_closed = not_closed;
  none_ended = none_ended;
  none_owed = none_owed;
  adds_up = adds_up;
  each_asks = asks;
  at_most = within state.line.free (length state.line.granted) (total state.line.granted) state.held none_owed adds_up (no_more state.line.granted asks_granted);
  granted_alone = λ slot writer there all. alone slot writer there all;
  held_alone = λ all. (none_left state.line.granted asks_granted (none_granted state.line.free (total state.line.granted) state.held none_owed adds_up all), just_all state.line.free (total state.line.granted) state.held none_owed adds_up all);
}
  where
    asks_granted : Asks state.line.granted
    asks_granted = all_of_first _ state.line.granted (map entry_of state.line.waiting) asks

    within : (free : ℤ) (count granted held : ℕ) → pos 0 ≤ℤ free → free +ℤ pos (granted + held) ≡ pos n → count ≤ granted → count + held ≤ n
    within free count granted held a b c = omega (arith, ints)

    none_granted : (free : ℤ) (granted held : ℕ) → pos 0 ≤ℤ free → free +ℤ pos (granted + held) ≡ pos n → n ≤ held → granted ≡ 0
    none_granted free granted held a b c = omega (arith, ints)

    just_all : (free : ℤ) (granted held : ℕ) → pos 0 ≤ℤ free → free +ℤ pos (granted + held) ≡ pos n → n ≤ held → held ≡ n
    just_all free granted held a b c = omega (arith, ints)

    none_besides : (free : ℤ) (size others granted held : ℕ) → pos 0 ≤ℤ free → free +ℤ pos (granted + held) ≡ pos n → size + others ≡ granted → size ≡ n → others ≡ 0
    none_besides free size others granted held a b c d = omega (arith, ints)

    none_held : (free : ℤ) (size others granted held : ℕ) → pos 0 ≤ℤ free → free +ℤ pos (granted + held) ≡ pos n → size + others ≡ granted → size ≡ n → held ≡ 0
    none_held free size others granted held a b c d = omega (arith, ints)

    alone : (slot : ℕ) (writer : Entry ℕ) → entry_named (is_slot slot) state.line.granted ≡ Some writer → writer.size ≡ n → (state.line.granted ≡ writer ∷ []) × (state.held ≡ 0)
    alone slot writer there all =
        let sum = total-without (is_slot slot) state.line.granted writer there in (
          only (is_slot slot) state.line.granted writer there
              (none_left (without (is_slot slot) state.line.granted) (all-without _ (is_slot slot) state.line.granted asks_granted)
              (none_besides state.line.free writer.size (total (without (is_slot slot) state.line.granted)) (total state.line.granted) state.held none_owed adds_up sum all)),
          none_held state.line.free writer.size (total (without (is_slot slot) state.line.granted)) (total state.line.granted) state.held none_owed adds_up sum all,
        )

-- a line that settles owes nothing if it owed nothing
settles_unowed : (free : ℤ) (waiting : List (Waiting ℕ)) (granted : List (Entry ℕ)) (wakes : List ℕ) → pos 0 ≤ℤ free → pos 0 ≤ℤ (settle_from free waiting granted wakes).free
settles_unowed free [] granted wakes h = h
settles_unowed free (first ∷ rest) granted wakes h =
    cond_both (int_le (pos first.size) free) _ _ (λ (line : Line ℕ). pos 0 ≤ℤ line.free)
    (λ fits. settles_unowed (free -ℤ pos first.size) rest (granted ++ entry_of first ∷ []) (wakes ++ first.waker ∷ []) (left first.size free fits))
    (λ waits. h)
  where
    left : (n : ℕ) (z : ℤ) → int_le (pos n) z ≡ true → pos 0 ≤ℤ (z -ℤ pos n)
    left n z fits = grind (arith, ints)

-- who asks for something and is served finds it free
served_fits : (n : ℕ) (line : Line ℕ) → is_served n line ≡ true → 0 < n → pos n ≤ℤ line.free
served_fits n line served some = go (n == 0) (nobody_waits line.waiting) (int_le (pos n) line.free) refl refl served
  where
    go : (zero nobody fits : Bool) → (n == 0) ≡ zero → int_le (pos n) line.free ≡ fits → (zero || (nobody && fits)) ≡ true → pos n ≤ℤ line.free
    go true nobody fits is le h = absurd (grind arith)
    go false false fits is le h = cc
    go false true true is le h = grind (arith, ints)
    go false true false is le h = cc

some_when_not_served : (size : ℕ) (line : Line ℕ) → is_served size line ≡ false → 0 < size
some_when_not_served size line waits = go (size == 0) refl waits
  where
    go : (zero : Bool) → (size == 0) ≡ zero → (zero || (nobody_waits line.waiting && int_le (pos size) line.free)) ≡ false → 0 < size
    go true is h = cc
    go false is h = grind arith

module _ (n : ℕ) (state : SemaphoreState) (is : IsWhole n state) where
  IsWhole-taken : (k : ℕ) → is_served k state.line ≡ true → IsWhole n (taken k state)
  IsWhole-taken k served =
      is_whole n _ is.not_closed is.none_ended (left k state.line.free is.none_owed (served_fits k state.line served)) (same k state.line.free (total state.line.granted) state.held is.adds_up) is.each_asks
    where
      left : (k : ℕ) (z : ℤ) → pos 0 ≤ℤ z → (0 < k → pos k ≤ℤ z) → pos 0 ≤ℤ (z -ℤ pos k)
      left k z unowed fits = grind (arith, ints)

      same : (k : ℕ) (z : ℤ) (g h : ℕ) → z +ℤ pos (g + h) ≡ pos n → (z -ℤ pos k) +ℤ pos (g + (h + k)) ≡ pos n
      same k z g h e = omega (arith, ints)

  IsWhole-joined : (slot size waker : ℕ) → is_served size state.line ≡ false → IsWhole n (joined slot size waker state)
  IsWhole-joined slot size waker waits =
      is_whole n _ is.not_closed is.none_ended is.none_owed is.adds_up (all-requests-join (λ (e : Entry ℕ). 0 < e.size) slot size waker state.line is.each_asks (some_when_not_served size state.line waits))

  pub IsWhole-given_back : (k : ℕ) → k ≤ state.held → IsWhole n (given_back k state)
  IsWhole-given_back k held =
      is_whole n _ is.not_closed is.none_ended
      (settles_unowed (state.line.free +ℤ pos k) state.line.waiting state.line.granted state.line.wakes (more k state.line.free is.none_owed))
      (same k state.line.free (give_back k state.line).free (total state.line.granted) (total (give_back k state.line).granted) state.held held (free-total-give_back k state.line) is.adds_up)
      (all-requests-give_back (λ (e : Entry ℕ). 0 < e.size) k state.line is.each_asks)
    where
      more : (k : ℕ) (z : ℤ) → pos 0 ≤ℤ z → pos 0 ≤ℤ (z +ℤ pos k)
      more k z h = omega (arith, ints)

      same : (k : ℕ) (z z' : ℤ) (g g' h : ℕ) → k ≤ h → z' +ℤ pos g' ≡ z +ℤ pos k +ℤ pos g → z +ℤ pos (g + h) ≡ pos n → z' +ℤ pos (g' + (h - k)) ≡ pos n
      same k z z' g g' h le moved e = omega (arith, ints)

  pub IsWhole-without_request : (slot : ℕ) → IsWhole n (without_request slot state)
  IsWhole-without_request slot =
      is_whole n _ is.not_closed (ap (without (is_slot slot)) is.none_ended)
      (unowed (entry_named (is_slot slot) state.line.granted))
      (same state.line.free (cancel (is_slot slot) state.line).free (total state.line.granted) (total (cancel (is_slot slot) state.line).granted) state.held (free-total-cancel (is_slot slot) state.line) is.adds_up)
      (all-requests-cancel (λ (e : Entry ℕ). 0 < e.size) (is_slot slot) state.line is.each_asks)
    where
      more : (k : ℕ) (z : ℤ) → pos 0 ≤ℤ z → pos 0 ≤ℤ (z +ℤ pos k)
      more k z h = omega (arith, ints)

      same : (z z' : ℤ) (g g' h : ℕ) → z' +ℤ pos g' ≡ z +ℤ pos g → z +ℤ pos (g + h) ≡ pos n → z' +ℤ pos (g' + h) ≡ pos n
      same z z' g g' h moved e = omega (arith, ints)

      unowed : (found : Option (Entry ℕ)) → pos 0 ≤ℤ (settle (withdraw found (is_slot slot) state.line)).free
      unowed None = settles_unowed state.line.free _ state.line.granted state.line.wakes is.none_owed
      unowed (Some entry) = settles_unowed (state.line.free +ℤ pos entry.size) state.line.waiting _ state.line.wakes (more entry.size state.line.free is.none_owed)

  IsWhole-received : (slot k : ℕ) → entry_named (is_slot slot) state.line.granted ≡ Some (record { name = slot; size = k }) → IsWhole n (received slot k state)
  IsWhole-received slot k there =
      is_whole n _ is.not_closed is.none_ended is.none_owed
      (same k state.line.free (total (without (is_slot slot) state.line.granted)) (total state.line.granted) state.held (total-without (is_slot slot) state.line.granted _ there) is.adds_up)
      (all-requests-poll_granted (λ (e : Entry ℕ). 0 < e.size) (is_slot slot) state.line is.each_asks)
    where
      same : (k : ℕ) (z : ℤ) (w g h : ℕ) → k + w ≡ g → z +ℤ pos (g + h) ≡ pos n → z +ℤ pos (w + (h + k)) ≡ pos n
      same k z w g h sum e = omega (arith, ints)

  IsWhole-with_waker : (slot waker : ℕ) → IsWhole n (with_waker slot waker state)
  IsWhole-with_waker slot waker =
      is_whole n _ is.not_closed is.none_ended is.none_owed is.adds_up (all-requests-poll_waiting (λ (e : Entry ℕ). 0 < e.size) (is_slot slot) waker state.line is.each_asks)

  IsWhole-told : (slot : ℕ) → IsWhole n (told slot state)
  IsWhole-told slot = is_whole n _ is.not_closed (ap (without (is_slot slot)) is.none_ended) is.none_owed is.adds_up is.each_asks

  IsWhole-woken : IsWhole n (woken state)
  IsWhole-woken = is_whole n _ is.not_closed is.none_ended is.none_owed is.adds_up is.each_asks

is_true : (b : Bool) → IsTrue b → b ≡ true
is_true true h = refl
is_true false h = h

-- what is available is free, where nothing is owed
available_is_free : (k : ℕ) (line : Line ℕ) → k ≤ available line → pos 0 ≤ℤ line.free → pos k ≤ℤ line.free
available_is_free k line fits unowed = go (nobody_waits line.waiting && int_lt (pos 0) line.free) fits
  where
    none : (k : ℕ) (z : ℤ) → k ≤ 0 → pos 0 ≤ℤ z → pos k ≤ℤ z
    none k z le u = omega (arith, ints)

    some : (k : ℕ) (z : ℤ) → k ≤ unsigned_abs z → pos 0 ≤ℤ z → pos k ≤ℤ z
    some k z le u = grind (arith, ints)

    go : (b : Bool) → k ≤ cond b (unsigned_abs line.free) 0 → pos k ≤ℤ line.free
    go true le = some k line.free le unowed
    go false le = none k line.free le unowed

-- more or fewer permits than there were
pub IsWhole-released : (n k : ℕ) (state : SemaphoreState) → IsWhole n state → IsWhole (n + k) (released k state)
IsWhole-released n k state is =
    is_whole (n + k) _ is.not_closed is.none_ended
    (settles_unowed (state.line.free +ℤ pos k) state.line.waiting state.line.granted state.line.wakes (more k state.line.free is.none_owed))
    (same n k state.line.free (give_back k state.line).free (total state.line.granted) (total (give_back k state.line).granted) state.held (free-total-give_back k state.line) is.adds_up)
    (all-requests-give_back (λ (e : Entry ℕ). 0 < e.size) k state.line is.each_asks)
  where
    more : (k : ℕ) (z : ℤ) → pos 0 ≤ℤ z → pos 0 ≤ℤ (z +ℤ pos k)
    more k z h = omega (arith, ints)

    same : (n k : ℕ) (z z' : ℤ) (g g' h : ℕ) → z' +ℤ pos g' ≡ z +ℤ pos k +ℤ pos g → z +ℤ pos (g + h) ≡ pos n → z' +ℤ pos (g' + h) ≡ pos (n + k)
    same n k z z' g g' h moved e = omega (arith, ints)

IsWhole-reduced : (n k : ℕ) (state : SemaphoreState) → pos k ≤ℤ state.line.free → IsWhole (n + k) state → IsWhole n (reduced k state)
IsWhole-reduced n k state free is =
    is_whole n _ is.not_closed is.none_ended (left k state.line.free free) (same n k state.line.free (total state.line.granted) state.held is.adds_up) is.each_asks
  where
    left : (k : ℕ) (z : ℤ) → pos k ≤ℤ z → pos 0 ≤ℤ (z -ℤ pos k)
    left k z h = omega (arith, ints)

    same : (n k : ℕ) (z : ℤ) (g h : ℕ) → z +ℤ pos (g + h) ≡ pos (n + k) → (z -ℤ pos k) +ℤ pos (g + h) ≡ pos n
    same n k z g h e = omega (arith, ints)

IsWhole-forgotten : (n k : ℕ) (state : SemaphoreState) → k ≤ state.held → IsWhole (n + k) state → IsWhole n (forgotten k state)
IsWhole-forgotten n k state held is = is_whole n _ is.not_closed is.none_ended is.none_owed (same n k state.line.free (total state.line.granted) state.held held is.adds_up) is.each_asks
  where
    same : (n k : ℕ) (z : ℤ) (g h : ℕ) → k ≤ h → z +ℤ pos (g + h) ≡ pos (n + k) → z +ℤ pos (g + (h - k)) ≡ pos n
    same n k z g h le e = omega (arith, ints)

-- the same over each call
module _ (old new : SemaphoreState) where
  pub StaysWhole-same : new ≡ old → StaysWhole old new
  StaysWhole-same same = λ n is. rw same is

  pub StaysWhole-taken : (k : ℕ) → is_served k old.line ≡ true → new ≡ taken k old → StaysWhole old new
  StaysWhole-taken k served takes = λ n is. rw takes (IsWhole-taken n old is k served)

  pub whole-drained : (up_to k : ℕ) → k ≡ drained up_to old.line → new ≡ reduced k old → (m : ℕ) → IsWhole (m + k) old → IsWhole m new
  whole-drained up_to k count takes m is =
      rw takes (IsWhole-reduced m k old (available_is_free k old.line (rw count (min-le_right up_to (available old.line))) is.none_owed) is)

  pub whole-forgotten : (k : ℕ) → k ≤ old.held → new ≡ forgotten k old → (m : ℕ) → IsWhole (m + k) old → IsWhole m new
  whole-forgotten k held forgets m is = rw forgets (IsWhole-forgotten m k old held is)

  pub StaysWhole-woken : (result : Option Waker) → TakesWake old result new → StaysWhole old new
  StaysWhole-woken None (none, same) = StaysWhole-same same
  StaysWhole-woken (Some waker) (first, takes) = λ n is. rw takes (IsWhole-woken n old is)

  pub StaysWhole-first_poll : (request request' : Request) (waker : ℕ) (result : Result (Poll Permit) PollError) → FirstPoll request waker old result request' new → StaysWhole old new
  StaysWhole-first_poll request request' waker (Ok (polls.Ready permit)) (not_shut, served, a, takes, b) = λ n is. rw takes (IsWhole-taken n old is request.size (is_true (is_served request.size old.line) served))
  StaysWhole-first_poll request request' waker (Ok polls.Pending) (not_shut, waits, (slot, fresh, joins, b)) = λ n is. rw joins (IsWhole-joined n old is slot request.size waker waits)
  StaysWhole-first_poll request request' waker (Err errors.NoMemory) (not_shut, waits, same, b) = StaysWhole-same same
  StaysWhole-first_poll request request' waker (Err errors.Closed) (was_shut, same, b) = StaysWhole-same same
  StaysWhole-first_poll request request' waker (Err error) polled = absurd polled

  pub StaysWhole-later_poll : (slot : ℕ) (request request' : Request) (waker : ℕ) (result : Result (Poll Permit) PollError) → LaterPoll slot request waker old result request' new → StaysWhole old new
  StaysWhole-later_poll slot request request' waker (Ok (polls.Ready permit)) (live, there, a, receives, b) = λ n is. rw receives (IsWhole-received n old is slot request.size there)
  StaysWhole-later_poll slot request request' waker (Ok polls.Pending) (live, none, leaves, b) = λ n is. rw leaves (IsWhole-with_waker n old is slot waker)
  StaysWhole-later_poll slot request request' waker (Err errors.Closed) (there, hears, b) = λ n is. rw hears (IsWhole-told n old is slot)
  StaysWhole-later_poll slot request request' waker (Err error) polled = absurd polled

-- of one that is not closed, and of which nobody is ended, no poll answers that it is
pub never_closed : (n : ℕ) (request request' : Request) (waker : ℕ) (old new : SemaphoreState) (result : Result (Poll Permit) PollError) → IsWhole n old → Polls request waker old result request' new
    → IsErrOf result errors.Closed → ⊥
never_closed n request request' waker old new result whole polled is =
    at request.stage (subst (λ (answer : Result (Poll Permit) PollError). Polls request waker old answer request' new) is polled)
  where
    at : (stage : Stage) → PollsAt stage request waker old (Err errors.Closed) request' new → ⊥
    at NotPolled polled = let never : true ≡ false = sym polled.0 ∙ whole.not_closed in cc
    at (Joined slot) polled = let nobody = subst (λ (es : List (Entry ℕ)). IsSome (entry_named (is_slot slot) es)) whole.none_ended polled.0 in cc
    at Finished polled = let never : ◌≡◌ {A = Result (Poll Permit) PollError} (Err errors.Closed) (Err errors.Finished) = polled.0 in cc
