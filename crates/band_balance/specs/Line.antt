-- A line: what is free, who waits, who was granted and has not polled since, and the wakers to wake.
-- N is what names an entry: a slot of a semaphore, or a name of a script with its mode.
use Rattle.std.specs.Prelude.{◌≡◌, ℕ, Bool, true, false, ◌&&◌, ◌||◌, ◌==◌, List, [], ◌∷◌, ◌++◌, map, min, ℤ}
use Rattle.std.specs.Prelude.{pos, ◌+ℤ◌, ◌-ℤ◌, int_le, int_lt, unsigned_abs, if◌then◌else◌, Option, Some}
use Rattle.std.specs.Prelude.{None, find, sum_by, ◌-◌, ◌+◌, ◌^◌, neg_ℤ}
use Rattle.std.specs.List.Sorted.{IsPermutation}

-- a request that was granted, or a permit that is held
pub record Entry (N : Type 0) : Type 0 where
  pub name : N
  pub size : ℕ

-- a request that waits, with the waker to wake it by
pub record Waiting (N : Type 0) : Type 0 where
  pub name : N
  pub size : ℕ
  pub waker : ℕ

-- `free` is what nobody has, less what is owed; `wakes` has the wakers to wake, the oldest first
pub record Line (N : Type 0) : Type 0 where
  pub free : ℤ
  pub waiting : List (Waiting N)
  pub granted : List (Entry N)
  pub wakes : List ℕ

-- Two lines are alike where they differ at most in the order of those granted, which no rule looks at.
pub record AreAlike {N : Type 0} (one other : Line N) : Type 0 where
  pub free : other.free ≡ one.free
  pub waiting : other.waiting ≡ one.waiting
  pub granted : IsPermutation one.granted other.granted
  pub wakes : other.wakes ≡ one.wakes

-- the largest count
abbrev pub u64_max : ℕ
u64_max = 2 ^ 64 - 1

module _ {N : Type 0} where
  -- a line in which nobody is
  abbrev pub open_line : ℕ → Line N
  open_line permits = record { free = pos permits; waiting = []; granted = []; wakes = [] }

  -- a waiting request without its waker
  abbrev pub entry_of : Waiting N → Entry N
  entry_of w = record { name = w.name; size = w.size }

  -- who is in the line: those granted, then those that wait
  abbrev pub requests : Line N → List (Entry N)
  requests line = line.granted ++ map entry_of line.waiting

  -- the sizes, added up
  abbrev pub total : List (Entry N) → ℕ
  total entries = sum_by (λ e. e.size) entries

  abbrev pub nobody_waits : List (Waiting N) → Bool
  nobody_waits [] = true
  nobody_waits (first ∷ rest) = false

  -- Settle: while the first that waits asks for no more than is free, it is granted, and its waker is to be
  -- woken.
  abbrev pub settle_from : ℤ → List (Waiting N) → List (Entry N) → List ℕ → Line N
  settle_from free [] granted wakes = record { free = free; waiting = []; granted = granted; wakes = wakes }
  settle_from free (first ∷ rest) granted wakes =
      if int_le (pos first.size) free
      then
      settle_from (free -ℤ pos first.size) rest (granted ++ entry_of first ∷ []) (wakes ++ first.waker ∷ [])
      else record { free = free; waiting = first ∷ rest; granted = granted; wakes = wakes }

  abbrev pub settle : Line N → Line N
  settle line = settle_from line.free line.waiting line.granted line.wakes

  -- A first poll is served at once where it asks for nothing, or where nobody waits and it asks for no more
  -- than is free.
  abbrev pub is_served : ℕ → Line N → Bool
  is_served size line = size == 0 || (nobody_waits line.waiting && int_le (pos size) line.free)

  -- n leave the free ones; below 0 is debt
  abbrev pub take_permits : ℕ → Line N → Line N
  take_permits n line = record line { free = line.free -ℤ pos n }

  -- n come to the free ones
  abbrev pub add_permits : ℕ → Line N → Line N
  add_permits n line = record line { free = line.free +ℤ pos n }

  -- n are given back, and the line settles
  abbrev pub give_back : ℕ → Line N → Line N
  give_back n line = settle (add_permits n line)

  -- a request goes to the end of those that wait
  abbrev pub join : N → ℕ → ℕ → Line N → Line N
  join name size waker line =
      record line { waiting = line.waiting ++ record { name = name; size = size; waker = waker } ∷ [] }

  -- what may be taken without waiting; of a closed object, by a drain alone
  abbrev pub available : Line N → ℕ
  available line = if nobody_waits line.waiting && int_lt (pos 0) line.free then unsigned_abs line.free else 0

  -- how many a drain of at most n takes
  abbrev pub drained : ℕ → Line N → ℕ
  drained n line = min n (available line)

  -- a release of n is refused: what is free, granted and held, and n, would pass the largest count
  abbrev pub overflows : ℕ → Line N → ℕ → Bool
  overflows n line held = int_lt (pos u64_max) (line.free +ℤ pos (total line.granted + held + n))

  -- a reduction by n is refused: what is free would fall below the largest debt
  abbrev pub owes_too_much : ℕ → Line N → Bool
  owes_too_much n line = int_lt (line.free -ℤ pos n) (neg_ℤ (pos u64_max))

  -- the first entry that is meant
  abbrev pub entry_named : (N → Bool) → List (Entry N) → Option (Entry N)
  entry_named is entries = find (λ e. is e.name) entries

  -- the entries without the first that is meant
  abbrev pub without : (N → Bool) → List (Entry N) → List (Entry N)
  without is [] = []
  without is (entry ∷ rest) = if is entry.name then rest else entry ∷ without is rest

  -- those that wait without the first that is meant
  abbrev pub without_waiting : (N → Bool) → List (Waiting N) → List (Waiting N)
  without_waiting is [] = []
  without_waiting is (entry ∷ rest) = if is entry.name then rest else entry ∷ without_waiting is rest

  -- the first that is meant leaves this waker in place of the one that it left before
  abbrev pub leave_waker : (N → Bool) → ℕ → List (Waiting N) → List (Waiting N)
  leave_waker is waker [] = []
  leave_waker is waker (entry ∷ rest) =
      if is entry.name then record entry { waker = waker } ∷ rest else entry ∷ leave_waker is waker rest

  -- A later poll: a granted request takes its permits and leaves, and a waiting one leaves its new waker.
  abbrev pub poll_granted : (N → Bool) → Line N → Line N
  poll_granted is line = record line { granted = without is line.granted }

  abbrev pub poll_waiting : (N → Bool) → ℕ → Line N → Line N
  poll_waiting is waker line = record line { waiting = leave_waker is waker line.waiting }

  -- A cancelled request leaves. One that was granted gives its size back. Then the line settles.
  abbrev pub withdraw : Option (Entry N) → (N → Bool) → Line N → Line N
  withdraw (Some granted) is line = add_permits granted.size (poll_granted is line)
  withdraw None is line = record line { waiting = without_waiting is line.waiting }

  abbrev pub cancel : (N → Bool) → Line N → Line N
  cancel is line = settle (withdraw (entry_named is line.granted) is line)

  -- All that wait are ended: they leave the line, and their wakers are to be woken.
  abbrev pub end_waiting : Line N → Line N
  end_waiting line = record line { waiting = []; wakes = line.wakes ++ map (λ w. w.waker) line.waiting }

-- the same line under other names
abbrev pub renamed : {M N : Type 0} → (M → N) → Entry M → Entry N
renamed f e = record { name = f e.name; size = e.size }

abbrev pub renamed_waiting : {M N : Type 0} → (M → N) → Waiting M → Waiting N
renamed_waiting f w = record { name = f w.name; size = w.size; waker = w.waker }

abbrev pub rename : {M N : Type 0} → (M → N) → Line M → Line N
rename f line = record {
  free = line.free;
  waiting = map (renamed_waiting f) line.waiting;
  granted = map (renamed f) line.granted;
  wakes = line.wakes;
}
