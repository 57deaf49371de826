-- What a line settles to: a front of those that wait is granted, and the first that is left waits for more than is free.
use Rattle.std.proofs.Common.{◌≡◌, ℕ, ◌==◌, ◌&&◌, Option, Some, None, ◌+◌, Bool, true, false, cond, List, [], ◌∷◌, ◌++◌, map, ℤ, pos, ◌+ℤ◌, ◌-ℤ◌, ◌<ℤ◌, int_le, refl, ap, sym, ◌∙◌, arith, append_assoc}
use Rattle.std.proofs.Common.{append-nil}
use Rattle.std.proofs.lemmas.Int.{ints}
use Rattle.std.proofs.lemmas.Bool.{cond_both, or_parts}
use Rattle.std.proofs.lemmas.List.Sums.{sum_by-append, sum_by-cons}
use Rattle.band_balance.specs.Line.{Entry, Waiting, Line, entry_of, requests, total, settle_from, settle, give_back, take_permits, add_permits, entry_named, without, cancel, withdraw, is_served}
use Rattle.band_balance.specs.Line.{nobody_waits, join, poll_granted, poll_waiting, leave_waker}
use Rattle.band_balance.specs.Settled.{HeadWaits}

-- what a settled head says, as a test and as a fact
pub lt_from_le_false : (n : ℕ) (z : ℤ) → int_le (pos n) z ≡ false → z <ℤ pos n
lt_from_le_false n z e = grind (arith, ints)

pub le_false_from_lt : (n : ℕ) (z : ℤ) → z <ℤ pos n → int_le (pos n) z ≡ false
le_false_from_lt n z h = grind (arith, ints)

module _ {N : Type 0} where
  -- those that are granted where so much is free, and those that go on waiting
  abbrev pub passed : ℤ → List (Waiting N) → List (Waiting N)
  passed free [] = []
  passed free (first ∷ rest) = cond (int_le (pos first.size) free) (first ∷ passed (free -ℤ pos first.size) rest) []

  abbrev pub left : ℤ → List (Waiting N) → List (Waiting N)
  left free [] = []
  left free (first ∷ rest) = cond (int_le (pos first.size) free) (left (free -ℤ pos first.size) rest) (first ∷ rest)

  -- the wakers of those that wait
  abbrev pub wakers : List (Waiting N) → List ℕ
  wakers waiting = map (λ (w : Waiting N). w.waker) waiting

  pub passed-left : (free : ℤ) (waiting : List (Waiting N)) → passed free waiting ++ left free waiting ≡ waiting
  passed-left free [] = refl
  passed-left free (first ∷ rest) = go (int_le (pos first.size) free) (passed-left (free -ℤ pos first.size) rest)
    where
      go : (b : Bool) → passed (free -ℤ pos first.size) rest ++ left (free -ℤ pos first.size) rest ≡ rest →
          cond b (first ∷ passed (free -ℤ pos first.size) rest) [] ++ cond b (left (free -ℤ pos first.size) rest) (first ∷ rest) ≡ first ∷ rest
      go true h = ap (λ (ws : List (Waiting N)). first ∷ ws) h
      go false h = refl

  pub total-append : (xs ys : List (Entry N)) → total (xs ++ ys) ≡ total xs + total ys
  total-append xs ys = sum_by-append (λ (e : Entry N). e.size) xs ys

  pub total-cons : (x : Entry N) (xs : List (Entry N)) → total (x ∷ xs) ≡ x.size + total xs
  total-cons x xs = sum_by-cons (λ (e : Entry N). e.size) x xs

  -- a line whose front is granted and whose rest waits
  abbrev pub settled : ℤ → List (Waiting N) → List (Waiting N) → List (Entry N) → List ℕ → Line N
  settled free front rest granted wakes = record {
    free = free -ℤ pos (total (map entry_of front));
    waiting = rest;
    granted = granted ++ map entry_of front;
    wakes = wakes ++ wakers front;
  }

  settled_none : (free : ℤ) (rest : List (Waiting N)) (granted : List (Entry N)) (wakes : List ℕ) →
      record { free = free; waiting = rest; granted = granted; wakes = wakes } ≡ settled free [] rest granted wakes
  settled_none free rest granted wakes = λ i. record { free = less_none free i; waiting = rest; granted = sym (append-nil granted) i; wakes = sym (append-nil wakes) i }
    where
      less_none : (z : ℤ) → z ≡ z -ℤ pos 0
      less_none z = omega (arith, ints)

  settled_more : (free : ℤ) (first : Waiting N) (front rest : List (Waiting N)) (granted : List (Entry N)) (wakes : List ℕ) →
      settled (free -ℤ pos first.size) front rest (granted ++ entry_of first ∷ []) (wakes ++ first.waker ∷ []) ≡ settled free (first ∷ front) rest granted wakes
  settled_more free first front rest granted wakes = λ i. record {
    free = (less_both free first.size (total (map entry_of front)) (total (map entry_of (first ∷ front))) (total-cons (entry_of first) (map entry_of front))) i;
    waiting = rest;
    granted = append_assoc granted (entry_of first ∷ []) (map entry_of front) i;
    wakes = append_assoc wakes (first.waker ∷ []) (wakers front) i;
  }
    where
      less_both : (z : ℤ) (n m k : ℕ) → k ≡ n + m → z -ℤ pos n -ℤ pos m ≡ z -ℤ pos k
      less_both z n m k e = omega (arith, ints)

  -- what a line settles to, field by field
  pub settle_from_is : (free : ℤ) (waiting : List (Waiting N)) (granted : List (Entry N)) (wakes : List ℕ) →
      settle_from free waiting granted wakes ≡ settled free (passed free waiting) (left free waiting) granted wakes
  settle_from_is free [] granted wakes = settled_none free [] granted wakes
  settle_from_is free (first ∷ rest) granted wakes =
      go (int_le (pos first.size) free) (settle_from_is (free -ℤ pos first.size) rest (granted ++ entry_of first ∷ []) (wakes ++ first.waker ∷ []))
    where
      go : (b : Bool) →
          settle_from (free -ℤ pos first.size) rest (granted ++ entry_of first ∷ []) (wakes ++ first.waker ∷ [])
          ≡ settled (free -ℤ pos first.size) (passed (free -ℤ pos first.size) rest) (left (free -ℤ pos first.size) rest) (granted ++ entry_of first ∷ []) (wakes ++ first.waker ∷ []) →
          cond b (settle_from (free -ℤ pos first.size) rest (granted ++ entry_of first ∷ []) (wakes ++ first.waker ∷ []))
          (record { free = free; waiting = first ∷ rest; granted = granted; wakes = wakes })
          ≡ settled free (cond b (first ∷ passed (free -ℤ pos first.size) rest) []) (cond b (left (free -ℤ pos first.size) rest) (first ∷ rest)) granted wakes
      go true h = h ∙ settled_more free first (passed (free -ℤ pos first.size) rest) (left (free -ℤ pos first.size) rest) granted wakes
      go false h = settled_none free (first ∷ rest) granted wakes

  pub settle_is : (line : Line N) → settle line ≡ settled line.free (passed line.free line.waiting) (left line.free line.waiting) line.granted line.wakes
  settle_is line = settle_from_is line.free line.waiting line.granted line.wakes

  -- the granted ones keep their order, and a front of those that waited follows them
  pub granted-settle : (line : Line N) → (settle line).granted ≡ line.granted ++ map entry_of (passed line.free line.waiting)
  granted-settle line = ap (λ (l : Line N). l.granted) (settle_is line)

  pub waiting-settle : (line : Line N) → (settle line).waiting ≡ left line.free line.waiting
  waiting-settle line = ap (λ (l : Line N). l.waiting) (settle_is line)

  pub wakes-settle : (line : Line N) → (settle line).wakes ≡ line.wakes ++ wakers (passed line.free line.waiting)
  wakes-settle line = ap (λ (l : Line N). l.wakes) (settle_is line)

  -- who is in the line stays the same, in order
  pub requests-settle_from : (free : ℤ) (waiting : List (Waiting N)) (granted : List (Entry N)) (wakes : List ℕ) →
      requests (settle_from free waiting granted wakes) ≡ granted ++ map entry_of waiting
  requests-settle_from free [] granted wakes = refl
  requests-settle_from free (first ∷ rest) granted wakes =
      cond_both (int_le (pos first.size) free) _ _ (λ (line : Line N). requests line ≡ granted ++ (entry_of first ∷ map entry_of rest))
      (λ e. requests-settle_from (free -ℤ pos first.size) rest (granted ++ entry_of first ∷ []) (wakes ++ first.waker ∷ []) ∙ append_assoc granted (entry_of first ∷ []) (map entry_of rest))
      (λ e. refl)

  pub requests-settle : (line : Line N) → requests (settle line) ≡ requests line
  requests-settle line = requests-settle_from line.free line.waiting line.granted line.wakes

  -- what is free and what is granted keep their sum
  pub free-total-settle_from : (free : ℤ) (waiting : List (Waiting N)) (granted : List (Entry N)) (wakes : List ℕ) →
      (settle_from free waiting granted wakes).free +ℤ pos (total (settle_from free waiting granted wakes).granted) ≡ free +ℤ pos (total granted)
  free-total-settle_from free [] granted wakes = refl
  free-total-settle_from free (first ∷ rest) granted wakes =
      cond_both (int_le (pos first.size) free) _ _ (λ (line : Line N). line.free +ℤ pos (total line.granted) ≡ free +ℤ pos (total granted))
      (λ e. free-total-settle_from (free -ℤ pos first.size) rest (granted ++ entry_of first ∷ []) (wakes ++ first.waker ∷ [])
      ∙ rw (total-append granted (entry_of first ∷ [])) (cancels free first.size (total granted)))
      (λ e. refl)
    where
      cancels : (z : ℤ) (n m : ℕ) → (z -ℤ pos n) +ℤ pos (m + (0 + n)) ≡ z +ℤ pos m
      cancels z n m = omega (arith, ints)

  pub free-total-settle : (line : Line N) → (settle line).free +ℤ pos (total (settle line).granted) ≡ line.free +ℤ pos (total line.granted)
  free-total-settle line = free-total-settle_from line.free line.waiting line.granted line.wakes

  -- The first that waits asks for more than is free.
  pub HeadWaits-settle_from : (free : ℤ) (waiting : List (Waiting N)) (granted : List (Entry N)) (wakes : List ℕ) →
      HeadWaits (settle_from free waiting granted wakes).free (settle_from free waiting granted wakes).waiting
  HeadWaits-settle_from free [] granted wakes = tt
  HeadWaits-settle_from free (first ∷ rest) granted wakes =
      cond_both (int_le (pos first.size) free) _ _ (λ (line : Line N). HeadWaits line.free line.waiting)
      (λ e. HeadWaits-settle_from (free -ℤ pos first.size) rest (granted ++ entry_of first ∷ []) (wakes ++ first.waker ∷ []))
      (lt_from_le_false first.size free)

  pub HeadWaits-settle : (line : Line N) → HeadWaits (settle line).free (settle line).waiting
  HeadWaits-settle line = HeadWaits-settle_from line.free line.waiting line.granted line.wakes

  pub free-total-give_back : (n : ℕ) (line : Line N) →
      (give_back n line).free +ℤ pos (total (give_back n line).granted) ≡ line.free +ℤ pos n +ℤ pos (total line.granted)
  free-total-give_back n line = free-total-settle (add_permits n line)

  -- the one that leaves had a part of the total
  pub total-without : (is : N → Bool) (entries : List (Entry N)) (found : Entry N) → entry_named is entries ≡ Some found → found.size + total (without is entries) ≡ total entries
  total-without is [] found h = cc
  total-without is (x ∷ xs) found h = go (is x.name) h (total-without is xs found)
    where
      go : (b : Bool) → cond b (Some x) (entry_named is xs) ≡ Some found → (entry_named is xs ≡ Some found → found.size + total (without is xs) ≡ total xs) →
          found.size + total (cond b xs (x ∷ without is xs)) ≡ total (x ∷ xs)
      go true e k =
          let same : x ≡ found = cc in
          ap (λ (y : Entry N). y.size + total xs) (sym same) ∙ sym (total-cons x xs)
      go false e k =
          let kept : found.size + total (without is xs) ≡ total xs = k e in
          let before = total-cons x xs in
          let after = total-cons x (without is xs) in
          omega arith

  -- a cancelled request gives back just what it was granted
  pub free-total-withdraw : (is : N → Bool) (line : Line N) →
      (withdraw (entry_named is line.granted) is line).free +ℤ pos (total (withdraw (entry_named is line.granted) is line).granted) ≡ line.free +ℤ pos (total line.granted)
  free-total-withdraw is line = go (entry_named is line.granted) refl
    where
      moved : (z : ℤ) (n m k : ℕ) → n + m ≡ k → z +ℤ pos n +ℤ pos m ≡ z +ℤ pos k
      moved z n m k e = omega (arith, ints)

      go : (found : Option (Entry N)) → entry_named is line.granted ≡ found →
          (withdraw found is line).free +ℤ pos (total (withdraw found is line).granted) ≡ line.free +ℤ pos (total line.granted)
      go (Some entry) h = moved line.free entry.size (total (without is line.granted)) (total line.granted) (total-without is line.granted entry h)
      go None h = refl

  pub free-total-cancel : (is : N → Bool) (line : Line N) →
      (cancel is line).free +ℤ pos (total (cancel is line).granted) ≡ line.free +ℤ pos (total line.granted)
  free-total-cancel is line = free-total-settle (withdraw (entry_named is line.granted) is line) ∙ free-total-withdraw is line

  pub HeadWaits-give_back : (n : ℕ) (line : Line N) → HeadWaits (give_back n line).free (give_back n line).waiting
  HeadWaits-give_back n line = HeadWaits-settle (add_permits n line)

  pub HeadWaits-cancel : (is : N → Bool) (line : Line N) → HeadWaits (cancel is line).free (cancel is line).waiting
  HeadWaits-cancel is line = HeadWaits-settle (withdraw (entry_named is line.granted) is line)

  -- A line whose head waits stays so where nothing comes to the free ones.
  pub HeadWaits-take_permits : (n : ℕ) (line : Line N) → HeadWaits line.free line.waiting → HeadWaits (take_permits n line).free (take_permits n line).waiting
  HeadWaits-take_permits n line h = go line.waiting h
    where
      less : (s : ℕ) (z : ℤ) → z <ℤ pos s → (z -ℤ pos n) <ℤ pos s
      less s z e = omega (arith, ints)

      go : (waiting : List (Waiting N)) → HeadWaits line.free waiting → HeadWaits (line.free -ℤ pos n) waiting
      go [] k = tt
      go (first ∷ rest) k = less first.size line.free k

  pub HeadWaits-poll_granted : (is : N → Bool) (line : Line N) → HeadWaits line.free line.waiting → HeadWaits (poll_granted is line).free (poll_granted is line).waiting
  HeadWaits-poll_granted is line h = h

  pub HeadWaits-poll_waiting : (is : N → Bool) (waker : ℕ) (line : Line N) → HeadWaits line.free line.waiting → HeadWaits (poll_waiting is waker line).free (poll_waiting is waker line).waiting
  HeadWaits-poll_waiting is waker line h = go line.waiting h
    where
      go : (waiting : List (Waiting N)) → HeadWaits line.free waiting → HeadWaits line.free (leave_waker is waker waiting)
      go [] k = tt
      go (first ∷ rest) k = cond_both (is first.name) _ _ (λ (left : List (Waiting N)). HeadWaits line.free left) (λ e. k) (λ e. k)

  -- who is not served joins, and the head waits
  pub HeadWaits-join : (name : N) (size waker : ℕ) (line : Line N) → HeadWaits line.free line.waiting → is_served size line ≡ false →
      HeadWaits (join name size waker line).free (join name size waker line).waiting
  HeadWaits-join name size waker line h e = go line.waiting h (or_parts (size == 0) (nobody_waits line.waiting && int_le (pos size) line.free) e).1
    where
      go : (waiting : List (Waiting N)) → HeadWaits line.free waiting → (nobody_waits waiting && int_le (pos size) line.free) ≡ false →
          HeadWaits line.free (waiting ++ record { name = name; size = size; waker = waker } ∷ [])
      go [] k l = lt_from_le_false size line.free l
      go (first ∷ rest) k l = k
