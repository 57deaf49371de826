-- A line under other names: each step commutes with `rename`, where the tests on the names agree.
use Rattle.std.proofs.Common.{◌≡◌, ℕ, ◌+◌, fold, Bool, true, false, cond, List, [], ◌∷◌, ◌++◌, map, ℤ, pos, ◌-ℤ◌, int_le, Option, Some, None, option_map, refl, ap, ap₂, sym, ◌∙◌, ◌==◌, ◌||◌, ◌&&◌}
use Rattle.std.specs.List.{AllByRecursion}
use Rattle.std.proofs.lemmas.List.{map-append}
use Rattle.band_balance.specs.Line.{Entry, Waiting, Line, entry_of, requests, total, nobody_waits, settle_from, settle, is_served, add_permits, give_back, join, available, drained, entry_named}
use Rattle.band_balance.specs.Line.{without, without_waiting, leave_waker, poll_granted, poll_waiting, withdraw, cancel, renamed, renamed_waiting, rename}

-- a function goes into both branches of an `if`
pub through_if : {A B : Type 0} (h : A → B) (b b' : Bool) (x y : A) (x' y' : B) → b' ≡ b → x' ≡ h x → y' ≡ h y → cond b' x' y' ≡ h (cond b x y)
through_if h true b' x y x' y' e p q = rw e p
through_if h false b' x y x' y' e p q = rw e q

module _ {M N : Type 0} (f : M → N) where
  pub settle_from-rename : (free : ℤ) (waiting : List (Waiting M)) (granted : List (Entry M)) (wakes : List ℕ) →
      settle_from free (map (renamed_waiting f) waiting) (map (renamed f) granted) wakes ≡ rename f (settle_from free waiting granted wakes)
  settle_from-rename free [] granted wakes = refl
  settle_from-rename free (first ∷ rest) granted wakes =
      through_if (rename f) (int_le (pos first.size) free) (int_le (pos first.size) free) _ _ _ _ refl
      (ap (λ (g : List (Entry N)). settle_from (free -ℤ pos first.size) (map (renamed_waiting f) rest) g (wakes ++ first.waker ∷ [])) (sym (map-append (renamed f) granted (entry_of first ∷ [])))
      ∙ settle_from-rename (free -ℤ pos first.size) rest (granted ++ entry_of first ∷ []) (wakes ++ first.waker ∷ []))
      refl

  pub settle-rename : (line : Line M) → settle (rename f line) ≡ rename f (settle line)
  settle-rename line = settle_from-rename line.free line.waiting line.granted line.wakes

  pub nobody_waits-rename : (waiting : List (Waiting M)) → nobody_waits (map (renamed_waiting f) waiting) ≡ nobody_waits waiting
  nobody_waits-rename [] = refl
  nobody_waits-rename (first ∷ rest) = refl

  pub is_served-rename : (size : ℕ) (line : Line M) → is_served size (rename f line) ≡ is_served size line
  is_served-rename size line = ap (λ b. size == 0 || (b && int_le (pos size) line.free)) (nobody_waits-rename line.waiting)

  pub available-rename : (line : Line M) → available (rename f line) ≡ available line
  available-rename line = rw (nobody_waits-rename line.waiting) refl

  pub drained-rename : (n : ℕ) (line : Line M) → drained n (rename f line) ≡ drained n line
  drained-rename n line = rw (nobody_waits-rename line.waiting) refl

  pub give_back-rename : (n : ℕ) (line : Line M) → give_back n (rename f line) ≡ rename f (give_back n line)
  give_back-rename n line = settle-rename (add_permits n line)

  pub join-rename : (name : M) (size waker : ℕ) (line : Line M) → join (f name) size waker (rename f line) ≡ rename f (join name size waker line)
  join-rename name size waker line =
      ap (λ (w : List (Waiting N)). record { free = line.free; waiting = w; granted = map (renamed f) line.granted; wakes = line.wakes })
      (sym (map-append (renamed_waiting f) line.waiting (record { name = name; size = size; waker = waker } ∷ [])))

  pub entries-rename : (waiting : List (Waiting M)) → map entry_of (map (renamed_waiting f) waiting) ≡ map (renamed f) (map entry_of waiting)
  entries-rename [] = refl
  entries-rename (w ∷ ws) = ap (λ es. renamed f (entry_of w) ∷ es) (entries-rename ws)

  pub wakers-rename : (waiting : List (Waiting M)) → map (λ (w : Waiting N). w.waker) (map (renamed_waiting f) waiting) ≡ map (λ (w : Waiting M). w.waker) waiting
  wakers-rename [] = refl
  wakers-rename (w ∷ ws) = ap (λ ns. w.waker ∷ ns) (wakers-rename ws)

  pub requests-rename : (line : Line M) → requests (rename f line) ≡ map (renamed f) (requests line)
  requests-rename line = ap (λ es. map (renamed f) line.granted ++ es) (entries-rename line.waiting) ∙ sym (map-append (renamed f) line.granted (map entry_of line.waiting))

  -- A test on the old names and one on the new names.
  module _ (is : M → Bool) (is' : N → Bool) where
    pub entry_named-rename : (entries : List (Entry M)) → AllByRecursion (λ e. is' (f e.name) ≡ is e.name) entries →
        entry_named is' (map (renamed f) entries) ≡ option_map (renamed f) (entry_named is entries)
    entry_named-rename [] agree = refl
    entry_named-rename (e ∷ es) agree = through_if (option_map (renamed f)) (is e.name) (is' (f e.name)) _ _ _ _ agree.0 refl (entry_named-rename es agree.1)

    pub without-rename : (entries : List (Entry M)) → AllByRecursion (λ e. is' (f e.name) ≡ is e.name) entries →
        without is' (map (renamed f) entries) ≡ map (renamed f) (without is entries)
    without-rename [] agree = refl
    without-rename (e ∷ es) agree =
        through_if (map (renamed f)) (is e.name) (is' (f e.name)) _ _ _ _ agree.0 refl (ap (λ rest. renamed f e ∷ rest) (without-rename es agree.1))

    pub without_waiting-rename : (waiting : List (Waiting M)) → AllByRecursion (λ e. is' (f e.name) ≡ is e.name) (map entry_of waiting) →
        without_waiting is' (map (renamed_waiting f) waiting) ≡ map (renamed_waiting f) (without_waiting is waiting)
    without_waiting-rename [] agree = refl
    without_waiting-rename (w ∷ ws) agree =
        through_if (map (renamed_waiting f)) (is w.name) (is' (f w.name)) _ _ _ _ agree.0 refl (ap (λ rest. renamed_waiting f w ∷ rest) (without_waiting-rename ws agree.1))

    pub leave_waker-rename : (waker : ℕ) (waiting : List (Waiting M)) → AllByRecursion (λ e. is' (f e.name) ≡ is e.name) (map entry_of waiting) →
        leave_waker is' waker (map (renamed_waiting f) waiting) ≡ map (renamed_waiting f) (leave_waker is waker waiting)
    leave_waker-rename waker [] agree = refl
    leave_waker-rename waker (w ∷ ws) agree =
        through_if (map (renamed_waiting f)) (is w.name) (is' (f w.name)) _ _ _ _ agree.0 refl (ap (λ rest. renamed_waiting f w ∷ rest) (leave_waker-rename waker ws agree.1))

    pub poll_granted-rename : (line : Line M) → AllByRecursion (λ e. is' (f e.name) ≡ is e.name) line.granted →
        poll_granted is' (rename f line) ≡ rename f (poll_granted is line)
    poll_granted-rename line agree =
        ap (λ (g : List (Entry N)). record { free = line.free; waiting = map (renamed_waiting f) line.waiting; granted = g; wakes = line.wakes }) (without-rename line.granted agree)

    pub poll_waiting-rename : (waker : ℕ) (line : Line M) → AllByRecursion (λ e. is' (f e.name) ≡ is e.name) (map entry_of line.waiting) →
        poll_waiting is' waker (rename f line) ≡ rename f (poll_waiting is waker line)
    poll_waiting-rename waker line agree =
        ap (λ (w : List (Waiting N)). record { free = line.free; waiting = w; granted = map (renamed f) line.granted; wakes = line.wakes }) (leave_waker-rename waker line.waiting agree)

    pub withdraw-rename : (found : Option (Entry M)) (line : Line M) →
        AllByRecursion (λ e. is' (f e.name) ≡ is e.name) line.granted → AllByRecursion (λ e. is' (f e.name) ≡ is e.name) (map entry_of line.waiting) →
        withdraw (option_map (renamed f) found) is' (rename f line) ≡ rename f (withdraw found is line)
    withdraw-rename (Some e) line granted_agree waiting_agree = ap (add_permits e.size) (poll_granted-rename line granted_agree)
    withdraw-rename None line granted_agree waiting_agree =
        ap (λ (w : List (Waiting N)). record { free = line.free; waiting = w; granted = map (renamed f) line.granted; wakes = line.wakes }) (without_waiting-rename line.waiting waiting_agree)

    pub cancel-rename : (line : Line M) →
        AllByRecursion (λ e. is' (f e.name) ≡ is e.name) line.granted → AllByRecursion (λ e. is' (f e.name) ≡ is e.name) (map entry_of line.waiting) →
        cancel is' (rename f line) ≡ rename f (cancel is line)
    cancel-rename line granted_agree waiting_agree =
        ap (λ found. settle (withdraw found is' (rename f line))) (entry_named-rename line.granted granted_agree)
        ∙ ap settle (withdraw-rename (entry_named is line.granted) line granted_agree waiting_agree)
        ∙ settle-rename (withdraw (entry_named is line.granted) is line)

-- what holds of each of two joined lists holds of the first, and of the second
pub all_of_first : {X : Type 0} (P : X → Type 0) (xs ys : List X) → AllByRecursion P (xs ++ ys) → AllByRecursion P xs
all_of_first P [] ys h = tt
all_of_first P (x ∷ xs) ys h = (h.0, all_of_first P xs ys h.1)

pub all_of_second : {X : Type 0} (P : X → Type 0) (xs ys : List X) → AllByRecursion P (xs ++ ys) → AllByRecursion P ys
all_of_second P [] ys h = h
all_of_second P (x ∷ xs) ys h = all_of_second P xs ys h.1

pub all_of_both : {X : Type 0} (P : X → Type 0) (xs ys : List X) → AllByRecursion P xs → AllByRecursion P ys → AllByRecursion P (xs ++ ys)
all_of_both P [] ys h k = k
all_of_both P (x ∷ xs) ys h k = (h.0, all_of_both P xs ys h.1 k)

-- `cancel-rename`, with the tests agreeing on all who are in the line
pub cancel-rename_requests : {M N : Type 0} (f : M → N) (is : M → Bool) (is' : N → Bool) (line : Line M) →
    AllByRecursion (λ e. is' (f e.name) ≡ is e.name) (requests line) → cancel is' (rename f line) ≡ rename f (cancel is line)
cancel-rename_requests f is is' line agree =
    cancel-rename f is is' line (all_of_first _ line.granted (map entry_of line.waiting) agree) (all_of_second _ line.granted (map entry_of line.waiting) agree)

-- Two renamings that agree on the names in the line give one line.
module _ {M N : Type 0} (f g : M → N) where
  pub renamed_agree : (entries : List (Entry M)) → AllByRecursion (λ e. f e.name ≡ g e.name) entries → map (renamed f) entries ≡ map (renamed g) entries
  renamed_agree [] agree = refl
  renamed_agree (e ∷ es) agree = ap₂ (λ (name : N) (rest : List (Entry N)). record { name = name; size = e.size } ∷ rest) agree.0 (renamed_agree es agree.1)

  pub renamed_waiting_agree : (waiting : List (Waiting M)) → AllByRecursion (λ e. f e.name ≡ g e.name) (map entry_of waiting) → map (renamed_waiting f) waiting ≡ map (renamed_waiting g) waiting
  renamed_waiting_agree [] agree = refl
  renamed_waiting_agree (w ∷ ws) agree =
      ap₂ (λ (name : N) (rest : List (Waiting N)). record { name = name; size = w.size; waker = w.waker } ∷ rest) agree.0 (renamed_waiting_agree ws agree.1)

  pub rename_agree : (line : Line M) → AllByRecursion (λ e. f e.name ≡ g e.name) (requests line) → rename f line ≡ rename g line
  rename_agree line agree =
      ap₂ (λ (w : List (Waiting N)) (granted : List (Entry N)). record { free = line.free; waiting = w; granted = granted; wakes = line.wakes })
      (renamed_waiting_agree line.waiting (all_of_second _ line.granted (map entry_of line.waiting) agree))
      (renamed_agree line.granted (all_of_first _ line.granted (map entry_of line.waiting) agree))

pub total-renamed : {M N : Type 0} (f : M → N) (entries : List (Entry M)) → total (map (renamed f) entries) ≡ total entries
total-renamed {M} {N} f entries = go 0 entries
  where
    go : (n : ℕ) (es : List (Entry M)) → fold (λ a (e : Entry N). a + e.size) n (map (renamed f) es) ≡ fold (λ a (e : Entry M). a + e.size) n es
    go n [] = refl
    go n (e ∷ es) = go (n + e.size) es
