-- Who is in the line after each step, and who is found there.
use Rattle.std.proofs.Common.{◌≡◌, ℕ, ◌+◌, Bool, true, false, cond, List, [], ◌∷◌, ◌++◌, map, Option, Some, None, count_by, refl, ap, ap₂, sym, ◌∙◌, arith, append_assoc, subst}
use Rattle.std.specs.List.{AllByRecursion}
use Rattle.std.specs.Option.{option_or}
use Rattle.std.proofs.lemmas.List.{map-append}
use Rattle.std.proofs.lemmas.List.Folds.{find-append}
use Rattle.std.proofs.lemmas.List.Sums.{sum_by-append, sum_by-cons}
use Rattle.std.proofs.lemmas.Bool.{cond_both, true≢false}
use Rattle.band_balance.specs.Line.{Entry, Waiting, Line, entry_of, requests, add_permits, give_back, join, entry_named, without, without_waiting, leave_waker, poll_granted, poll_waiting, withdraw}
use Rattle.band_balance.specs.Line.{cancel}
use Rattle.band_balance.proofs.Rename.{all_of_first, all_of_second, all_of_both}
use Rattle.band_balance.proofs.Settle.{requests-settle}

module _ {N : Type 0} where
  -- how many entries are meant
  abbrev pub count_named : (N → Bool) → List (Entry N) → ℕ
  count_named is entries = count_by (λ (e : Entry N). is e.name) entries

  pub requests-give_back : (n : ℕ) (line : Line N) → requests (give_back n line) ≡ requests line
  requests-give_back n line = requests-settle (add_permits n line)

  pub requests-join : (name : N) (size waker : ℕ) (line : Line N) → requests (join name size waker line) ≡ requests line ++ record { name = name; size = size } ∷ []
  requests-join name size waker line =
      ap (λ (es : List (Entry N)). line.granted ++ es) (map-append entry_of line.waiting (record { name = name; size = size; waker = waker } ∷ []))
      ∙ sym (append_assoc line.granted (map entry_of line.waiting) (record { name = name; size = size } ∷ []))

  pub entries-leave_waker : (is : N → Bool) (waker : ℕ) (waiting : List (Waiting N)) → map entry_of (leave_waker is waker waiting) ≡ map entry_of waiting
  entries-leave_waker is waker [] = refl
  entries-leave_waker is waker (w ∷ ws) =
      cond_both (is w.name) _ _ (λ (left : List (Waiting N)). map entry_of left ≡ entry_of w ∷ map entry_of ws)
      (λ e. refl)
      (λ e. ap (λ (es : List (Entry N)). entry_of w ∷ es) (entries-leave_waker is waker ws))

  pub requests-poll_waiting : (is : N → Bool) (waker : ℕ) (line : Line N) → requests (poll_waiting is waker line) ≡ requests line
  requests-poll_waiting is waker line = ap (λ (es : List (Entry N)). line.granted ++ es) (entries-leave_waker is waker line.waiting)

  pub entries-without_waiting : (is : N → Bool) (waiting : List (Waiting N)) → map entry_of (without_waiting is waiting) ≡ without is (map entry_of waiting)
  entries-without_waiting is [] = refl
  entries-without_waiting is (w ∷ ws) = go (is w.name) (entries-without_waiting is ws)
    where
      go : (b : Bool) → map entry_of (without_waiting is ws) ≡ without is (map entry_of ws) →
          map entry_of (cond b ws (w ∷ without_waiting is ws)) ≡ cond b (map entry_of ws) (entry_of w ∷ without is (map entry_of ws))
      go true h = refl
      go false h = ap (λ (es : List (Entry N)). entry_of w ∷ es) h

  -- the first that is meant goes from the first list if it stands there, and else from the second
  pub without-append_found : (is : N → Bool) (xs ys : List (Entry N)) (found : Entry N) → entry_named is xs ≡ Some found → without is (xs ++ ys) ≡ without is xs ++ ys
  without-append_found is [] ys found h = cc
  without-append_found is (x ∷ xs) ys found h = go (is x.name) h (without-append_found is xs ys found)
    where
      go : (b : Bool) → cond b (Some x) (entry_named is xs) ≡ Some found → (entry_named is xs ≡ Some found → without is (xs ++ ys) ≡ without is xs ++ ys) →
          cond b (xs ++ ys) (x ∷ without is (xs ++ ys)) ≡ cond b xs (x ∷ without is xs) ++ ys
      go true h k = refl
      go false h k = ap (λ (es : List (Entry N)). x ∷ es) (k h)

  pub without-append_none : (is : N → Bool) (xs ys : List (Entry N)) → entry_named is xs ≡ None → without is (xs ++ ys) ≡ xs ++ without is ys
  without-append_none is [] ys h = refl
  without-append_none is (x ∷ xs) ys h = go (is x.name) h (without-append_none is xs ys)
    where
      go : (b : Bool) → cond b (Some x) (entry_named is xs) ≡ None → (entry_named is xs ≡ None → without is (xs ++ ys) ≡ xs ++ without is ys) →
          cond b (xs ++ ys) (x ∷ without is (xs ++ ys)) ≡ x ∷ (xs ++ without is ys)
      go true h k = cc
      go false h k = ap (λ (es : List (Entry N)). x ∷ es) (k h)

  pub requests-poll_granted : (is : N → Bool) (line : Line N) (found : Entry N) → entry_named is line.granted ≡ Some found → requests (poll_granted is line) ≡ without is (requests line)
  requests-poll_granted is line found h = sym (without-append_found is line.granted (map entry_of line.waiting) found h)

  -- a cancelled request leaves, and the rest stay in order
  pub requests-cancel : (is : N → Bool) (line : Line N) → requests (cancel is line) ≡ without is (requests line)
  requests-cancel is line = requests-settle (withdraw (entry_named is line.granted) is line) ∙ go (entry_named is line.granted) refl
    where
      go : (found : Option (Entry N)) → entry_named is line.granted ≡ found → requests (withdraw found is line) ≡ without is (requests line)
      go (Some entry) h = requests-poll_granted is line entry h
      go None h = ap (λ (es : List (Entry N)). line.granted ++ es) (entries-without_waiting is line.waiting) ∙ sym (without-append_none is line.granted (map entry_of line.waiting) h)

  -- who is found, where another leaves
  pub entry_named-without_other : (is other : N → Bool) (entries : List (Entry N)) → AllByRecursion (λ e. other e.name ≡ true → is e.name ≡ false) entries →
      entry_named other (without is entries) ≡ entry_named other entries
  entry_named-without_other is other [] apart = refl
  entry_named-without_other is other (x ∷ xs) apart = go (is x.name) apart.0 (entry_named-without_other is other xs apart.1)
    where
      misses : (c : Bool) → (c ≡ true → true ≡ false) → entry_named other xs ≡ cond c (Some x) (entry_named other xs)
      misses true p = absurd (true≢false (p refl))
      misses false p = refl

      go : (b : Bool) → (other x.name ≡ true → b ≡ false) → entry_named other (without is xs) ≡ entry_named other xs →
          entry_named other (cond b xs (x ∷ without is xs)) ≡ cond (other x.name) (Some x) (entry_named other xs)
      go true p h = misses (other x.name) p
      go false p h = ap (λ (found : Option (Entry N)). cond (other x.name) (Some x) found) h

  pub entry_named-cancel_other : (is other : N → Bool) (line : Line N) → AllByRecursion (λ e. other e.name ≡ true → is e.name ≡ false) (requests line) →
      entry_named other (requests (cancel is line)) ≡ entry_named other (requests line)
  entry_named-cancel_other is other line apart = ap (λ (es : List (Entry N)). entry_named other es) (requests-cancel is line) ∙ entry_named-without_other is other (requests line) apart

  -- the same, where a granted request is polled; it need not stand there
  pub entry_named-poll_granted_other : (is other : N → Bool) (line : Line N) → AllByRecursion (λ e. other e.name ≡ true → is e.name ≡ false) (requests line) →
      entry_named other (requests (poll_granted is line)) ≡ entry_named other (requests line)
  entry_named-poll_granted_other is other line apart =
      find-append (λ (e : Entry N). other e.name) (without is line.granted) (map entry_of line.waiting)
      ∙ ap (λ (found : Option (Entry N)). option_or found (entry_named other (map entry_of line.waiting)))
      (entry_named-without_other is other line.granted (all_of_first (λ e. other e.name ≡ true → is e.name ≡ false) line.granted (map entry_of line.waiting) apart))
      ∙ sym (find-append (λ (e : Entry N). other e.name) line.granted (map entry_of line.waiting))

  pub entry_named-poll_waiting : (is other : N → Bool) (waker : ℕ) (line : Line N) → entry_named other (requests (poll_waiting is waker line)) ≡ entry_named other (requests line)
  entry_named-poll_waiting is other waker line = ap (λ (es : List (Entry N)). entry_named other es) (requests-poll_waiting is waker line)

  pub entry_named-append : (other : N → Bool) (xs ys : List (Entry N)) → entry_named other (xs ++ ys) ≡ option_or (entry_named other xs) (entry_named other ys)
  entry_named-append other xs ys = find-append (λ (e : Entry N). other e.name) xs ys

  option_or_none : (found : Option (Entry N)) → option_or found None ≡ found
  option_or_none None = refl
  option_or_none (Some e) = refl

  -- where one more comes last
  pub entry_named-push_other : (other : N → Bool) (entries : List (Entry N)) (new : Entry N) → other new.name ≡ false → entry_named other (entries ++ new ∷ []) ≡ entry_named other entries
  entry_named-push_other other entries new h =
      entry_named-append other entries (new ∷ [])
      ∙ ap (λ (b : Bool). option_or (entry_named other entries) (cond b (Some new) None)) h
      ∙ option_or_none (entry_named other entries)

  pub entry_named-push_itself : (is : N → Bool) (entries : List (Entry N)) (new : Entry N) → is new.name ≡ true → entry_named is entries ≡ None → entry_named is (entries ++ new ∷ []) ≡ Some new
  entry_named-push_itself is entries new h k =
      entry_named-append is entries (new ∷ [])
      ∙ ap₂ (λ (found : Option (Entry N)) (b : Bool). option_or found (cond b (Some new) None)) k h

  pub entry_named-join_other : (other : N → Bool) (name : N) (size waker : ℕ) (line : Line N) → other name ≡ false →
      entry_named other (requests (join name size waker line)) ≡ entry_named other (requests line)
  entry_named-join_other other name size waker line h =
      ap (λ (es : List (Entry N)). entry_named other es) (requests-join name size waker line)
      ∙ entry_named-push_other other (requests line) (record { name = name; size = size }) h

  pub entry_named-join_itself : (is : N → Bool) (name : N) (size waker : ℕ) (line : Line N) → is name ≡ true → entry_named is (requests line) ≡ None →
      entry_named is (requests (join name size waker line)) ≡ Some (record { name = name; size = size })
  entry_named-join_itself is name size waker line h k =
      ap (λ (es : List (Entry N)). entry_named is es) (requests-join name size waker line)
      ∙ entry_named-push_itself is (requests line) (record { name = name; size = size }) h k

  -- Counts of the entries that are meant.
  pub count_named-cons : (is : N → Bool) (x : Entry N) (xs : List (Entry N)) → count_named is (x ∷ xs) ≡ cond (is x.name) 1 0 + count_named is xs
  count_named-cons is x xs = sum_by-cons (λ (e : Entry N). cond (is e.name) 1 0) x xs

  pub count_named-append : (is : N → Bool) (xs ys : List (Entry N)) → count_named is (xs ++ ys) ≡ count_named is xs + count_named is ys
  count_named-append is xs ys = sum_by-append (λ (e : Entry N). cond (is e.name) 1 0) xs ys

  -- nobody is found where nobody is counted
  pub entry_named-none : (is : N → Bool) (entries : List (Entry N)) → count_named is entries ≡ 0 → entry_named is entries ≡ None
  entry_named-none is [] h = refl
  entry_named-none is (x ∷ xs) h = go (is x.name) (sym (count_named-cons is x xs) ∙ h) (entry_named-none is xs)
    where
      go : (b : Bool) → cond b 1 0 + count_named is xs ≡ 0 → (count_named is xs ≡ 0 → entry_named is xs ≡ None) → cond b (Some x) (entry_named is xs) ≡ None
      go true e k = absurd (omega arith)
      go false e k = k (omega arith)

  pub count_named-none : (is : N → Bool) (entries : List (Entry N)) → entry_named is entries ≡ None → count_named is entries ≡ 0
  count_named-none is [] h = refl
  count_named-none is (x ∷ xs) h = count_named-cons is x xs ∙ go (is x.name) h (count_named-none is xs)
    where
      go : (b : Bool) → cond b (Some x) (entry_named is xs) ≡ None → (entry_named is xs ≡ None → count_named is xs ≡ 0) → cond b 1 0 + count_named is xs ≡ 0
      go true e k = cc
      go false e k = let z : count_named is xs ≡ 0 = k e in omega arith

  -- What holds of each request goes on holding of those that stay.
  pub all-without : (P : Entry N → Type 0) (is : N → Bool) (entries : List (Entry N)) → AllByRecursion P entries → AllByRecursion P (without is entries)
  all-without P is [] h = h
  all-without P is (x ∷ xs) h = go (is x.name) (all-without P is xs h.1)
    where
      go : (b : Bool) → AllByRecursion P (without is xs) → AllByRecursion P (cond b xs (x ∷ without is xs))
      go true k = h.1
      go false k = (h.0, k)

  pub all-requests-give_back : (P : Entry N → Type 0) (n : ℕ) (line : Line N) → AllByRecursion P (requests line) → AllByRecursion P (requests (give_back n line))
  all-requests-give_back P n line h = rw (requests-give_back n line) h

  pub all-requests-poll_waiting : (P : Entry N → Type 0) (is : N → Bool) (waker : ℕ) (line : Line N) → AllByRecursion P (requests line) → AllByRecursion P (requests (poll_waiting is waker line))
  all-requests-poll_waiting P is waker line h = rw (requests-poll_waiting is waker line) h

  pub all-requests-poll_granted : (P : Entry N → Type 0) (is : N → Bool) (line : Line N) → AllByRecursion P (requests line) → AllByRecursion P (requests (poll_granted is line))
  all-requests-poll_granted P is line h =
      all_of_both P (without is line.granted) (map entry_of line.waiting)
      (all-without P is line.granted (all_of_first P line.granted (map entry_of line.waiting) h))
      (all_of_second P line.granted (map entry_of line.waiting) h)

  pub all-requests-cancel : (P : Entry N → Type 0) (is : N → Bool) (line : Line N) → AllByRecursion P (requests line) → AllByRecursion P (requests (cancel is line))
  all-requests-cancel P is line h = rw (requests-cancel is line) (all-without P is (requests line) h)

  pub all-requests-join : (P : Entry N → Type 0) (name : N) (size waker : ℕ) (line : Line N) → AllByRecursion P (requests line) → P (record { name = name; size = size }) →
      AllByRecursion P (requests (join name size waker line))
  all-requests-join P name size waker line h k = rw (requests-join name size waker line) (all_of_both P (requests line) (record { name = name; size = size } ∷ []) h (k, tt))

  -- what holds of each is had of the one that is found
  pub all-found : (P : Entry N → Type 0) (is : N → Bool) (entries : List (Entry N)) (found : Entry N) → AllByRecursion P entries → entry_named is entries ≡ Some found → P found
  all-found P is [] found h e = cc
  all-found P is (x ∷ xs) found h e = go (is x.name) e (all-found P is xs found h.1)
    where
      go : (b : Bool) → cond b (Some x) (entry_named is xs) ≡ Some found → (entry_named is xs ≡ Some found → P found) → P found
      go true k ih = let same : x ≡ found = cc in subst P same h.0
      go false k ih = ih k

  -- who is found is meant
  pub found_is_named : (is : N → Bool) (entries : List (Entry N)) (found : Entry N) → entry_named is entries ≡ Some found → is found.name ≡ true
  found_is_named is [] found e = cc
  found_is_named is (x ∷ xs) found e = go (is x.name) refl e (found_is_named is xs found)
    where
      go : (b : Bool) → is x.name ≡ b → cond b (Some x) (entry_named is xs) ≡ Some found → (entry_named is xs ≡ Some found → is found.name ≡ true) → is found.name ≡ true
      go true k l ih = let same : x ≡ found = cc in subst (λ (y : Entry N). is y.name ≡ true) same k
      go false k l ih = ih l

  -- where nobody is found, nobody is meant
  pub all-not_named : (is : N → Bool) (entries : List (Entry N)) → entry_named is entries ≡ None → AllByRecursion (λ e. is e.name ≡ false) entries
  all-not_named is [] h = tt
  all-not_named is (x ∷ xs) h = go (is x.name) refl h (all-not_named is xs)
    where
      go : (b : Bool) → is x.name ≡ b → cond b (Some x) (entry_named is xs) ≡ None → (entry_named is xs ≡ None → AllByRecursion (λ e. is e.name ≡ false) xs) →
          (is x.name ≡ false) × AllByRecursion (λ e. is e.name ≡ false) xs
      go true k l ih = cc
      go false k l ih = (k, ih l)

  pub none-from_all : (is : N → Bool) (entries : List (Entry N)) → AllByRecursion (λ e. is e.name ≡ false) entries → entry_named is entries ≡ None
  none-from_all is [] h = refl
  none-from_all is (x ∷ xs) h = rw h.0 (none-from_all is xs h.1)

-- a weaker fact of each
-- Who is found in two lists, one behind the other.
module _ {N : Type 0} (is : N → Bool) where
  pub not_in_front : (xs ys : List (Entry N)) → entry_named is (xs ++ ys) ≡ None → entry_named is xs ≡ None
  not_in_front xs ys nobody = none-from_all is xs (all_of_first _ xs ys (all-not_named is (xs ++ ys) nobody))

  pub not_behind : (xs ys : List (Entry N)) → entry_named is (xs ++ ys) ≡ None → entry_named is ys ≡ None
  not_behind xs ys nobody = none-from_all is ys (all_of_second _ xs ys (all-not_named is (xs ++ ys) nobody))

  pub found_behind : (xs ys : List (Entry N)) → entry_named is xs ≡ None → entry_named is (xs ++ ys) ≡ entry_named is ys
  found_behind xs ys none = entry_named-append is xs ys ∙ ap (λ (o : Option (Entry N)). option_or o (entry_named is ys)) none

  -- the same where each of the two has the same
  pub in_parts : (xs ys xs' ys' : List (Entry N)) → entry_named is xs' ≡ entry_named is xs → entry_named is ys' ≡ entry_named is ys → entry_named is (xs' ++ ys') ≡ entry_named is (xs ++ ys)
  in_parts xs ys xs' ys' front back = entry_named-append is xs' ys' ∙ ap₂ option_or front back ∙ sym (entry_named-append is xs ys)

pub all-weaker : {X : Type 0} (P Q : X → Type 0) → ((x : X) → P x → Q x) → (xs : List X) → AllByRecursion P xs → AllByRecursion Q xs
all-weaker P Q weaker [] h = tt
all-weaker P Q weaker (x ∷ xs) h = (weaker x h.0, all-weaker P Q weaker xs h.1)
