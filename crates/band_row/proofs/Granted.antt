-- Who was granted and who was ended, by what stands in each slot.
use Rattle.std.proofs.Common.{◌≡◌, ◌≢◌, refl, ℕ, zero, suc, ◌+◌, ◌<◌, ◌≤◌, List, [], ◌∷◌, ◌++◌, map, drop, get_or, arith, ap, sym, ◌∙◌, subst, Option, Some, None, Bool, true, false, cond, nat_eq}
use Rattle.std.specs.Prelude.{◌==◌}
use Rattle.std.specs.List.{AllByRecursion, IsDistinct}
use Rattle.std.specs.List.Sorted.{IsPermutation}
use Rattle.std.specs.Option.{option_map}
use Rattle.std.proofs.lemmas.Bool.Decides.{nat_tests}
use Rattle.std.proofs.lemmas.List.Sorted.{IsPermutation-refl, IsPermutation-cons, IsPermutation-swap, IsPermutation-trans, IsPermutation-to_front}
use Rattle.band_balance.specs.Line.{Entry, entry_named, without, total}
use Rattle.band_balance.proofs.Requests.{all-weaker}
use Rattle.band_balance.proofs.Settle.{total-without}
use Rattle.band_row.specs.Row.{is_slot, size_by, entries_from, with_entry}
use Rattle.band_row.specs.declared.wait_node.WaitNode.{WaitNode}

-- what a slot of these has
abbrev pub size_at : (WaitNode → Option ℕ) → ℕ → List (Option WaitNode) → Option ℕ
size_at of slot slots = size_by of (get_or slots slot None)

abbrev pub entry_at : ℕ → ℕ → Entry ℕ
entry_at slot size = record { name = slot; size = size }

-- the sizes that nodes have
module _ (of : WaitNode → Option ℕ) where
  -- the first slot, and those behind it
  from_first : (n : ℕ) (slots : List (Option WaitNode)) → entries_from of n slots ≡ with_entry n (size_at of 0 slots) (entries_from of (n + 1) (drop 1 slots))
  from_first n [] = refl
  from_first n (x ∷ xs) = refl

  at_rest : (slot : ℕ) (slots : List (Option WaitNode)) → size_at of slot (drop 1 slots) ≡ size_at of (suc slot) slots
  at_rest slot [] = refl
  at_rest slot (x ∷ xs) = refl

  entries-none : (n : ℕ) (slots : List (Option WaitNode)) → ((slot : ℕ) → size_at of slot slots ≡ None) → entries_from of n slots ≡ []
  entries-none n [] none = refl
  entries-none n (x ∷ xs) none =
      ap (λ size. with_entry n size (entries_from of (n + 1) xs)) (none 0) ∙ entries-none (n + 1) xs (λ slot. none (suc slot))

  -- the same was granted where each slot was granted the same
  pub entries-same : (n : ℕ) (xs ys : List (Option WaitNode)) → ((slot : ℕ) → size_at of slot xs ≡ size_at of slot ys) → entries_from of n xs ≡ entries_from of n ys
  entries-same n [] ys same = sym (entries-none n ys (λ slot. sym (same slot)))
  entries-same n (x ∷ xs) ys same =
      ap (λ size. with_entry n size (entries_from of (n + 1) xs)) (same 0)
      ∙ ap (with_entry n (size_at of 0 ys)) (entries-same (n + 1) xs (drop 1 ys) (λ slot. same (suc slot) ∙ sym (at_rest slot ys)))
      ∙ sym (from_first n ys)

  -- no slot below the first is named
  none_below : (slot n : ℕ) (slots : List (Option WaitNode)) → slot < n → entry_named (is_slot slot) (entries_from of n slots) ≡ None
  none_below slot n [] less = refl
  none_below slot n (x ∷ xs) less = by_size (size_by of x) (none_below slot (n + 1) xs (omega arith))
    where
      by_size : (size : Option ℕ) → entry_named (is_slot slot) (entries_from of (n + 1) xs) ≡ None
          → entry_named (is_slot slot) (with_entry n size (entries_from of (n + 1) xs)) ≡ None
      by_size None rest = rest
      by_size (Some size) rest = let other : (slot == n) ≡ false = grind (arith, nat_tests) in rw other rest

  found_from : (slot n i : ℕ) (slots : List (Option WaitNode)) → slot ≡ n + i
      → entry_named (is_slot slot) (entries_from of n slots) ≡ option_map (entry_at slot) (size_at of i slots)
  found_from slot n i [] is = refl
  found_from slot n zero (x ∷ xs) is = by_size (size_by of x)
    where
      by_size : (size : Option ℕ) → entry_named (is_slot slot) (with_entry n size (entries_from of (n + 1) xs)) ≡ option_map (entry_at slot) size
      by_size None = none_below slot (n + 1) xs (omega arith)
      by_size (Some size) =
          let same : n ≡ slot = omega arith in
          let here : (slot == n) ≡ true = grind (arith, nat_tests) in
          rw here (ap (λ name. Some (entry_at name size)) same)
  found_from slot n (suc i) (x ∷ xs) is = by_size (size_by of x) (found_from slot (n + 1) i xs (omega arith))
    where
      by_size : (size : Option ℕ) → entry_named (is_slot slot) (entries_from of (n + 1) xs) ≡ option_map (entry_at slot) (size_at of i xs)
          → entry_named (is_slot slot) (with_entry n size (entries_from of (n + 1) xs)) ≡ option_map (entry_at slot) (size_at of i xs)
      by_size None rest = rest
      by_size (Some size) rest = let other : (slot == n) ≡ false = grind (arith, nat_tests) in rw other rest

  -- a slot is found where it was granted something
  pub entries-found : (slot : ℕ) (slots : List (Option WaitNode)) → entry_named (is_slot slot) (entries_from of 0 slots) ≡ option_map (entry_at slot) (size_at of slot slots)
  entries-found slot slots = found_from slot 0 slot slots (omega arith)

  -- of two lists of slots, the second has nothing granted in this slot, and the others have what they had
  pub record LeavesSlot (slot : ℕ) (xs ys : List (Option WaitNode)) : Type 0 where
    pub gone : size_at of slot ys ≡ None
    pub others : (other : ℕ) → other ≢ slot → size_at of other ys ≡ size_at of other xs

  gone_from : (slot n i size : ℕ) (xs ys : List (Option WaitNode)) → slot ≡ n + i → size_at of i xs ≡ Some size → LeavesSlot i xs ys
      → entries_from of n ys ≡ without (is_slot slot) (entries_from of n xs)
  gone_from slot n i size [] ys is had leaves = absurd (cc)
  gone_from slot n zero size (x ∷ xs) ys is had leaves =
      from_first n ys
      ∙ ap (λ found. with_entry n found (entries_from of (n + 1) (drop 1 ys))) leaves.gone
      ∙ entries-same (n + 1) (drop 1 ys) xs (λ other. at_rest other ys ∙ leaves.others (suc other) (λ e. cc))
      ∙ first_goes
      ∙ ap (λ found. without (is_slot slot) (with_entry n found (entries_from of (n + 1) xs))) (sym had)
    where
      first_goes : entries_from of (n + 1) xs ≡ without (is_slot slot) (with_entry n (Some size) (entries_from of (n + 1) xs))
      first_goes = let here : (slot == n) ≡ true = grind (arith, nat_tests) in rw here refl
  gone_from slot n (suc i) size (x ∷ xs) ys is had leaves =
      from_first n ys
      ∙ ap (λ found. with_entry n found (entries_from of (n + 1) (drop 1 ys))) (leaves.others 0 (λ e. cc))
      ∙ ap (with_entry n (size_by of x)) (gone_from slot (n + 1) i size xs (drop 1 ys) (omega arith) had leaves_rest)
      ∙ first_stays (size_by of x)
    where
      leaves_rest : LeavesSlot i xs (drop 1 ys)
      leaves_rest = record {
        gone = at_rest i ys ∙ leaves.gone;
        others = λ other differs. at_rest other ys ∙ leaves.others (suc other) (λ e. differs (cc));
      }

      first_stays : (found : Option ℕ) → with_entry n found (without (is_slot slot) (entries_from of (n + 1) xs)) ≡ without (is_slot slot) (with_entry n found (entries_from of (n + 1) xs))
      first_stays None = refl
      first_stays (Some size) = let other : (slot == n) ≡ false = grind (arith, nat_tests) in rw other refl

  module _ (slot size : ℕ) (xs ys : List (Option WaitNode)) (had : size_at of slot xs ≡ Some size) (leaves : LeavesSlot slot xs ys) where
    there : entry_named (is_slot slot) (entries_from of 0 xs) ≡ Some (entry_at slot size)
    there = entries-found slot xs ∙ ap (option_map (entry_at slot)) had

    -- one that was granted is gone
    pub entries-gone : entries_from of 0 ys ≡ without (is_slot slot) (entries_from of 0 xs)
    entries-gone = gone_from slot 0 slot size xs ys (omega arith) had leaves

    pub total-gone : total (entries_from of 0 ys) + size ≡ total (entries_from of 0 xs)
    total-gone =
        let before = total-without (is_slot slot) (entries_from of 0 xs) (entry_at slot size) there in
        let after = ap total entries-gone in
        omega (arith, before, after)

    -- and back: one more is granted
    pub entries-more : IsPermutation (entries_from of 0 ys ++ entry_at slot size ∷ []) (entries_from of 0 xs)
    entries-more =
        IsPermutation-trans _ _ _ (IsPermutation-to_front (entries_from of 0 ys) (entry_at slot size))
        (subst (λ entries. IsPermutation (entry_at slot size ∷ entries) (entries_from of 0 xs)) (sym entries-gone)
        (first_of (entries_from of 0 xs) there))
      where
        first_of : (entries : List (Entry ℕ)) → entry_named (is_slot slot) entries ≡ Some (entry_at slot size)
            → IsPermutation (entry_at slot size ∷ without (is_slot slot) entries) entries
        first_of [] found = absurd (cc)
        first_of (e ∷ es) found = by_test (slot == e.name) found (first_of es)
          where
            by_test : (b : Bool) → cond b (Some e) (entry_named (is_slot slot) es) ≡ Some (entry_at slot size)
                → (entry_named (is_slot slot) es ≡ Some (entry_at slot size) → IsPermutation (entry_at slot size ∷ without (is_slot slot) es) es)
                → IsPermutation (entry_at slot size ∷ cond b es (e ∷ without (is_slot slot) es)) (e ∷ es)
            by_test true it rest = let same : e ≡ entry_at slot size = cc in subst (λ first. IsPermutation (first ∷ es) (e ∷ es)) same (IsPermutation-refl (e ∷ es))
            by_test false it rest =
                IsPermutation-trans _ _ _
                (IsPermutation-swap (entry_at slot size ∷ e ∷ without (is_slot slot) es) (e ∷ entry_at slot size ∷ without (is_slot slot) es) 0 1 (omega arith) (omega arith) refl)
                (IsPermutation-cons e _ _ (rest it))

  -- an entry of those from a slot on has its slot's size
  pub record IsNamed (n : ℕ) (slots : List (Option WaitNode)) (e : Entry ℕ) : Type 0 where
    pub above : n ≤ e.name
    pub size : (i : ℕ) → e.name ≡ n + i → size_at of i slots ≡ Some e.size

  pub each-named : (n : ℕ) (slots : List (Option WaitNode)) → AllByRecursion (IsNamed n slots) (entries_from of n slots)
  each-named n [] = tt
  each-named n (x ∷ xs) = by_size (size_by of x) refl (all-weaker (IsNamed (n + 1) xs) (IsNamed n (x ∷ xs)) further (entries_from of (n + 1) xs) (each-named (n + 1) xs))
    where
      further : (e : Entry ℕ) → IsNamed (n + 1) xs e → IsNamed n (x ∷ xs) e
      further e named = record { above = let above = named.above in omega arith; size = by_place }
        where
          by_place : (i : ℕ) → e.name ≡ n + i → size_at of i (x ∷ xs) ≡ Some e.size
          by_place zero is = absurd (let above = named.above in omega arith)
          by_place (suc i) is = named.size i (omega arith)

      here : (size : ℕ) → size_by of x ≡ Some size → (i : ℕ) → n ≡ n + i → size_at of i (x ∷ xs) ≡ Some size
      here size e zero is = e
      here size e (suc i) is = absurd (omega arith)

      by_size : (size : Option ℕ) → size_by of x ≡ size → AllByRecursion (IsNamed n (x ∷ xs)) (entries_from of (n + 1) xs)
          → AllByRecursion (IsNamed n (x ∷ xs)) (with_entry n size (entries_from of (n + 1) xs))
      by_size None e behind = behind
      by_size (Some size) e behind = (record { above = omega arith; size = here size e }, behind)

  -- each name stands there once
  pub entries-distinct : (n : ℕ) (slots : List (Option WaitNode)) → IsDistinct nat_eq (map (λ e. e.name) (entries_from of n slots))
  unfolding IsDistinct
  entries-distinct n [] = tt
  entries-distinct n (x ∷ xs) = by_size (size_by of x) (entries-distinct (n + 1) xs)
    where
      apart : (entries : List (Entry ℕ)) → AllByRecursion (IsNamed (n + 1) xs) entries → AllByRecursion (λ name. nat_eq n name ≡ false) (map (λ e. e.name) entries)
      apart [] named = tt
      apart (e ∷ es) named = (let above = named.0.above in grind (arith, nat_tests), apart es named.1)

      by_size : (size : Option ℕ) → IsDistinct nat_eq (map (λ e. e.name) (entries_from of (n + 1) xs))
          → IsDistinct nat_eq (map (λ e. e.name) (with_entry n size (entries_from of (n + 1) xs)))
      by_size None rest = rest
      by_size (Some size) rest = (apart (entries_from of (n + 1) xs) (each-named (n + 1) xs), rest)
