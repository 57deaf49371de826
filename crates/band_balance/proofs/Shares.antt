-- The bounds of an object, and what a lock has in all: who has it whole is alone.
use Rattle.std.proofs.Common.{◌≡◌, ℕ, ◌+◌, ◌<◌, ◌≤◌, Bool, true, false, List, [], ◌∷◌, ◌++◌, length, map, Option, IfSome, ℤ, pos, neg_ℤ, ◌+ℤ◌, ◌≤ℤ◌, int_lt, ◌⊎◌, inl, inr, refl, sym, ap, ◌∙◌, subst}
use Rattle.std.proofs.Common.{arith, append_assoc}
use Rattle.std.specs.List.{AllByRecursion}
use Rattle.std.proofs.lemmas.Int.{ints}
use Rattle.std.proofs.lemmas.Bool.{true≢false}
use Rattle.band_balance.specs.Line.{Entry, Line, total, entry_of, requests, u64_max}
use Rattle.band_balance.specs.Object.{Object, Kind, Semaphore, Mutex, ReaderWriter, Mode, Permit, Lock, Read, Write, Tag, is_of, size_of}
use Rattle.band_balance.specs.Rule.{Fits}
use Rattle.band_balance.specs.Laws.{permits, in_hand, IsWithin, share_count, HasAShare, HasShares, KeepsShares, ExclusiveAs, IsExclusive, IsOrderly}
use Rattle.band_balance.proofs.Accounts.{Accounts, Owes, hand, accounts}
use Rattle.band_balance.proofs.Held.{TellsApart, total-push}
use Rattle.band_balance.proofs.Rename.{all_of_first, all_of_second, all_of_both}
use Rattle.band_balance.proofs.Requests.{all-weaker}
use Rattle.band_balance.proofs.Settle.{total-append, total-cons}
use Rattle.band_balance.proofs.Turns.{Becomes, Effect, comes, goes, drains, forgets}

-- what comes fits in
has_room : (z : ℤ) (g h n : ℕ) → int_lt (pos u64_max) (z +ℤ pos (g + h + n)) ≡ false → (z +ℤ pos (g + h) +ℤ pos n) ≤ℤ pos u64_max
has_room z g h n under = grind (arith, ints)

none_comes : (z : ℤ) → z ≤ℤ pos u64_max → (z +ℤ pos 0) ≤ℤ pos u64_max
none_comes z small = omega (arith, ints)

module _ {K : Type 0} (same : K → K → Bool) (told : TellsApart same) (object : Object (Tag K)) (lets : HasAShare object.kind) where
  room : IsWithin object → {back : Effect (Tag K)} {came gone : ℕ} {who : Option K} {line : Line (Tag K)} {held : List (Entry (Tag K))} {closed : Bool} {ended : List (Entry (Tag K))} → Becomes same object back came gone who line held closed ended
      → (permits object +ℤ pos came) ≤ℤ pos u64_max
  room is (comes n fits under) = has_room object.line.free (total object.line.granted) (total object.held) n under
  room is by = none_comes (permits object) is.in_all

  pub within-by : IsWithin object → {back : Effect (Tag K)} {came gone : ℕ} {who : Option K} {line : Line (Tag K)} {held : List (Entry (Tag K))} {closed : Bool} {ended : List (Entry (Tag K))}
      → Becomes same object back came gone who line held closed ended
      → IsWithin (record object { line = record line { wakes = [] }; held = held; closed = closed; ended = ended })
  within-by is {came = came} {gone = gone} {line = line} {held = held} by = record { in_hand = in_hand_by sums.debt; in_all = all; owed = owed_by sums.debt }
    where
      sums : Accounts object came gone line held
      sums = accounts same told object lets by

      in_all_by : (z : ℤ) (h : ℕ) (s : ℤ) → z +ℤ pos h +ℤ pos gone ≡ s +ℤ pos came → (s +ℤ pos came) ≤ℤ pos u64_max → (z +ℤ pos h) ≤ℤ pos u64_max
      in_all_by z h s sum small = omega (arith, ints)

      all : (line.free +ℤ pos (hand line held)) ≤ℤ pos u64_max
      all = in_all_by line.free (hand line held) (permits object) sums.sum (room is by)

      in_hand_by : (pos 0 ≤ℤ line.free) ⊎ Owes object line held → hand line held ≤ u64_max
      in_hand_by (inl paid) = paid_fits line.free (hand line held) paid all
        where
          paid_fits : (z : ℤ) (h : ℕ) → pos 0 ≤ℤ z → (z +ℤ pos h) ≤ℤ pos u64_max → h ≤ u64_max
          paid_fits z h paid small = omega (arith, ints)
      in_hand_by (inr owes) = omega (arith, owes.1, is.in_hand)

      owed_by : (pos 0 ≤ℤ line.free) ⊎ Owes object line held → neg_ℤ (pos u64_max) ≤ℤ line.free
      owed_by (inl paid) = omega (arith, ints)
      owed_by (inr (inl more, less)) = omega (arith, ints, is.owed)
      owed_by (inr (inr owed, less)) = owed.1

  -- nothing is brought to a lock, and nothing taken away for good
  only_moves : is_of object.kind Permit ≡ false → {back : Effect (Tag K)} {came gone : ℕ} {who : Option K} {line : Line (Tag K)} {held : List (Entry (Tag K))} {closed : Bool} {ended : List (Entry (Tag K))}
      → Becomes same object back came gone who line held closed ended → (came ≡ 0) × (gone ≡ 0)
  only_moves lock (comes n fits under) = absurd (true≢false (sym fits ∙ lock))
  only_moves lock (goes n fits over) = absurd (true≢false (sym fits ∙ lock))
  only_moves lock (drains n fits) = absurd (true≢false (sym fits ∙ lock))
  only_moves lock (forgets name it) = absurd (true≢false (sym it.fits ∙ lock))
  only_moves lock by = (refl, refl)

  shares_kept : is_of object.kind Permit ≡ false → (shares : ℕ) → HasShares object shares
      → {back : Effect (Tag K)} {came gone : ℕ} {who : Option K} {line : Line (Tag K)} {held : List (Entry (Tag K))} {closed : Bool} {ended : List (Entry (Tag K))}
      → Becomes same object back came gone who line held closed ended → HasShares (record object { line = record line { wakes = [] }; held = held; closed = closed; ended = ended }) shares
  shares_kept lock shares has {came = came} {gone = gone} {line = line} {held = held} by = record { none_owed = unowed sums.debt; adds_up = whole sums.sum }
    where
      sums : Accounts object came gone line held
      sums = accounts same told object lets by

      unowed : (pos 0 ≤ℤ line.free) ⊎ Owes object line held → pos 0 ≤ℤ line.free
      unowed (inl paid) = paid
      unowed (inr (inl more, less)) = omega (arith, ints, has.none_owed)
      unowed (inr (inr owed, less)) = absurd (true≢false (sym owed.0 ∙ lock))

      whole : line.free +ℤ pos (hand line held) +ℤ pos gone ≡ permits object +ℤ pos came → line.free +ℤ pos (hand line held) ≡ pos shares
      whole sum =
          let moves = only_moves lock by in
          same_sum line.free (hand line held) (permits object) (ap (λ n. line.free +ℤ pos (hand line held) +ℤ pos n) (sym moves.1) ∙ sum ∙ ap (λ n. permits object +ℤ pos n) moves.0) ∙ has.adds_up
        where
          same_sum : (z : ℤ) (h : ℕ) (s : ℤ) → z +ℤ pos h +ℤ pos 0 ≡ s +ℤ pos 0 → z +ℤ pos h ≡ s
          same_sum z h s e = omega (arith, ints)

  pub shares-by : KeepsShares object → {back : Effect (Tag K)} {came gone : ℕ} {who : Option K} {line : Line (Tag K)} {held : List (Entry (Tag K))} {closed : Bool} {ended : List (Entry (Tag K))}
      → Becomes same object back came gone who line held closed ended
      → KeepsShares (record object { line = record line { wakes = [] }; held = held; closed = closed; ended = ended })
  shares-by is {line = line} {held = held} {closed = closed} {ended = ended} by = go object.kind refl is
    where
      go : (kind : Kind) → kind ≡ object.kind → IfSome (share_count kind) (HasShares object) → IfSome (share_count kind) (HasShares (record object { line = record line { wakes = [] }; held = held; closed = closed; ended = ended }))
      go Semaphore kind has = tt
      go Mutex kind has = shares_kept (ap (λ k. is_of k Permit) (sym kind)) 1 has by
      go (ReaderWriter max) kind has = shares_kept (ap (λ k. is_of k Permit) (sym kind)) max has by

-- what is in hand of a lock is no more than there is
all_fit : {N : Type 0} (object : Object N) (shares : ℕ) → HasShares object shares → total (in_hand object) ≤ shares
all_fit object shares has =
    let sum = total-append object.line.granted object.held in
    let few = under object.line.free (hand object.line object.held) has.none_owed has.adds_up in
    omega arith
  where
    under : (z : ℤ) (h : ℕ) → pos 0 ≤ℤ z → z +ℤ pos h ≡ pos shares → h ≤ shares
    under z h unowed sum = omega (arith, ints)

-- two facts of each
pub both_of_each : {A : Type 0} (P Q R : A → Type 0) → ((x : A) → P x → Q x → R x) → (xs : List A) → AllByRecursion P xs → AllByRecursion Q xs → AllByRecursion R xs
both_of_each P Q R both [] p q = tt
both_of_each P Q R both (x ∷ xs) p q = (both x p.0 q.0, both_of_each P Q R both xs p.1 q.1)

-- Entries that each ask for something: there are no more of them than they have, and one that has all there is is alone.
module _ {N : Type 0} where
  abbrev pub Asks : List (Entry N) → Type 0
  Asks entries = AllByRecursion (λ (e : Entry N). 0 < e.size) entries

  pub length-asks : (entries : List (Entry N)) → Asks entries → length entries ≤ total entries
  length-asks [] asks = omega arith
  length-asks (e ∷ es) asks =
      let first : 0 < e.size = asks.0 in
      let rest : length es ≤ total es = length-asks es asks.1 in
      let sum : total (e ∷ es) ≡ e.size + total es = total-cons e es in
      omega arith

  none_left : (entries : List (Entry N)) → Asks entries → total entries ≡ 0 → entries ≡ []
  none_left [] asks none = refl
  none_left (e ∷ es) asks none =
      let first : 0 < e.size = asks.0 in
      let sum : total (e ∷ es) ≡ e.size + total es = total-cons e es in
      absurd (omega arith)

  only : (before : List (Entry N)) (e : Entry N) (after : List (Entry N)) → before ≡ [] → after ≡ [] → before ++ e ∷ after ≡ e ∷ []
  only before e after none_before none_after = rw (none_before, none_after) refl

  -- the same along the list
  each_alone : (most : ℕ) (all before entries : List (Entry N)) → all ≡ before ++ entries → Asks before → Asks entries → total before + total entries ≤ most
      → AllByRecursion (λ (e : Entry N). most ≤ e.size → all ≡ e ∷ []) entries
  each_alone most all before [] is asks_before asks fits = tt
  each_alone most all before (e ∷ es) is asks_before asks fits =
      let sum : total (e ∷ es) ≡ e.size + total es = total-cons e es in (
        (λ has_all. is ∙ only before e es (none_left before asks_before (omega arith)) (none_left es asks.1 (omega arith))),
        each_alone most all (before ++ e ∷ []) es (is ∙ sym (append_assoc before (e ∷ []) es)) (all_of_both _ before (e ∷ []) asks_before (asks.0, tt)) asks.1
            (let grown : total (before ++ e ∷ []) ≡ total before + e.size = total-push before e in omega arith),
      )

  pub alone : (most : ℕ) (entries : List (Entry N)) → Asks entries → total entries ≤ most → AllByRecursion (λ (e : Entry N). most ≤ e.size → entries ≡ e ∷ []) entries
  alone most entries asks fits = each_alone most entries [] entries refl tt asks (omega arith)

-- What fits a lock asks for something, and a write for all of it.
module _ {K : Type 0} where
  asks_some : (kind : Kind) → is_of kind Permit ≡ false → HasAShare kind → (e : Entry (Tag K)) → Fits kind e.name.mode e.size → 0 < e.size
  asks_some kind lock lets e fits = go e.name.mode fits
    where
      sized : (kind : Kind) (mode : Mode) → is_of kind Permit ≡ false → HasAShare kind → is_of kind mode ≡ true → 0 < size_of kind mode
      sized Semaphore mode lock lets is = absurd (true≢false lock)
      sized Mutex mode lock lets is = omega arith
      sized (ReaderWriter max) Write lock lets is = lets
      sized (ReaderWriter max) mode lock lets is = omega arith

      go : (mode : Mode) → Fits kind mode e.size → 0 < e.size
      go Permit fits = absurd (true≢false (sym fits ∙ lock))
      go Lock fits = rw fits.1 (sized kind Lock lock lets fits.0)
      go Read fits = rw fits.1 (sized kind Read lock lets fits.0)
      go Write fits = rw fits.1 (sized kind Write lock lets fits.0)

  write_has_all : (max : ℕ) (all : List (Entry (Tag K))) (e : Entry (Tag K)) → Fits (ReaderWriter max) e.name.mode e.size → (max ≤ e.size → all ≡ e ∷ []) → e.name.mode ≡ Write → all ≡ e ∷ []
  write_has_all max all e fits alone writes =
      let whole : e.size ≡ max = (subst (λ mode. Fits (ReaderWriter max) mode e.size) writes fits).1 in
      alone (omega arith)

  exclusive_as : (kind : Kind) (object : Object (Tag K)) → HasAShare kind → IfSome (share_count kind) (HasShares object)
      → AllByRecursion (λ (e : Entry (Tag K)). Fits kind e.name.mode e.size) (in_hand object)
      → ExclusiveAs kind (in_hand object)
  exclusive_as Semaphore object lets has fit = tt
  exclusive_as Mutex object lets has fit =
      let few = length-asks (in_hand object) (all-weaker _ _ (asks_some Mutex refl lets) (in_hand object) fit) in
      let most = all_fit object 1 has in
      omega arith
  exclusive_as (ReaderWriter max) object lets has fit =
      both_of_each _ _ _ (write_has_all max (in_hand object)) (in_hand object) fit
      (alone max (in_hand object) (all-weaker _ _ (asks_some (ReaderWriter max) refl lets) (in_hand object) fit) (all_fit object max has))

  pub exclusive : (same : K → K → Bool) (object : Object (Tag K)) → HasAShare object.kind → KeepsShares object → IsOrderly same object → IsExclusive object
  exclusive same object lets has is =
      exclusive_as object.kind object lets has
      (all_of_both _ object.line.granted object.held
      (all_of_first _ object.line.granted (map entry_of object.line.waiting) (all_of_second _ object.ended (requests object.line) is.each_request)) is.each_held)
