-- What is free, granted and held: it adds up, and what is free falls below 0 by nothing but a reduction.
use Rattle.std.proofs.Common.{◌≡◌, ℕ, ◌+◌, ◌-◌, ◌<◌, ◌≤◌, ◌==◌, ◌||◌, ◌&&◌, min, Bool, true, false, List, [], ◌∷◌, ◌++◌, Option, Some, None, ℤ, pos, neg_ℤ, ◌+ℤ◌, ◌-ℤ◌, ◌≤ℤ◌, int_le, int_lt, ◌⊎◌, inl}
use Rattle.std.proofs.Common.{inr, refl, sym, ap, ap₂, ◌∙◌, subst, arith}
use Rattle.std.specs.Prelude.{unsigned_abs}
use Rattle.std.proofs.lemmas.Int.{ints}
use Rattle.std.proofs.lemmas.Bool.{cond_both, and_parts, eqb-true}
use Rattle.band_balance.specs.Line.{Entry, Waiting, Line, total, entry_of, settle_from, settle, take_permits, give_back, drained, entry_named, without, withdraw, cancel, poll_granted, is_served}
use Rattle.band_balance.specs.Line.{nobody_waits, u64_max}
use Rattle.band_balance.specs.Object.{Object, Permit, Read, Write, Tag, tag, is_of, size_of, change}
use Rattle.band_balance.specs.Rule.{has_name}
use Rattle.band_balance.specs.Laws.{permits, HasAShare}
use Rattle.band_balance.proofs.Held.{TellsApart, names_apart, total-push, total-change, other-change}
use Rattle.band_balance.proofs.Settle.{total-without, free-total-settle, free-total-give_back, free-total-cancel}
use Rattle.band_balance.proofs.Turns.{Becomes, stays, takes, joins, receives, rewakes, returns, ends, comes, goes, drains, forgets, splits, merges, lowers, tells, closes, Effect}

-- so much is free, granted and held before, and so much after: it adds up, and where something is owed afterwards, no more is than before
pub record Moves {N : Type 0} (line line' : Line N) (held held' : ℕ) : Type 0 where
  pub sum : line'.free +ℤ pos (total line'.granted + held') ≡ line.free +ℤ pos (total line.granted + held)
  pub debt : (pos 0 ≤ℤ line'.free) ⊎ ((line.free ≤ℤ line'.free) × (total line'.granted + held' ≤ total line.granted + held))

-- The numbers alone: z is free, g granted, h held.
pub settles_from : {N : Type 0} (free : ℤ) (waiting : List (Waiting N)) (granted : List (Entry N)) (wakes : List ℕ)
    → (pos 0 ≤ℤ (settle_from free waiting granted wakes).free) ⊎ ((settle_from free waiting granted wakes).free ≡ free)
settles_from free [] granted wakes = inr refl
settles_from {N} free (first ∷ rest) granted wakes =
    cond_both (int_le (pos first.size) free) _ _ (λ (line : Line N). (pos 0 ≤ℤ line.free) ⊎ (line.free ≡ free))
    (λ fits. further (enough first.size free fits) (settles_from (free -ℤ pos first.size) rest (granted ++ entry_of first ∷ []) (wakes ++ first.waker ∷ [])))
    (λ waits. inr refl)
  where
    enough : (n : ℕ) (z : ℤ) → int_le (pos n) z ≡ true → pos 0 ≤ℤ (z -ℤ pos n)
    enough n z fits = grind (arith, ints)

    further : {y z : ℤ} → pos 0 ≤ℤ z → (pos 0 ≤ℤ y) ⊎ (y ≡ z) → (pos 0 ≤ℤ y) ⊎ (y ≡ free)
    further unowed (inl paid) = inl paid
    further unowed (inr same) = inl (omega (arith, ints))

-- where a line settles from so much that is free, what is owed still is no more than before
settled_debt : (z y z' : ℤ) (g g₁ g' h h' : ℕ) → z ≤ℤ y → g₁ + h' ≤ g + h → z' +ℤ pos g' ≡ y +ℤ pos g₁ → (pos 0 ≤ℤ z') ⊎ (z' ≡ y)
    → (pos 0 ≤ℤ z') ⊎ ((z ≤ℤ z') × (g' + h' ≤ g + h))
settled_debt z y z' g g₁ g' h h' more less sum (inl paid) = inl paid
settled_debt z y z' g g₁ g' h h' more less sum (inr same) = inr (omega (arith, ints), omega (arith, ints))

-- a request that is served asks for nothing, or for no more than is free
pub served_fits : {N : Type 0} (n : ℕ) (line : Line N) → is_served n line ≡ true → (n ≡ 0) ⊎ (pos n ≤ℤ line.free)
served_fits n line served = go (n == 0) refl served
  where
    enough : int_le (pos n) line.free ≡ true → pos n ≤ℤ line.free
    enough h = grind (arith, ints)

    go : (zero : Bool) → (n == 0) ≡ zero → (zero || (nobody_waits line.waiting && int_le (pos n) line.free)) ≡ true → (n ≡ 0) ⊎ (pos n ≤ℤ line.free)
    go true is h = inl (eqb-true n 0 is)
    go false is h = inr (enough (and_parts (nobody_waits line.waiting) (int_le (pos n) line.free) h).1)

module _ {N : Type 0} (line : Line N) (held : ℕ) where
  pub moves_taken : (n : ℕ) → is_served n line ≡ true → Moves line (take_permits n line) held (held + n)
  moves_taken n served = record { sum = same line.free (total line.granted) n; debt = go (served_fits n line served) }
    where
      same : (z : ℤ) (g n : ℕ) → (z -ℤ pos n) +ℤ pos (g + (held + n)) ≡ z +ℤ pos (g + held)
      same z g n = omega (arith, ints)

      go : (n ≡ 0) ⊎ (pos n ≤ℤ line.free) → (pos 0 ≤ℤ (line.free -ℤ pos n)) ⊎ ((line.free ≤ℤ (line.free -ℤ pos n)) × (total line.granted + (held + n) ≤ total line.granted + held))
      go (inl none) = inr (omega (arith, ints), omega arith)
      go (inr enough) = inl (omega (arith, ints))

  given_back_debt : (n : ℕ) → (pos 0 ≤ℤ (give_back n line).free) ⊎ ((line.free ≤ℤ (give_back n line).free) × (total (give_back n line).granted + held ≤ total line.granted + held))
  given_back_debt n =
      settled_debt line.free (line.free +ℤ pos n) (give_back n line).free (total line.granted) (total line.granted) (total (give_back n line).granted) held held
      (more line.free) (omega arith) (free-total-give_back n line) (settles_from (line.free +ℤ pos n) line.waiting line.granted line.wakes)
    where
      more : (z : ℤ) → z ≤ℤ (z +ℤ pos n)
      more z = omega (arith, ints)

  pub moves_given_back : (n : ℕ) → Moves line (give_back n line) (held + n) held
  moves_given_back n = record {
    sum = same line.free (give_back n line).free (total line.granted) (total (give_back n line).granted) (free-total-give_back n line);
    debt = go (given_back_debt n);
  }
    where
      same : (z z' : ℤ) (g g' : ℕ) → z' +ℤ pos g' ≡ z +ℤ pos n +ℤ pos g → z' +ℤ pos (g' + held) ≡ z +ℤ pos (g + (held + n))
      same z z' g g' e = omega (arith, ints)

      go : (pos 0 ≤ℤ (give_back n line).free) ⊎ ((line.free ≤ℤ (give_back n line).free) × (total (give_back n line).granted + held ≤ total line.granted + held))
          → (pos 0 ≤ℤ (give_back n line).free) ⊎ ((line.free ≤ℤ (give_back n line).free) × (total (give_back n line).granted + held ≤ total line.granted + (held + n)))
      go (inl paid) = inl paid
      go (inr less) = inr (less.0, omega (arith, less.1))

  pub moves_cancelled : (is : N → Bool) → Moves line (cancel is line) held held
  moves_cancelled is = record {
    sum = same line.free (cancel is line).free (total line.granted) (total (cancel is line).granted) (free-total-cancel is line);
    debt = go (entry_named is line.granted) refl;
  }
    where
      same : (z z' : ℤ) (g g' : ℕ) → z' +ℤ pos g' ≡ z +ℤ pos g → z' +ℤ pos (g' + held) ≡ z +ℤ pos (g + held)
      same z z' g g' e = omega (arith, ints)

      Owes : Line N → Type 0
      Owes after = (pos 0 ≤ℤ after.free) ⊎ ((line.free ≤ℤ after.free) × (total after.granted + held ≤ total line.granted + held))

      settles : (after : Line N) → line.free ≤ℤ after.free → total after.granted ≤ total line.granted → Owes (settle after)
      settles after more fewer =
          settled_debt line.free after.free (settle after).free (total line.granted) (total after.granted) (total (settle after).granted) held held
          more (omega arith) (free-total-settle after) (settles_from after.free after.waiting after.granted after.wakes)

      go : (found : Option (Entry N)) → entry_named is line.granted ≡ found → Owes (settle (withdraw found is line))
      go (Some entry) there =
          let left = total-without is line.granted entry there in
          settles (withdraw (Some entry) is line) (omega (arith, ints)) (omega (arith, left))
      go None there = settles (withdraw None is line) (omega (arith, ints)) (omega arith)

  pub moves_received : (is : N → Bool) (entry : Entry N) → entry_named is line.granted ≡ Some entry → Moves line (poll_granted is line) held (held + entry.size)
  moves_received is entry there = record {
    sum = same line.free (total line.granted) (total (without is line.granted)) left;
    debt = inr (omega (arith, ints), omega (arith, left));
  }
    where
      left : entry.size + total (without is line.granted) ≡ total line.granted
      left = total-without is line.granted entry there

      same : (z : ℤ) (g w : ℕ) → entry.size + w ≡ g → z +ℤ pos (w + (held + entry.size)) ≡ z +ℤ pos (g + held)
      same z g w e = omega (arith, ints)

-- a drain takes no more than is free
drained_fits : {N : Type 0} (n : ℕ) (line : Line N) → (drained n line ≡ 0) ⊎ (pos (drained n line) ≤ℤ line.free)
drained_fits n line =
    cond_both (nobody_waits line.waiting && int_lt (pos 0) line.free) _ _ (λ k. (min n k ≡ 0) ⊎ (pos (min n k) ≤ℤ line.free))
    (λ some. inr (least n line.free (and_parts (nobody_waits line.waiting) (int_lt (pos 0) line.free) some).1))
    (λ none. inl (omega arith))
  where
    least : (n : ℕ) (z : ℤ) → int_lt (pos 0) z ≡ true → pos (min n (unsigned_abs z)) ≤ℤ z
    least n z some = grind (arith, ints)

-- An object: it adds up with what was brought and what was taken away for good. What is owed afterwards is no more than before, or no
-- more than a reduction leaves, and then no more is in hand.
abbrev pub hand : {N : Type 0} → Line N → List (Entry N) → ℕ
hand line held = total line.granted + total held

abbrev pub Owes : {N : Type 0} → Object N → Line N → List (Entry N) → Type 0
Owes object line held =
    ((object.line.free ≤ℤ line.free) ⊎ ((is_of object.kind Permit ≡ true) × (neg_ℤ (pos u64_max) ≤ℤ line.free)))
    × (hand line held ≤ hand object.line object.held)

pub record Accounts {N : Type 0} (object : Object N) (came gone : ℕ) (line : Line N) (held : List (Entry N)) : Type 0 where
  pub sum : line.free +ℤ pos (hand line held) +ℤ pos gone ≡ permits object +ℤ pos came
  pub debt : (pos 0 ≤ℤ line.free) ⊎ Owes object line held

-- The numbers alone.
no_change : (z z' : ℤ) (h h' : ℕ) → z' +ℤ pos h' ≡ z +ℤ pos h → z' +ℤ pos h' +ℤ pos 0 ≡ z +ℤ pos h +ℤ pos 0
no_change z z' h h' e = omega (arith, ints)

came_in : (z z' : ℤ) (g g' h n : ℕ) → z' +ℤ pos (g' + h) ≡ z +ℤ pos (g + (h + n)) → z' +ℤ pos (g' + h) +ℤ pos 0 ≡ z +ℤ pos (g + h) +ℤ pos n
came_in z z' g g' h n e = omega (arith, ints)

went_out : (z : ℤ) (h n : ℕ) → (z -ℤ pos n) +ℤ pos h +ℤ pos n ≡ z +ℤ pos h +ℤ pos 0
went_out z h n = omega (arith, ints)

not_too_much : (z : ℤ) (n : ℕ) → int_lt (z -ℤ pos n) (neg_ℤ (pos u64_max)) ≡ false → neg_ℤ (pos u64_max) ≤ℤ (z -ℤ pos n)
not_too_much z n e = grind (arith, ints)

ended_in_hand : (z : ℤ) (g h h' n : ℕ) → n + h' ≡ h → z +ℤ pos (g + h') +ℤ pos n ≡ z +ℤ pos (g + h) +ℤ pos 0
ended_in_hand z g h h' n e = omega (arith, ints)

least : (z : ℤ) → z ≤ℤ z
least z = omega (arith, ints)

module _ {N : Type 0} (object : Object N) where
  moved : (line : Line N) (held : List (Entry N)) (h h' : ℕ) → total object.held ≡ h → total held ≡ h' → Moves object.line line h h' → Accounts object 0 0 line held
  moved line held h h' was is moves = record {
    sum = no_change object.line.free line.free (hand object.line object.held) (hand line held)
        (ap (λ k. line.free +ℤ pos (total line.granted + k)) is ∙ moves.sum ∙ ap (λ k. object.line.free +ℤ pos (total object.line.granted + k)) (sym was));
    debt = go moves.debt;
  }
    where
      go : (pos 0 ≤ℤ line.free) ⊎ ((object.line.free ≤ℤ line.free) × (total line.granted + h' ≤ total object.line.granted + h)) → (pos 0 ≤ℤ line.free) ⊎ Owes object line held
      go (inl paid) = inl paid
      go (inr less) = inr (inl less.0, omega (arith, less.1))

  -- what is free and granted stays, and as much is held
  unmoved : (line : Line N) (held : List (Entry N)) → line.free ≡ object.line.free → line.granted ≡ object.line.granted → total held ≡ total object.held → Accounts object 0 0 line held
  unmoved line held frees grants is =
      moved line held (total object.held) (total object.held) refl is
      (record {
        sum = ap₂ (λ z (es : List (Entry N)). z +ℤ pos (total es + total object.held)) frees grants;
        debt = inr (
          subst (λ z. object.line.free ≤ℤ z) (sym frees) (least object.line.free),
          subst (λ (es : List (Entry N)). total es + total object.held ≤ hand object.line object.held) (sym grants) (omega arith),
        );
      })

module _ {K : Type 0} (same : K → K → Bool) (told : TellsApart same) (object : Object (Tag K)) (lets : HasAShare object.kind) where
  or_less : {z : ℤ} {h : ℕ} → (pos 0 ≤ℤ z) ⊎ ((object.line.free ≤ℤ z) × (h ≤ hand object.line object.held))
      → (pos 0 ≤ℤ z) ⊎ (((object.line.free ≤ℤ z) ⊎ ((is_of object.kind Permit ≡ true) × (neg_ℤ (pos u64_max) ≤ℤ z))) × (h ≤ hand object.line object.held))
  or_less (inl paid) = inl paid
  or_less (inr less) = inr (inl less.0, less.1)

  none_below : {n : ℕ} → (n ≡ 0) ⊎ (pos n ≤ℤ object.line.free) → (pos 0 ≤ℤ (object.line.free -ℤ pos n)) ⊎ Owes object (take_permits n object.line) object.held
  none_below (inl none) = inr (inl (omega (arith, ints)), omega arith)
  none_below (inr enough) = inl (omega (arith, ints))

  pub accounts : {back : Effect (Tag K)} {came gone : ℕ} {who : Option K} {line : Line (Tag K)} {held : List (Entry (Tag K))} {closed : Bool} {ended : List (Entry (Tag K))} → Becomes same object back came gone who line held closed ended
      → Accounts object came gone line held
  accounts stays = unmoved object object.line object.held refl refl refl
  accounts (takes made size served fits) =
      moved object _ _ (total object.held) (total object.held + size) refl (total-push object.held (record { name = made; size = size })) (moves_taken object.line (total object.held) size served)
  accounts (joins made size waker waits may) = unmoved object _ _ refl refl refl
  accounts (receives name entry there) =
      moved object _ _ (total object.held) (total object.held + entry.size) refl (total-push object.held entry) (moves_received object.line (total object.held) (has_name same name) entry there)
  accounts (rewakes name waker) = unmoved object _ _ refl refl refl
  accounts (tells name) = unmoved object _ _ refl refl refl
  accounts (closes permits) = unmoved object _ _ refl refl refl
  accounts (returns name entry there) =
      let left = total-without (has_name same name) object.held entry there in
      moved object _ _ (total (without (has_name same name) object.held) + entry.size) (total (without (has_name same name) object.held)) (omega arith) refl
      (moves_given_back object.line (total (without (has_name same name) object.held)) entry.size)
  accounts (ends name) = moved object _ _ (total object.held) (total object.held) refl refl (moves_cancelled object.line (total object.held) (has_name same name))
  accounts (comes n fits under) = record {
    sum = came_in object.line.free (give_back n object.line).free (total object.line.granted) (total (give_back n object.line).granted) (total object.held) n
        (moves_given_back object.line (total object.held) n).sum;
    debt = or_less (given_back_debt object.line (total object.held) n);
  }
  accounts (goes n fits over) = record {
    sum = went_out object.line.free (hand object.line object.held) n;
    debt = inr (inr (fits, not_too_much object.line.free n over), omega arith);
  }
  accounts (drains n fits) = record { sum = went_out object.line.free (hand object.line object.held) (drained n object.line); debt = none_below (drained_fits n object.line) }
  accounts (forgets name it) =
      let left = total-without (has_name same name) object.held it.entry it.there in
      record {
        sum = ended_in_hand object.line.free (total object.line.granted) (total object.held) (total (without (has_name same name) object.held)) it.entry.size left;
        debt = inr (inl (least object.line.free), omega arith);
      }
  accounts (splits name made n it enough) =
      let to = λ (e : Entry (Tag K)). record e { size = it.entry.size - n } in
      let parts = total-change (has_name same name) to object.held it.entry it.there in
      let all = total-push (change (has_name same name) to object.held) (record { name = tag Permit made; size = n }) in
      unmoved object _ _ refl refl (omega arith)
  accounts (merges kept spent it other apart) =
      let to = λ (e : Entry (Tag K)). record e { size = it.entry.size + other.entry.size } in
      let grown = total-change (has_name same kept) to object.held it.entry it.there in
      let still = other-change (has_name same kept) (has_name same spent) to object.held (names_apart same told kept spent apart object.held) (λ e h. h) ∙ other.there in
      let left = total-without (has_name same spent) (change (has_name same kept) to object.held) other.entry still in
      unmoved object _ _ refl refl (omega arith)
  accounts (lowers name max kind it) =
      let to = λ (e : Entry (Tag K)). let lowered : Entry (Tag K) = record { name = tag Read name; size = 1 } in lowered in
      let parts = total-change (has_name same name) to object.held it.entry it.there in
      let whole : it.entry.size ≡ max = it.fits.1 ∙ ap (λ k. size_of k Write) kind in
      let some : 0 < max = subst HasAShare kind lets in
      moved object _ _ (total (change (has_name same name) to object.held) + (max - 1)) (total (change (has_name same name) to object.held)) (omega arith) refl
      (moves_given_back object.line (total (change (has_name same name) to object.held)) (max - 1))
