-- What a store does by its row: what each call of the row makes of the line that it stands for, and of the counts beside it.
use Rattle.std.proofs.Common.{◌≡◌, ℕ, ◌+◌, ◌-◌, ◌<◌, ◌≤◌, Bool, true, false, cond, List, [], ◌∷◌, ◌++◌, map, ℤ, pos, neg_ℤ, ◌+ℤ◌, ◌-ℤ◌, ◌≤ℤ◌, int_le, int_lt}
use Rattle.std.proofs.Common.{Option, Some, None, ◌⊎◌, inl, inr, refl, sym, ap, ◌∙◌, subst, arith}
use Rattle.std.proofs.lemmas.Bool.{cond_both, cond-true, cond-false, le-leb, lt-leb}
use Rattle.std.proofs.lemmas.Int.{ints}
use Rattle.std.proofs.lemmas.List.Sums.{sum_by-cons, sum_by_push}
use Rattle.band_balance.specs.Line.{Entry, Waiting, Line, AreAlike, entry_of, entry_named, total, without, available, overflows, owes_too_much, settle, settle_from, withdraw, is_served, give_back, cancel, u64_max}
use Rattle.band_balance.specs.Line.{requests, add_permits, end_waiting, leave_waker, without_waiting}
use Rattle.band_balance.proofs.Alike.{alike_equal, total-alike}
use Rattle.band_balance.proofs.Orderly.{none-settle, none-cancel}
use Rattle.band_balance.proofs.Settle.{total-append, total-without, free-total-give_back, free-total-cancel}
use Rattle.band_partial.specs.PartialLine.{Node, PartialLine, AreAlikeParts, IsSettled, StandsFor, line_of, free_of, request, debt, is_debt, debts}
use Rattle.band_partial.specs.Moves.{draw, enqueue, owe, collect, leave_new_waker, pass_on, cancel_request, with_waker}
use Rattle.band_partial.proofs.Follows.{no_word, available-shown, draw-shown, owe-shown, enqueue-shown, pass_on-shown, collect-shown, leave_new_waker-shown, cancel-shown}
use Rattle.band_partial.proofs.Ending.{ended-stands}
use Rattle.band_partial.proofs.Nodes.{by_nodes}
use Rattle.band_partial.proofs.Order.{line-alike}
use Rattle.band_row.specs.Row.{RowState, IsRow, SameEnded, EndedLeaves, EndsAll, Cancels, CancelsAs, ended_of, part}
use Rattle.band_row.proofs.Linked.{asked-distinct}
use Rattle.band_sem.specs.declared.store.Store.{Store}
use Rattle.band_sem.specs.Semaphore.{SemaphoreState, IsLike, EndsAs, is_slot, new_debts, taken, reduced, joined, received, told, shut, with_waker as with_new_waker}
use Rattle.band_sem.proofs.Slots.{stands_once, without-nobody}
use Rattle.band_balance.proofs.Requests.{not_in_front}
use Rattle.band_sem.specs.Kept.Store.{CountsFit, IsSound, state_of, line_in}

-- the state that a partial line stands for, beside what a store keeps
abbrev state_at : ℕ → ℕ → Bool → List (Entry ℕ) → PartialLine → SemaphoreState
state_at number held closed ended line = record { number = number; line = line_of line; held = held; debts = debts line.nodes; closed = closed; ended = ended }

-- the line is the one that the partial line stands for, there are so many debts, and these were ended
state_is : (number held : ℕ) (closed : Bool) {line : Line ℕ} {partial : PartialLine} {owing : ℕ} {ended ended' : List (Entry ℕ)} → StandsFor line partial → debts partial.nodes ≡ owing → ended' ≡ ended
    → state_at number held closed ended' partial ≡ record { number = number; line = line; held = held; debts = owing; closed = closed; ended = ended }
state_is number held closed stands many same = λ i. record { number = number; line = stands.shown i; held = held; debts = many i; closed = closed; ended = same i }

-- a partial line that is alike to one that stands for a line
alike_is : {line : Line ℕ} {one other : PartialLine} → StandsFor line one → AreAlikeParts one other → AreAlike line (line_of other)
alike_is {line} {one} {other} stands alike = subst (λ (l : Line ℕ). AreAlike l (line_of other)) stands.shown (line-alike one other alike)

-- What is left of a line as it settles.
-- one that asks for no more than is free is granted
CountsFit-grant : (held size : ℕ) (free : ℤ) (granted granted' : ℕ) → int_le (pos size) free ≡ true → granted' ≡ granted + size → CountsFit held free granted → CountsFit held (free -ℤ pos size) granted'
CountsFit-grant held size free granted granted' fits more h = record {
  in_hand = grind (arith, ints, h.in_hand, h.in_all);
  in_all = grind (arith, ints, h.in_all);
  owed = grind (arith, ints);
}

one_more : (entries : List (Entry ℕ)) (e : Entry ℕ) → total (entries ++ e ∷ []) ≡ total entries + e.size
one_more entries e = grind (arith, total-append)

CountsFit-settle_from : (held : ℕ) (free : ℤ) (waiting : List (Waiting ℕ)) (granted : List (Entry ℕ)) (wakes : List ℕ) → CountsFit held free (total granted) →
    CountsFit held (settle_from free waiting granted wakes).free (total (settle_from free waiting granted wakes).granted)
CountsFit-settle_from held free [] granted wakes h = h
CountsFit-settle_from held free (first ∷ rest) granted wakes h =
    cond_both (int_le (pos first.size) free) _ _ (λ (line : Line ℕ). CountsFit held line.free (total line.granted))
    (λ e. CountsFit-settle_from held (free -ℤ pos first.size) rest (granted ++ entry_of first ∷ []) (wakes ++ first.waker ∷ [])
    (CountsFit-grant held first.size free (total granted) (total (granted ++ entry_of first ∷ [])) e (one_more granted (entry_of first)) h))
    (λ e. h)

-- What holds of a store holds of the line that it stands for, and the other way round.
abbrev Fits : ℕ → Line ℕ → Type 0
Fits held line = CountsFit held line.free (total line.granted)

sound_at : (store : Store) {line : Line ℕ} → IsRow store.row → IsSettled (part store.row) → AreAlike line (line_in store) → store.free ≡ line.free → Fits store.held line
    → EndsAs store.closed (ended_of store.row.list) line.waiting → IsSound store
sound_at store {line} is_row settled alike free fit closing = record {
  row = is_row;
  settled = settled;
  free = free ∙ sym alike.free;
  fit = subst (λ (f : ℤ). CountsFit store.held f (total (line_in store).granted)) (sym alike.free)
      (subst (λ (t : ℕ). CountsFit store.held line.free t) (sym (total-alike line (line_in store) alike)) fit);
  closing = subst (EndsAs store.closed (ended_of store.row.list)) (sym alike.waiting) closing;
}

-- what is known of a store after a call: what it stands for, and that it is sound
pub record Becomes (state : SemaphoreState) (store : Store) : Type 0 where
  pub is : state_of store ≡ state
  pub sound : IsSound store

becomes : (store : Store) {line : Line ℕ} {partial : PartialLine} {owing : ℕ} {ended : List (Entry ℕ)} → IsRow store.row → part store.row ≡ partial → StandsFor line partial → debts partial.nodes ≡ owing
    → ended_of store.row.list ≡ ended → store.free ≡ line.free → Fits store.held line → EndsAs store.closed ended line.waiting
    → Becomes (record { number = store.number; line = line; held = store.held; debts = owing; closed = store.closed; ended = ended }) store
becomes store {line} {partial} is_row same stands many gone free fit closing = record {
  is = state_is store.number store.held store.closed here (ap (λ (p : PartialLine). debts p.nodes) same ∙ many) gone;
  sound = sound_at store is_row here.settled (alike_equal line (line_in store) here.shown) free fit (subst (λ (es : List (Entry ℕ)). EndsAs store.closed es line.waiting) (sym gone) closing);
}
  where
    here : StandsFor line (part store.row)
    here = subst (StandsFor line) (sym same) stands

-- How many debts there are after a move.
abbrev counts : Node → ℕ
counts node = cond (is_debt node) 1 0

debts-joined : (slot size waker : ℕ) (partial : PartialLine) → debts (enqueue slot size waker partial).nodes ≡ debts partial.nodes
debts-joined slot size waker partial = none_more (debts partial.nodes) _ (sum_by_push counts partial.nodes (request slot size (size - partial.word) waker))
  where
    none_more : (n m : ℕ) → m ≡ n + 0 → m ≡ n
    none_more n m e = omega arith

debts-owed : (slot n : ℕ) (partial : PartialLine) → partial.word < n → debts (owe slot n partial).nodes ≡ debts partial.nodes + 1
debts-owed slot n partial more =
    ap (λ (p : PartialLine). debts p.nodes) (cond-false _ _ _ (lt-leb n partial.word more))
    ∙ one_more (debts partial.nodes) _ (sum_by-cons counts (debt slot n (n - partial.word)) partial.nodes)
  where
    one_more : (n m : ℕ) → m ≡ 1 + n → m ≡ n + 1
    one_more n m e = omega arith

debts-waker : (is : ℕ → Bool) (waker : ℕ) (nodes : List Node) → debts (with_waker is waker nodes) ≡ debts nodes
debts-waker is waker = by_nodes (λ nodes. debts (with_waker is waker nodes) ≡ debts nodes) refl
    (λ slot size needed rest before. as_before (debt slot size needed) (with_waker is waker rest) rest before)
    (λ slot size needed old rest before. by_test slot size needed old rest before (is slot))
  where
    as_before : (first : Node) (xs ys : List Node) → debts xs ≡ debts ys → debts (first ∷ xs) ≡ debts (first ∷ ys)
    as_before first xs ys same = sum_by-cons counts first xs ∙ ap (λ (n : ℕ). counts first + n) same ∙ sym (sum_by-cons counts first ys)

    by_test : (slot size needed old : ℕ) (rest : List Node) → debts (with_waker is waker rest) ≡ debts rest → (b : Bool)
        → debts (cond b (request slot size needed waker ∷ rest) (request slot size needed old ∷ with_waker is waker rest)) ≡ debts (request slot size needed old ∷ rest)
    by_test slot size needed old rest before true = sum_by-cons counts (request slot size needed waker) rest ∙ sym (sum_by-cons counts (request slot size needed old) rest)
    by_test slot size needed old rest before false = as_before (request slot size needed old) (with_waker is waker rest) rest before

none_new : (n : ℕ) (line : Line ℕ) (owing : ℕ) → n ≤ available line → owing ≡ owing + new_debts n line
none_new n line owing there = none owing (new_debts n line) (cond-true _ _ _ (le-leb n (available line) there))
  where
    none : (owing new : ℕ) → new ≡ 0 → owing ≡ owing + new
    none owing new e = omega arith

one_new : (n : ℕ) (line : Line ℕ) → available line < n → new_debts n line ≡ 1
one_new n line more = cond-false _ _ _ (lt-leb n (available line) more)

-- What is taken of the word is free, so the counts still fit.
taken_fits : (partial : PartialLine) → IsSettled partial → (n : ℕ) → n ≤ partial.word → (n ≡ 0) ⊎ (pos n ≤ℤ (line_of partial).free)
taken_fits partial settled n there = go partial.nodes settled.given_out
  where
    all : (word : ℕ) → n ≤ word → pos n ≤ℤ (pos (word + 0) -ℤ pos 0)
    all word there = omega (arith, ints)

    none : (word : ℕ) → n ≤ word → word ≡ 0 → n ≡ 0
    none word there empty = omega arith

    go : (nodes : List Node) → (0 < partial.word → nodes ≡ []) → (n ≡ 0) ⊎ (pos n ≤ℤ free_of partial.word nodes)
    go [] out = inr (all partial.word there)
    go (first ∷ rest) out = inl (none partial.word there (no_word partial.word first rest out))

CountsFit-taken : (held n : ℕ) (free : ℤ) (granted : ℕ) → (n ≡ 0) ⊎ (pos n ≤ℤ free) → CountsFit held free granted → CountsFit held (free -ℤ pos n) granted
CountsFit-taken held n free granted fits h = elim fits [
  | inl none ↦ record { in_hand = h.in_hand; in_all = omega (arith, ints, h.in_all); owed = omega (arith, ints, h.owed, none) }
  | inr some ↦ record { in_hand = h.in_hand; in_all = omega (arith, ints, h.in_all); owed = omega (arith, ints, some) }
]

CountsFit-served : (held n : ℕ) (free : ℤ) (granted : ℕ) → (n ≡ 0) ⊎ (pos n ≤ℤ free) → CountsFit held free granted → CountsFit (held + n) (free -ℤ pos n) granted
CountsFit-served held n free granted fits h = elim fits [
  | inl none ↦ record { in_hand = omega (arith, h.in_hand, none); in_all = omega (arith, ints, h.in_all); owed = omega (arith, ints, h.owed, none) }
  | inr some ↦ record { in_hand = omega (arith, ints, h.in_all, some); in_all = omega (arith, ints, h.in_all); owed = omega (arith, ints, some) }
]

-- of an open one nobody is ended, whoever waits
closing_open : (closed : Bool) (ended : List (Entry ℕ)) (waiting waiting' : List (Waiting ℕ)) → closed ≡ false → EndsAs closed ended waiting → EndsAs closed ended waiting'
closing_open false ended waiting waiting' is none = none
closing_open true ended waiting waiting' is none = cc

closing_waker : (closed : Bool) (ended : List (Entry ℕ)) (waiting : List (Waiting ℕ)) (is : ℕ → Bool) (waker : ℕ) → EndsAs closed ended waiting → EndsAs closed ended (leave_waker is waker waiting)
closing_waker false ended waiting is waker none = none
closing_waker true ended waiting is waker none = ap (leave_waker is waker) none

closing_told : (closed : Bool) (ended : List (Entry ℕ)) (waiting : List (Waiting ℕ)) (is : ℕ → Bool) → EndsAs closed ended waiting → EndsAs closed (without is ended) waiting
closing_told false ended waiting is none = ap (without is) none
closing_told true ended waiting is none = none

-- What a call makes of a sound store, whose row it moves.
module _ (old : Store) (sound : IsSound old) (row : RowState) (is_row : IsRow row) where
  abbrev partial : PartialLine
  partial = part old.row

  abbrev moved : ℤ → ℕ → Store
  moved free held = record { free = free; number = old.number; held = held; row = row; closed = old.closed }

  pub hears : (slot : ℕ) → EndedLeaves slot old.row row → Becomes (told slot (state_of old)) (moved old.free old.held)
  hears slot leaves =
      becomes (moved old.free old.held) is_row leaves.0 (record { shown = refl; settled = sound.settled }) refl leaves.1 sound.free sound.fit
      (closing_told old.closed (ended_of old.row.list) (line_in old).waiting (is_slot slot) sound.closing)

  -- where no more and no fewer are ended
  module _ (gone : SameEnded old.row row) where
    pub draws : (n : ℕ) (free : ℤ) → n ≤ old.row.word → part row ≡ draw n partial → free ≡ old.free -ℤ pos n → Becomes (reduced n (state_of old)) (moved free old.held)
    draws n free there same less =
        becomes (moved free old.held) is_row same (draw-shown partial sound.settled n there)
        (none_new n (line_in old) (debts partial.nodes) (rw (available-shown partial sound.settled) there)) gone
        (less ∙ ap (λ (z : ℤ). z -ℤ pos n) sound.free)
        (CountsFit-taken old.held n (line_in old).free (total (line_in old).granted) (taken_fits partial sound.settled n there) sound.fit) sound.closing

    pub serves : (n : ℕ) (free : ℤ) → n ≤ old.row.word → part row ≡ draw n partial → free ≡ old.free -ℤ pos n → Becomes (taken n (state_of old)) (moved free (old.held + n))
    serves n free there same less =
        becomes (moved free (old.held + n)) is_row same (draw-shown partial sound.settled n there) refl gone
        (less ∙ ap (λ (z : ℤ). z -ℤ pos n) sound.free)
        (CountsFit-served old.held n (line_in old).free (total (line_in old).granted) (taken_fits partial sound.settled n there) sound.fit) sound.closing

    pub owes : (slot n : ℕ) (free : ℤ) → available (line_in old) < n → owes_too_much n (line_in old) ≡ false → part row ≡ owe slot n partial → free ≡ old.free -ℤ pos n
        → Becomes (reduced n (state_of old)) (moved free old.held)
    owes slot n free more within same less =
        becomes (moved free old.held) is_row same (owe-shown partial sound.settled slot n)
        (debts-owed slot n partial (rw (← available-shown partial sound.settled) more) ∙ ap (λ (k : ℕ). debts partial.nodes + k) (sym (one_new n (line_in old) more))) gone
        (less ∙ ap (λ (z : ℤ). z -ℤ pos n) sound.free)
        (CountsFit-owed (line_in old).free (total (line_in old).granted) within sound.fit) sound.closing
      where
        CountsFit-owed : (z : ℤ) (granted : ℕ) → int_lt (z -ℤ pos n) (neg_ℤ (pos u64_max)) ≡ false → CountsFit old.held z granted → CountsFit old.held (z -ℤ pos n) granted
        CountsFit-owed z granted within h = record { in_hand = h.in_hand; in_all = omega (arith, ints, h.in_all); owed = grind (arith, ints, within) }

    pub joins : (slot size waker : ℕ) → old.closed ≡ false → is_served size (line_in old) ≡ false → part row ≡ enqueue slot size waker partial
        → Becomes (joined slot size waker (state_of old)) (moved old.free old.held)
    joins slot size waker is_open waits same =
        becomes (moved old.free old.held) is_row same (enqueue-shown partial sound.settled slot size waker waits) (debts-joined slot size waker partial) gone sound.free sound.fit
        (closing_open old.closed (ended_of old.row.list) (line_in old).waiting _ is_open sound.closing)

    pub receives : (slot size : ℕ) → entry_named (is_slot slot) partial.granted ≡ Some (record { name = slot; size = size }) → part row ≡ collect (is_slot slot) partial
        → Becomes (received slot size (state_of old)) (moved old.free (old.held + size))
    receives slot size there same =
        becomes (moved old.free (old.held + size)) is_row same (collect-shown partial sound.settled (is_slot slot)) refl gone sound.free
        (CountsFit-received (line_in old).free (total partial.granted) (total (without (is_slot slot) partial.granted)) (total-without (is_slot slot) partial.granted _ there) sound.fit) sound.closing
      where
        CountsFit-received : (z : ℤ) (granted others : ℕ) → size + others ≡ granted → CountsFit old.held z granted → CountsFit (old.held + size) z others
        CountsFit-received z granted others sum h = record { in_hand = omega (arith, h.in_hand, sum); in_all = omega (arith, ints, h.in_all, sum); owed = h.owed }

    pub leaves_waker : (slot waker : ℕ) → part row ≡ leave_new_waker (is_slot slot) waker partial → Becomes (with_new_waker slot waker (state_of old)) (moved old.free old.held)
    leaves_waker slot waker same =
        becomes (moved old.free old.held) is_row same (leave_new_waker-shown partial sound.settled (is_slot slot) waker) (debts-waker (is_slot slot) waker partial.nodes) gone sound.free sound.fit
        (closing_waker old.closed (ended_of old.row.list) (line_in old).waiting (is_slot slot) waker sound.closing)

  -- where all that wait are ended
  pub closes : (free : ℤ) → free ≡ old.free → EndsAll old.row row → IsSettled (part row)
      → IsLike (shut (state_of old)) (state_of (record old { row = row; closed = true })) × IsSound (record old { row = row; closed = true })
  closes free same ends settled =
      let shown = ended-stands partial sound.settled ends.slot in
      let alike : AreAlike (end_waiting (line_in old)) (line_of (part row)) = alike_equal _ _ (ap line_of ends.becomes ∙ shown.shown) in (
        record { number = refl; line = alike; held = refl; closed = refl; ended = ends.ended },
        sound_at (record old { row = row; closed = true }) is_row settled alike sound.free sound.fit refl,
      )

-- A line that is alike to another, beside what is held.
module _ {line other : Line ℕ} (alike : AreAlike line other) (held : ℕ) where
  fits_alike : Fits held line → Fits held other
  fits_alike fit =
      subst (λ (f : ℤ). CountsFit held f (total other.granted)) (sym alike.free)
      (subst (λ (t : ℕ). CountsFit held line.free t) (sym (total-alike line other alike)) fit)

  all_alike : other.free +ℤ pos (total other.granted + held) ≡ line.free +ℤ pos (total line.granted + held)
  all_alike =
      ap (λ (f : ℤ). f +ℤ pos (total other.granted + held)) alike.free
      ∙ ap (λ (t : ℕ). line.free +ℤ pos (t + held)) (total-alike line other alike)

-- What comes back fits where it does not overflow.
module _ (n held : ℕ) (line : Line ℕ) (within : overflows n line held ≡ false) where
  fits_given : Fits held line → Fits held (give_back n line)
  fits_given fit = CountsFit-settle_from held (line.free +ℤ pos n) line.waiting line.granted line.wakes (more line.free (total line.granted) within fit)
    where
      more : (z : ℤ) (granted : ℕ) → int_lt (pos u64_max) (z +ℤ pos (granted + held + n)) ≡ false → CountsFit held z granted → CountsFit held (z +ℤ pos n) granted
      more z granted within h = record { in_hand = h.in_hand; in_all = grind (arith, ints, within); owed = omega (arith, ints, h.owed) }

all_given : (n held : ℕ) (line : Line ℕ) → (give_back n line).free +ℤ pos (total (give_back n line).granted + held) ≡ (line.free +ℤ pos (total line.granted + held)) +ℤ pos n
all_given n held line = sums line.free (give_back n line).free (total line.granted) (total (give_back n line).granted) (free-total-give_back n line)
  where
    sums : (z z' : ℤ) (g g' : ℕ) → z' +ℤ pos g' ≡ z +ℤ pos n +ℤ pos g → z' +ℤ pos (g' + held) ≡ (z +ℤ pos (g + held)) +ℤ pos n
    sums z z' g g' e = omega (arith, ints)

-- What a request had stays among what is free and granted when it ends.
module _ (is : ℕ → Bool) (held : ℕ) (line : Line ℕ) where
  fits_ended : Fits held line → Fits held (cancel is line)
  fits_ended fit = settled (withdraw (entry_named is line.granted) is line) (at (entry_named is line.granted) refl)
    where
      settled : (base : Line ℕ) → Fits held base → Fits held (settle base)
      settled base h = CountsFit-settle_from held base.free base.waiting base.granted base.wakes h

      back : (z : ℤ) (size others granted : ℕ) → size + others ≡ granted → CountsFit held z granted → CountsFit held (z +ℤ pos size) others
      back z size others granted sum h = record { in_hand = omega (arith, h.in_hand, sum); in_all = omega (arith, ints, h.in_all, sum); owed = omega (arith, ints, h.owed) }

      at : (found : Option (Entry ℕ)) → entry_named is line.granted ≡ found → Fits held (withdraw found is line)
      at None none = fit
      at (Some entry) there = back line.free entry.size (total (without is line.granted)) (total line.granted) (total-without is line.granted entry there) fit

  all_ended : (cancel is line).free +ℤ pos (total (cancel is line).granted + held) ≡ line.free +ℤ pos (total line.granted + held)
  all_ended = sums line.free (cancel is line).free (total line.granted) (total (cancel is line).granted) (free-total-cancel is line)
    where
      sums : (z z' : ℤ) (g g' : ℕ) → z' +ℤ pos g' ≡ z +ℤ pos g → z' +ℤ pos (g' + held) ≡ z +ℤ pos (g + held)
      sums z z' g g' e = omega (arith, ints)

-- the row of a sound store after a call by which its line settles
pub record SettlesTo (line : Line ℕ) (all : ℤ) (held : ℕ) (other : Line ℕ) : Type 0 where
  pub alike : AreAlike line other
  pub fit : Fits held other
  pub adds_up : all ≡ other.free +ℤ pos (total other.granted + held)

-- where nobody waits, nobody waits once the line has settled
closing_settled : (closed : Bool) (ended ended' : List (Entry ℕ)) (waiting waiting' : List (Waiting ℕ)) → (ended ≡ [] → ended' ≡ []) → (waiting ≡ [] → waiting' ≡ []) → EndsAs closed ended waiting
    → EndsAs closed ended' waiting'
closing_settled false ended ended' waiting waiting' gone settles none = gone none
closing_settled true ended ended' waiting waiting' gone settles none = settles none

-- a line in which nobody waits, and of which nobody granted is meant, stays as it is
cancel_nobody : (is : ℕ → Bool) (line : Line ℕ) → entry_named is line.granted ≡ None → line.waiting ≡ [] → cancel is line ≡ line
cancel_nobody is line none empty =
    ap (λ (found : Option (Entry ℕ)). settle (withdraw found is line)) none
    ∙ ap (λ (ws : List (Waiting ℕ)). settle_from line.free (without_waiting is ws) line.granted line.wakes) empty
    ∙ (λ i. record { free = line.free; waiting = sym empty i; granted = line.granted; wakes = line.wakes })

module _ (old : Store) (sound : IsSound old) (row : RowState) where
  in_all : (all : ℤ) → all ≡ old.free +ℤ pos (total (line_in old).granted + old.held) → all ≡ (line_in old).free +ℤ pos (total (line_in old).granted + old.held)
  in_all all is = is ∙ ap (λ (z : ℤ). z +ℤ pos (total (line_in old).granted + old.held)) sound.free

  pub gives : (n : ℕ) (all : ℤ) → overflows n (line_in old) old.held ≡ false → AreAlikeParts (pass_on n (part old.row)) (part row) → all ≡ old.free +ℤ pos (total (line_in old).granted + old.held)
      → SettlesTo (give_back n (line_in old)) (all +ℤ pos n) old.held (line_of (part row))
  gives n all within parts is =
      let alike = alike_is (pass_on-shown (part old.row) sound.settled n) parts in
      record {
        alike = alike;
        fit = fits_alike alike old.held (fits_given n old.held (line_in old) within sound.fit);
        adds_up = ap (λ (z : ℤ). z +ℤ pos n) (in_all all is) ∙ sym (all_given n old.held (line_in old)) ∙ sym (all_alike alike old.held);
      }

  pub gives_closing : (n : ℕ) → SameEnded old.row row → AreAlike (give_back n (line_in old)) (line_of (part row)) → EndsAs old.closed (ended_of row.list) (line_of (part row)).waiting
  gives_closing n gone alike =
      closing_settled old.closed _ _ (line_in old).waiting _ (λ none. gone ∙ none) (λ none. alike.waiting ∙ none-settle (add_permits n (line_in old)) none) sound.closing

  module _ (slot : ℕ) (all : ℤ) (is : all ≡ old.free +ℤ pos (total (line_in old).granted + old.held)) where
    unended : AreAlikeParts (cancel_request (is_slot slot) (part old.row)) (part row) → SettlesTo (cancel (is_slot slot) (line_in old)) all old.held (line_of (part row))
    unended parts =
        let alike = alike_is (cancel-shown (part old.row) sound.settled (is_slot slot)) parts in
        record {
          alike = alike;
          fit = fits_alike alike old.held (fits_ended (is_slot slot) old.held (line_in old) sound.fit);
          adds_up = in_all all is ∙ sym (all_ended (is_slot slot) old.held (line_in old)) ∙ sym (all_alike alike old.held);
        }

    -- one that was ended leaves the line as it is
    was_ended : IsRow old.row → (found : Entry ℕ) → entry_named (is_slot slot) (ended_of old.row.list) ≡ Some found → AreAlikeParts (part old.row) (part row)
        → SettlesTo (cancel (is_slot slot) (line_in old)) all old.held (line_of (part row))
    was_ended is_row found there parts =
        let stays = cancel_nobody (is_slot slot) (line_in old) (not_granted is_row) (nobody old.closed sound.closing) in
        let alike : AreAlike (line_in old) (line_of (part row)) = alike_is (record { shown = refl; settled = sound.settled }) parts in
        subst (λ (line : Line ℕ). SettlesTo line all old.held (line_of (part row))) (sym stays)
        (record { alike = alike; fit = fits_alike alike old.held sound.fit; adds_up = in_all all is ∙ sym (all_alike alike old.held) })
      where
        not_granted : IsRow old.row → entry_named (is_slot slot) (line_in old).granted ≡ None
        not_granted is_row =
            not_in_front (is_slot slot) (line_in old).granted (map entry_of (line_in old).waiting)
            (stands_once slot (ended_of old.row.list) (requests (line_in old)) (asked-distinct old.row is_row) found there)

        nobody : (closed : Bool) → EndsAs closed (ended_of old.row.list) (line_in old).waiting → (line_in old).waiting ≡ []
        nobody true none = none
        nobody false none = let impossible : ◌≡◌ {A = Option (Entry ℕ)} None (Some found) = sym (ap (entry_named (is_slot slot)) none) ∙ there in cc

    pub leaves : IsRow old.row → Cancels slot old.row row
        → SettlesTo (cancel (is_slot slot) (line_in old)) all old.held (line_of (part row)) × (ended_of row.list ≡ without (is_slot slot) (ended_of old.row.list))
    leaves is_row cancels = at (entry_named (is_slot slot) (ended_of old.row.list)) refl cancels
      where
        at : (found : Option (Entry ℕ)) → entry_named (is_slot slot) (ended_of old.row.list) ≡ found → CancelsAs found slot old.row row
            → SettlesTo (cancel (is_slot slot) (line_in old)) all old.held (line_of (part row)) × (ended_of row.list ≡ without (is_slot slot) (ended_of old.row.list))
        at (Some found) there parts = (was_ended is_row found there parts.0, parts.1)
        at None none parts = (unended parts.0, parts.1 ∙ sym (without-nobody (is_slot slot) (ended_of old.row.list) none))

  pub leaves_closing : (slot : ℕ) → ended_of row.list ≡ without (is_slot slot) (ended_of old.row.list) → AreAlike (cancel (is_slot slot) (line_in old)) (line_of (part row))
      → EndsAs old.closed (ended_of row.list) (line_of (part row)).waiting
  leaves_closing slot gone alike =
      closing_settled old.closed _ _ (line_in old).waiting _ (λ none. gone ∙ ap (without (is_slot slot)) none)
      (λ none. alike.waiting ∙ none-cancel (is_slot slot) (line_in old) none) sound.closing
