-- What the steps of a row need of its partial line.
use Rattle.std.proofs.Common.{◌≡◌, ℕ, suc, ◌+◌, ◌-◌, ◌*◌, ◌<◌, ◌≤◌, Bool, true, false, cond, List, [], ◌∷◌, ◌++◌, length, pos, ◌+ℤ◌, ◌-ℤ◌, ◌≤ℤ◌}
use Rattle.std.proofs.Common.{Option, Some, None, IsSome, refl, sym, ap, ap₂, ◌∙◌, subst, arith}
use Rattle.std.specs.Prelude.{◌==◌, find}
use Rattle.std.proofs.lemmas.Bool.Decides.{nat_tests}
use Rattle.std.proofs.lemmas.Int.{ints}
use Rattle.std.proofs.lemmas.List.{length-append}
use Rattle.std.proofs.lemmas.List.Elements.{filter_map-append}
use Rattle.std.proofs.lemmas.List.Sorted.{IsPermutation-refl, IsPermutation-trans, sum_by-IsPermutation}
use Rattle.std.proofs.lemmas.List.Sums.{sum_by-cons}
use Rattle.band_balance.specs.Line.{Entry, entry_named, total, u64_max}
use Rattle.band_balance.proofs.Held.{total-push}
use Rattle.band_balance.proofs.Settle.{total-append, total-without}
use Rattle.band_partial.specs.PartialLine.{Node, PartialLine, AreAlikeParts, AreInOrder, IsSettled, request, debt, is_debt, share_of, owed_by, shares, owed, debts, free_of, request_of, requests_of}
use Rattle.band_partial.specs.Moves.{is_request, with_waker, without_node, share_under, collect, pass_on, cancel_request, end_request, give_out, first_served, first_given, given}
use Rattle.band_partial.proofs.Follows.{no_word, leave_new_waker-shown, leaves_row, LeavesRow}
use Rattle.band_partial.proofs.Nodes.{by_nodes, have_nothing}
use Rattle.band_partial.proofs.Steps.{gives_out_done}
use Rattle.band_row.specs.Row.{is_slot, Holds, served}
use Rattle.band_row.specs.Kept.Serves.{EndsAs, Serves}

-- Partial lines that differ at most in the order of those granted.
pub alike_parts-itself : (part : PartialLine) → AreAlikeParts part part
alike_parts-itself part = record { word = refl; nodes = refl; granted = IsPermutation-refl part.granted; wakes = refl }

pub alike_parts-equal : (one other : PartialLine) → one ≡ other → AreAlikeParts one other
alike_parts-equal one other same = subst (AreAlikeParts one) same (alike_parts-itself one)

pub alike_parts-then : (one mid other : PartialLine) → AreAlikeParts one mid → AreAlikeParts mid other → AreAlikeParts one other
alike_parts-then one mid other h k = record {
  word = k.word ∙ h.word;
  nodes = k.nodes ∙ h.nodes;
  granted = IsPermutation-trans _ _ _ h.granted k.granted;
  wakes = k.wakes ∙ h.wakes;
}

module _ (one other : PartialLine) (alike : AreAlikeParts one other) where
  pub served-alike : (old : PartialLine) → served old other ≡ served old one
  served-alike old = ap₂ (λ (wakes : List ℕ) (nodes : List Node). (length wakes - length old.wakes) + (debts old.nodes - debts nodes)) alike.wakes alike.nodes

  pub total-alike_parts : total other.granted ≡ total one.granted
  total-alike_parts = sum_by-IsPermutation (λ (e : Entry ℕ). e.size) one.granted other.granted alike.granted

  pub holds-alike : (n : ℕ) → Holds n one → Holds n other
  holds-alike n holds =
      subst (λ (t : ℕ). (free_of other.word other.nodes +ℤ pos (t + n)) ≤ℤ pos u64_max) (sym total-alike_parts)
      (subst (λ (word : ℕ). (free_of word other.nodes +ℤ pos (total one.granted + n)) ≤ℤ pos u64_max) (sym alike.word)
      (subst (λ (nodes : List Node). (free_of one.word nodes +ℤ pos (total one.granted + n)) ≤ℤ pos u64_max) (sym alike.nodes) holds))

-- what comes back fits beside what is available
pub word-fits : (n : ℕ) (part : PartialLine) → Holds n part → (0 < part.word → part.nodes ≡ []) → n ≤ u64_max → part.word + n ≤ u64_max
word-fits n part holds out small = go part.nodes holds out
  where
    alone : (word t most : ℕ) → ((pos (word + 0) -ℤ pos 0) +ℤ pos (t + n)) ≤ℤ pos most → word + n ≤ most
    alone word t most h = omega (arith, ints)

    empty : (word most : ℕ) → word ≡ 0 → n ≤ most → word + n ≤ most
    empty word most none fits = omega arith

    go : (nodes : List Node) → (free_of part.word nodes +ℤ pos (total part.granted + n)) ≤ℤ pos u64_max → (0 < part.word → nodes ≡ []) → part.word + n ≤ u64_max
    go [] h none = alone part.word (total part.granted) u64_max h
    go (first ∷ rest) h none = empty part.word u64_max (no_word part.word first rest none) small

-- The node in front is served, or has all that is available.
module _ (part : PartialLine) (first : Node) (rest : List Node) (nodes : part.nodes ≡ first ∷ rest) (order : AreInOrder (first ∷ rest)) (holds : Holds 0 part) where
  in_front : (free_of part.word (first ∷ rest) +ℤ pos (total part.granted + 0)) ≤ℤ pos u64_max
  in_front = subst (λ (row : List Node). (free_of part.word row +ℤ pos (total part.granted + 0)) ≤ℤ pos u64_max) nodes holds

  -- a request's size fits beside what was granted
  pub granting-fits : {waker : ℕ} → first.waker ≡ Some waker → first.needed ≤ part.word → total part.granted + first.size ≤ u64_max
  granting-fits {waker} waits enough =
      let ordered : AreInOrder (request first.slot first.size first.needed waker ∷ rest) = subst (λ (w : Option ℕ). AreInOrder (record first { waker = w } ∷ rest)) waits order in
      let nothing = have_nothing rest ordered.1 in
      granted part.word first.size first.needed (shares rest) (owed rest) _ _ (total part.granted) u64_max order.0.1 enough nothing.no_share nothing.none_owed
      (sum_by-cons share_of (request first.slot first.size first.needed waker) rest) (sum_by-cons owed_by (request first.slot first.size first.needed waker) rest)
      (subst (λ (w : Option ℕ). (free_of part.word (record first { waker = w } ∷ rest) +ℤ pos (total part.granted + 0)) ≤ℤ pos u64_max) waits in_front)
    where
      granted : (word size needed s o s' o' t most : ℕ) → needed ≤ size → needed ≤ word → s ≡ 0 → o ≡ 0 → s' ≡ (size - needed) + s → o' ≡ 0 + o
          → ((pos (word + s') -ℤ pos o') +ℤ pos (t + 0)) ≤ℤ pos most → t + size ≤ most
      granted word size needed s o s' o' t most part_of enough none nothing es eo h = omega (arith, ints)

  pub served-holds : first.needed ≤ part.word → Holds 0 (first_served first rest part)
  served-holds enough = by_waker first.waker in_front
    where
      debt_paid : (word needed s o s' o' t t' most : ℕ) → needed ≤ word → s' ≡ 0 + s → o' ≡ needed + o → t' ≡ t + 0
          → ((pos (word + s') -ℤ pos o') +ℤ pos (t + 0)) ≤ℤ pos most → ((pos ((word - needed) + s) -ℤ pos o) +ℤ pos (t' + 0)) ≤ℤ pos most
      debt_paid word needed s o s' o' t t' most enough es eo et h = omega (arith, ints)

      request_granted : (word size needed s o s' o' t t' most : ℕ) → needed ≤ size → needed ≤ word → s' ≡ (size - needed) + s → o' ≡ 0 + o → t' ≡ t + size
          → ((pos (word + s') -ℤ pos o') +ℤ pos (t + 0)) ≤ℤ pos most → ((pos ((word - needed) + s) -ℤ pos o) +ℤ pos (t' + 0)) ≤ℤ pos most
      request_granted word size needed s o s' o' t t' most part_of enough es eo et h = omega (arith, ints)

      by_waker : (waker : Option ℕ) → (free_of part.word (record first { waker = waker } ∷ rest) +ℤ pos (total part.granted + 0)) ≤ℤ pos u64_max
          → Holds 0 (first_served (record first { waker = waker }) rest part)
      by_waker None h =
          debt_paid part.word first.needed (shares rest) (owed rest) _ _ (total part.granted) _ u64_max enough
          (sum_by-cons share_of (record first { waker = None }) rest) (sum_by-cons owed_by (record first { waker = None }) rest) (total-append part.granted []) h
      by_waker (Some waker) h =
          request_granted part.word first.size first.needed (shares rest) (owed rest) _ _ (total part.granted) _ u64_max order.0.1 enough
          (sum_by-cons share_of (record first { waker = Some waker }) rest) (sum_by-cons owed_by (record first { waker = Some waker }) rest)
          (total-push part.granted (record { name = first.slot; size = first.size })) h

  pub given-holds : part.word < first.needed → Holds 0 (first_given first rest part)
  given-holds few = by_waker first.waker in_front
    where
      debt_lower : (word needed s o s' o' s'' o'' t most : ℕ) → word < needed → s' ≡ 0 + s → o' ≡ needed + o → s'' ≡ 0 + s → o'' ≡ (needed - word) + o
          → ((pos (word + s') -ℤ pos o') +ℤ pos (t + 0)) ≤ℤ pos most → ((pos (0 + s'') -ℤ pos o'') +ℤ pos (t + 0)) ≤ℤ pos most
      debt_lower word needed s o s' o' s'' o'' t most few es eo es' eo' h = omega (arith, ints)

      share_higher : (word size needed s o s' o' s'' o'' t most : ℕ) → needed ≤ size → word < needed → s' ≡ (size - needed) + s → o' ≡ 0 + o
          → s'' ≡ (size - (needed - word)) + s → o'' ≡ 0 + o
          → ((pos (word + s') -ℤ pos o') +ℤ pos (t + 0)) ≤ℤ pos most → ((pos (0 + s'') -ℤ pos o'') +ℤ pos (t + 0)) ≤ℤ pos most
      share_higher word size needed s o s' o' s'' o'' t most part_of few es eo es' eo' h = omega (arith, ints)

      by_waker : (waker : Option ℕ) → (free_of part.word (record first { waker = waker } ∷ rest) +ℤ pos (total part.granted + 0)) ≤ℤ pos u64_max
          → Holds 0 (first_given (record first { waker = waker }) rest part)
      by_waker None h =
          debt_lower part.word first.needed (shares rest) (owed rest) _ _ _ _ (total part.granted) u64_max few
          (sum_by-cons share_of (record first { waker = None }) rest) (sum_by-cons owed_by (record first { waker = None }) rest)
          (sum_by-cons share_of (given part.word (record first { waker = None })) rest) (sum_by-cons owed_by (given part.word (record first { waker = None })) rest) h
      by_waker (Some waker) h =
          share_higher part.word first.size first.needed (shares rest) (owed rest) _ _ _ _ (total part.granted) u64_max order.0.1 few
          (sum_by-cons share_of (record first { waker = Some waker }) rest) (sum_by-cons owed_by (record first { waker = Some waker }) rest)
          (sum_by-cons share_of (given part.word (record first { waker = Some waker })) rest) (sum_by-cons owed_by (given part.word (record first { waker = Some waker })) rest) h

-- one after another
pub serves-then : (a b c : PartialLine) (s t u : ℕ) → Serves a b s t → 0 < b.word → Serves b c t u → Serves a c s u
serves-then a b c s t u h some k = record {
  gives = alike_parts-then _ _ _ h.gives k.gives;
  wakes = upward _ _ _ h.wakes k.wakes;
  debts = upward _ _ _ k.debts h.debts;
  no_fewer = upward _ _ _ h.no_fewer k.no_fewer;
  no_more = visits (served a b) (served b c) (served a c) (cond (c.word == 0) 1 0) together (subst (λ (one : ℕ). t ≤ s + (4 * served a b) + one) goes_on h.no_more) k.no_more;
}
  where
    upward : (x y z : ℕ) → x ≤ y → y ≤ z → x ≤ z
    upward x y z below above = omega arith

    more : (x y z : ℕ) → x ≤ y → y ≤ z → z - x ≡ (y - x) + (z - y)
    more x y z below above = omega arith

    goes_on : ◌≡◌ {A = ℕ} (cond (b.word == 0) 1 0) 0
    goes_on = let left : (b.word == 0) ≡ false = grind (arith, nat_tests) in ap (λ (none : Bool). cond none 1 0) left

    added : (woken paid w w' d d' : ℕ) → woken ≡ w + w' → paid ≡ d' + d → woken + paid ≡ (w + d) + (w' + d')
    added woken paid w w' d d' ew ed = omega arith

    together : served a c ≡ served a b + served b c
    together = added _ _ _ _ _ _ (more (length a.wakes) (length b.wakes) (length c.wakes) h.wakes k.wakes) (more (debts c.nodes) (debts b.nodes) (debts a.nodes) k.debts h.debts)

    visits : (one other both last : ℕ) → both ≡ one + other → t ≤ s + (4 * one) + 0 → u ≤ t + (4 * other) + last → u ≤ s + (4 * both) + last
    visits one other both last e first second = omega arith

-- How many wait and how many debts there are.
abbrev counts : Node → ℕ
counts node = cond (is_debt node) 1 0

module _ (is : ℕ → Bool) where
  pub debts-without : (nodes : List Node) → debts (without_node is nodes) ≡ debts nodes
  debts-without = by_nodes (λ nodes. debts (without_node is nodes) ≡ debts nodes) refl
      (λ slot size needed rest before. sum_by-cons counts (debt slot size needed) (without_node is rest) ∙ ap (λ (n : ℕ). 1 + n) before ∙ sym (sum_by-cons counts (debt slot size needed) rest))
      (λ slot size needed waker rest before. by_test slot size needed waker rest before (is slot))
    where
      none_more : (n m : ℕ) → m ≡ 0 + n → n ≡ m
      none_more n m e = omega arith

      by_test : (slot size needed waker : ℕ) (rest : List Node) → debts (without_node is rest) ≡ debts rest → (b : Bool)
          → debts (cond b rest (request slot size needed waker ∷ without_node is rest)) ≡ debts (request slot size needed waker ∷ rest)
      by_test slot size needed waker rest before true = none_more _ _ (sum_by-cons counts (request slot size needed waker) rest)
      by_test slot size needed waker rest before false =
          sum_by-cons counts (request slot size needed waker) (without_node is rest) ∙ ap (λ (n : ℕ). 0 + n) before ∙ sym (sum_by-cons counts (request slot size needed waker) rest)

  -- one less waits, where one that waits is gone
  pub waiting-without : (nodes : List Node) → IsSome (find (is_request is) nodes) → length (requests_of (without_node is nodes)) + 1 ≡ length (requests_of nodes)
  waiting-without = by_nodes (λ nodes. IsSome (find (is_request is) nodes) → length (requests_of (without_node is nodes)) + 1 ≡ length (requests_of nodes))
      (λ found. absurd (cc))
      (λ slot size needed rest before found. before found)
      (λ slot size needed waker rest before found. by_test slot size needed waker rest before (is slot) found)
    where
      one_more : (n m : ℕ) → n + 1 ≡ m → suc n + 1 ≡ suc m
      one_more n m e = omega arith

      last : (n : ℕ) → n + 1 ≡ suc n
      last n = omega arith

      by_test : (slot size needed waker : ℕ) (rest : List Node) → (IsSome (find (is_request is) rest) → length (requests_of (without_node is rest)) + 1 ≡ length (requests_of rest))
          → (b : Bool) → IsSome (cond b (Some (request slot size needed waker)) (find (is_request is) rest))
          → length (requests_of (cond b rest (request slot size needed waker ∷ without_node is rest))) + 1 ≡ suc (length (requests_of rest))
      by_test slot size needed waker rest before true found = last (length (requests_of rest))
      by_test slot size needed waker rest before false found = one_more _ _ (before found)

  -- as many wait, where one leaves a new waker, and the order stays
  pub waiting-waker : (waker : ℕ) (nodes : List Node) → length (requests_of (with_waker is waker nodes)) ≡ length (requests_of nodes)
  waiting-waker waker = by_nodes (λ nodes. length (requests_of (with_waker is waker nodes)) ≡ length (requests_of nodes)) refl
      (λ slot size needed rest before. before)
      (λ slot size needed old rest before. by_test slot size needed old rest before (is slot))
    where
      by_test : (slot size needed old : ℕ) (rest : List Node) → length (requests_of (with_waker is waker rest)) ≡ length (requests_of rest) → (b : Bool)
          → length (requests_of (cond b (request slot size needed waker ∷ rest) (request slot size needed old ∷ with_waker is waker rest))) ≡ suc (length (requests_of rest))
      by_test slot size needed old rest before true = refl
      by_test slot size needed old rest before false = ap suc before

  pub order-waker : (waker : ℕ) (nodes : List Node) → AreInOrder nodes → AreInOrder (with_waker is waker nodes)
  order-waker waker nodes order =
      (leave_new_waker-shown (record { word = 0; nodes = nodes; granted = []; wakes = [] }) (record { in_order = order; given_out = λ some. absurd (omega (arith, some)) }) is waker).settled.in_order

-- one more waits behind all
pub waiting-back : (nodes : List Node) (slot size needed waker : ℕ) → length (requests_of (nodes ++ request slot size needed waker ∷ [])) ≡ length (requests_of nodes) + 1
waiting-back nodes slot size needed waker =
    ap length (filter_map-append request_of nodes (request slot size needed waker ∷ []))
    ∙ length-append (requests_of nodes) (requests_of (request slot size needed waker ∷ []))

-- where a request is in front it waits beside those behind it, and a debt does not
pub waiting-first : (first : Node) (rest : List Node) {waker : ℕ} → first.waker ≡ Some waker → length (requests_of (first ∷ rest)) ≡ length (requests_of rest) + 1
waiting-first first rest {waker} waits =
    ap (λ (w : Option ℕ). length (requests_of (record first { waker = w } ∷ rest))) waits ∙ one_more (length (requests_of rest))
  where
    one_more : (n : ℕ) → suc n ≡ n + 1
    one_more n = omega arith

pub waiting-debt : (first : Node) (rest : List Node) → first.waker ≡ None → requests_of (first ∷ rest) ≡ requests_of rest
waiting-debt first rest owes = ap (λ (w : Option ℕ). requests_of (record first { waker = w } ∷ rest)) owes

-- a request that is out of the row had what is passed on, which makes this of the row
pub record GivesBack (last old : PartialLine) (had : ℕ) (new : PartialLine) : Type 0 where
  pub cancels : last ≡ pass_on had new
  pub owing : debts new.nodes ≡ debts old.nodes
  pub wakes : new.wakes ≡ old.wakes
  pub holds : Holds 0 old → Holds had new
  pub given_out : 0 < new.word → new.nodes ≡ []
  pub in_order : AreInOrder new.nodes

pub ends-gives_back : (slot : ℕ) (old : PartialLine) (had : ℕ) (new : PartialLine) → IsSettled old → EndsAs (entry_named (is_slot slot) old.granted) slot old had new → GivesBack (cancel_request (is_slot slot) old) old had new
ends-gives_back slot old had new settled = by_found (entry_named (is_slot slot) old.granted) refl
  where
    collected : (granted : Entry ℕ) → entry_named (is_slot slot) old.granted ≡ Some granted → GivesBack (cancel_request (is_slot slot) old) old granted.size (collect (is_slot slot) old)
    collected granted there = record {
      cancels = ap (λ (found : Option (Entry ℕ)). end_request found (is_slot slot) old) there;
      owing = refl;
      wakes = refl;
      holds = came_back old.word (shares old.nodes) (owed old.nodes) (total old.granted) _ granted.size u64_max (total-without (is_slot slot) old.granted granted there);
      given_out = settled.given_out;
      in_order = settled.in_order;
    }
      where
        came_back : (word s o t t' size most : ℕ) → size + t' ≡ t → ((pos (word + s) -ℤ pos o) +ℤ pos (t + 0)) ≤ℤ pos most → ((pos (word + s) -ℤ pos o) +ℤ pos (t' + size)) ≤ℤ pos most
        came_back word s o t t' size most e h = omega (arith, ints)

    gone : entry_named (is_slot slot) old.granted ≡ None → GivesBack (cancel_request (is_slot slot) old) old (share_under (is_slot slot) old.nodes) (record old { nodes = without_node (is_slot slot) old.nodes })
    gone none = record {
      cancels = ap (λ (found : Option (Entry ℕ)). end_request found (is_slot slot) old) none;
      owing = debts-without (is_slot slot) old.nodes;
      wakes = refl;
      holds = came_back old.word _ _ (share_under (is_slot slot) old.nodes) _ _ (total old.granted) u64_max left.had left.owing;
      given_out = λ some. ap (without_node (is_slot slot)) (settled.given_out some);
      in_order = left.order settled.in_order;
    }
      where
        left : LeavesRow (is_slot slot) old.nodes
        left = leaves_row (is_slot slot) old.nodes

        came_back : (word s s' k o o' t most : ℕ) → s ≡ k + s' → o ≡ o' → ((pos (word + s) -ℤ pos o) +ℤ pos (t + 0)) ≤ℤ pos most → ((pos (word + s') -ℤ pos o') +ℤ pos (t + k)) ≤ℤ pos most
        came_back word s s' k o o' t most es eo h = omega (arith, ints)

    by_found : (found : Option (Entry ℕ)) → entry_named (is_slot slot) old.granted ≡ found → EndsAs found slot old had new → GivesBack (cancel_request (is_slot slot) old) old had new
    by_found (Some granted) there ends =
        subst (λ (n : ℕ). GivesBack (cancel_request (is_slot slot) old) old n new) (sym ends.0) (subst (λ (part : PartialLine). GivesBack (cancel_request (is_slot slot) old) old granted.size part) (sym ends.1) (collected granted there))
    by_found None none ends =
        subst (λ (n : ℕ). GivesBack (cancel_request (is_slot slot) old) old n new) (sym ends.0)
        (subst (λ (part : PartialLine). GivesBack (cancel_request (is_slot slot) old) old (share_under (is_slot slot) old.nodes) part) (sym ends.1) (gone none))

-- one that was ended had nothing
pub nothing-gives_back : (old : PartialLine) → IsSettled old → GivesBack old old 0 old
nothing-gives_back old settled = record {
  cancels = sym (ap give_out same ∙ gives_out_done old settled);
  owing = refl;
  wakes = refl;
  holds = λ holds. holds;
  given_out = settled.given_out;
  in_order = settled.in_order;
}
  where
    same : ◌≡◌ {A = PartialLine} (record old { word = old.word + 0 }) old
    same = ap (λ (word : ℕ). record old { word = word }) (omega arith)
