-- A distribution grants what a line grants that settles.
use Rattle.std.proofs.Common.{◌≡◌, ℕ, ◌+◌, ◌-◌, ◌<◌, ◌≤◌, nat_lt, true, List, [], ◌∷◌, ◌++◌, map, ℤ, pos, ◌-ℤ◌, ◌<ℤ◌, ◌≤ℤ◌, int_le, refl, sym, ◌∙◌, arith, append_assoc, append-nil}
use Rattle.std.proofs.lemmas.Int.{ints}
use Rattle.std.proofs.lemmas.Bool.{cond_both, cond-true, ltb-true, ltb-false}
use Rattle.std.proofs.lemmas.List.Sums.{sum_by-cons}
use Rattle.band_balance.specs.Line.{Entry, Waiting, Line, entry_of, settle_from}
use Rattle.band_partial.specs.PartialLine.{Node, request, debt, share_of, owed_by, shares, owed, requests_of, free_of, AreInOrder}
use Rattle.band_partial.specs.Moves.{Distribution, distribute, given}
use Rattle.band_partial.proofs.Nodes.{by_nodes, HaveNothing, have_nothing, row_waits, settle_from-waits}

le_true : (n : ℕ) (z : ℤ) → pos n ≤ℤ z → int_le (pos n) z ≡ true
le_true n z below = grind (arith, ints)

-- a line whose waiting ones, granted ones and wakers are those of a partial line
abbrev line_with : ℤ → List (Waiting ℕ) → List (Entry ℕ) → List ℕ → Line ℕ
line_with free waiting granted wakes = record { free = free; waiting = waiting; granted = granted; wakes = wakes }

-- what a distribution makes of those granted and of the wakers
abbrev settled_line : Distribution → List (Entry ℕ) → List ℕ → Line ℕ
settled_line done granted wakes =
    line_with (free_of done.left done.linked) (requests_of done.linked) (granted ++ map entry_of (requests_of done.served)) (wakes ++ map (λ (w : Waiting ℕ). w.waker) (requests_of done.served))

-- where so much is free, the line settles to what the row is distributed to
abbrev SettlesAs : List Node → Type 0
SettlesAs nodes = AreInOrder nodes → (n : ℕ) (free : ℤ) (granted : List (Entry ℕ)) (wakes : List ℕ) → free ≡ free_of n nodes
    → settle_from free (requests_of nodes) granted wakes ≡ settled_line (distribute n nodes) granted wakes

-- nobody was served
unserved : (free free' : ℤ) (waiting : List (Waiting ℕ)) (granted : List (Entry ℕ)) (wakes : List ℕ) → free ≡ free'
    → line_with free waiting granted wakes ≡ line_with free' waiting (granted ++ []) (wakes ++ [])
unserved free free' waiting granted wakes e = λ i. record { free = e i; waiting = waiting; granted = sym (append-nil granted) i; wakes = sym (append-nil wakes) i }

-- of what is given to the node in front, be it as much as it needs or less
less_owed : (free : ℤ) (n needed s o s' o' s'' o'' : ℕ) → n < needed → s' ≡ 0 + s → o' ≡ needed + o → s'' ≡ 0 + s → o'' ≡ (needed - n) + o
    → free ≡ (pos (n + s') -ℤ pos o') → free ≡ (pos (0 + s'') -ℤ pos o'')
less_owed free n needed s o s' o' s'' o'' few es eo es' eo' e = omega (arith, ints)

below_rest : (free : ℤ) (n needed s o s' o' : ℕ) → n < needed → s' ≡ 0 + s → o' ≡ needed + o → free ≡ (pos (n + s') -ℤ pos o') → free ≤ℤ (pos s -ℤ pos o)
below_rest free n needed s o s' o' few es eo e = omega (arith, ints)

all_owed : (free : ℤ) (n needed s o s' o' : ℕ) → needed ≤ n → s' ≡ 0 + s → o' ≡ needed + o → free ≡ (pos (n + s') -ℤ pos o') → free ≡ (pos ((n - needed) + s) -ℤ pos o)
all_owed free n needed s o s' o' enough es eo e = omega (arith, ints)

more_share : (free : ℤ) (n size needed s o s' o' s'' o'' : ℕ) → n < needed → needed ≤ size → s' ≡ (size - needed) + s → o' ≡ 0 + o → s'' ≡ (size - (needed - n)) + s → o'' ≡ 0 + o
    → free ≡ (pos (n + s') -ℤ pos o') → free ≡ (pos (0 + s'') -ℤ pos o'')
more_share free n size needed s o s' o' s'' o'' few fits es eo es' eo' e = omega (arith, ints)

too_few : (free : ℤ) (n size needed s o s' o' : ℕ) → n < needed → needed ≤ size → s ≡ 0 → s' ≡ (size - needed) + s → o' ≡ 0 + o → free ≡ (pos (n + s') -ℤ pos o') → free <ℤ pos size
too_few free n size needed s o s' o' few fits none es eo e = omega (arith, ints)

enough_for : (free : ℤ) (n size needed s o s' o' : ℕ) → needed ≤ n → needed ≤ size → o ≡ 0 → s' ≡ (size - needed) + s → o' ≡ 0 + o → free ≡ (pos (n + s') -ℤ pos o') → pos size ≤ℤ free
enough_for free n size needed s o s' o' enough fits none es eo e = omega (arith, ints)

left_over : (free : ℤ) (n size needed s o s' o' : ℕ) → needed ≤ n → needed ≤ size → s' ≡ (size - needed) + s → o' ≡ 0 + o → free ≡ (pos (n + s') -ℤ pos o')
    → free -ℤ pos size ≡ (pos ((n - needed) + s) -ℤ pos o)
left_over free n size needed s o s' o' enough fits es eo e = omega (arith, ints)

debt_settles : (slot size needed : ℕ) (rest : List Node) → SettlesAs rest → SettlesAs (debt slot size needed ∷ rest)
debt_settles slot size needed rest before order n free granted wakes e =
    cond_both (nat_lt n needed) _ _ (λ (done : Distribution). settle_from free (requests_of rest) granted wakes ≡ settled_line done granted wakes)
    (λ few.
    settle_from-waits free (requests_of rest) granted wakes (row_waits rest order.1 free (below_rest free n needed _ _ _ _ (ltb-true n needed few) had owing e))
    ∙ unserved free (free_of 0 (given n (debt slot size needed) ∷ rest)) (requests_of rest) granted wakes
    (less_owed free n needed _ _ _ _ _ _ (ltb-true n needed few) had owing
    (sum_by-cons share_of (given n (debt slot size needed)) rest) (sum_by-cons owed_by (given n (debt slot size needed)) rest) e))
    (λ enough. before order.1 (n - needed) free granted wakes (all_owed free n needed _ _ _ _ (ltb-false n needed enough) had owing e))
  where
    had : shares (debt slot size needed ∷ rest) ≡ 0 + shares rest
    had = sum_by-cons share_of (debt slot size needed) rest

    owing : owed (debt slot size needed ∷ rest) ≡ needed + owed rest
    owing = sum_by-cons owed_by (debt slot size needed) rest

-- the request in front is granted before the others
granted_first : (free : ℤ) (waiting more : List (Waiting ℕ)) (first : Waiting ℕ) (granted : List (Entry ℕ)) (wakes : List ℕ)
    → line_with free waiting ((granted ++ entry_of first ∷ []) ++ map entry_of more) ((wakes ++ first.waker ∷ []) ++ map (λ (w : Waiting ℕ). w.waker) more)
    ≡ line_with free waiting (granted ++ map entry_of (first ∷ more)) (wakes ++ map (λ (w : Waiting ℕ). w.waker) (first ∷ more))
granted_first free waiting more first granted wakes = λ i. record {
  free = free;
  waiting = waiting;
  granted = append_assoc granted (entry_of first ∷ []) (map entry_of more) i;
  wakes = append_assoc wakes (first.waker ∷ []) (map (λ (w : Waiting ℕ). w.waker) more) i;
}

request_settles : (slot size needed waker : ℕ) (rest : List Node) → SettlesAs rest → SettlesAs (request slot size needed waker ∷ rest)
request_settles slot size needed waker rest before order n free granted wakes e =
    cond_both (nat_lt n needed) _ _ (λ (done : Distribution). settle_from free (first ∷ requests_of rest) granted wakes ≡ settled_line done granted wakes)
    (λ few.
    settle_from-waits free (first ∷ requests_of rest) granted wakes (too_few free n size needed _ _ _ _ (ltb-true n needed few) order.0.1 nothing.no_share had owing e)
    ∙ unserved free (free_of 0 (given n (request slot size needed waker) ∷ rest)) (first ∷ requests_of rest) granted wakes
    (more_share free n size needed _ _ _ _ _ _ (ltb-true n needed few) order.0.1 had owing
    (sum_by-cons share_of (given n (request slot size needed waker)) rest) (sum_by-cons owed_by (given n (request slot size needed waker)) rest) e))
    (λ enough.
    cond-true _ _ _ (le_true size free (enough_for free n size needed _ _ _ _ (ltb-false n needed enough) order.0.1 nothing.none_owed had owing e))
    ∙ before nothing.in_order (n - needed) (free -ℤ pos size) (granted ++ entry_of first ∷ []) (wakes ++ waker ∷ [])
    (left_over free n size needed _ _ _ _ (ltb-false n needed enough) order.0.1 had owing e)
    ∙ granted_first _ _ (requests_of (distribute (n - needed) rest).served) first granted wakes)
  where
    first : Waiting ℕ
    first = record { name = slot; size = size; waker = waker }

    nothing : HaveNothing rest
    nothing = have_nothing rest order.1

    had : shares (request slot size needed waker ∷ rest) ≡ (size - needed) + shares rest
    had = sum_by-cons share_of (request slot size needed waker) rest

    owing : owed (request slot size needed waker ∷ rest) ≡ 0 + owed rest
    owing = sum_by-cons owed_by (request slot size needed waker) rest

pub settles : (nodes : List Node) → SettlesAs nodes
settles = by_nodes SettlesAs (λ order n free granted wakes e. unserved free (free_of n []) [] granted wakes e) debt_settles request_settles

-- what stays linked stays in order, and all is given out where a node stays
pub distribute-order : (nodes : List Node) → AreInOrder nodes → (n : ℕ) → AreInOrder (distribute n nodes).linked
distribute-order = by_nodes (λ nodes. AreInOrder nodes → (n : ℕ) → AreInOrder (distribute n nodes).linked) (λ order n. tt)
    (λ slot size needed rest before order n.
    cond_both (nat_lt n needed) _ _ (λ (done : Distribution). AreInOrder done.linked)
    (λ few. ((some_left n needed (ltb-true n needed few), fewer n needed size order.0.1), order.1))
    (λ enough. before order.1 (n - needed)))
    (λ slot size needed waker rest before order n.
    cond_both (nat_lt n needed) _ _ (λ (done : Distribution). AreInOrder done.linked)
    (λ few. ((some_left n needed (ltb-true n needed few), fewer n needed size order.0.1), order.1))
    (λ enough. before (have_nothing rest order.1).in_order (n - needed)))
  where
    some_left : (n needed : ℕ) → n < needed → 0 < needed - n
    some_left n needed few = omega arith

    fewer : (n needed size : ℕ) → needed ≤ size → needed - n ≤ size
    fewer n needed size fits = omega arith

pub distribute-gives_out : (nodes : List Node) (n : ℕ) → 0 < (distribute n nodes).left → (distribute n nodes).linked ≡ []
distribute-gives_out [] n = λ some. refl
distribute-gives_out (first ∷ rest) n =
    cond_both (nat_lt n first.needed) _ _ (λ (done : Distribution). 0 < done.left → done.linked ≡ [])
    (λ few some. absurd (omega (arith, some)))
    (λ enough. distribute-gives_out rest (n - first.needed))
