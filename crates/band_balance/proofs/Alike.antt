-- No rule looks at the order of those granted or of those ended: of objects that are alike, a rule makes objects that are alike.
use Rattle.std.proofs.Common.{◌≡◌, ℕ, ◌+◌, ◌-◌, nat_le, ◌≤◌, Bool, true, false, cond, List, [], ◌∷◌, ◌++◌, map, length, Option, Some, None, refl, sym, ap, ◌∙◌, subst}
use Rattle.std.proofs.Common.{arith}
use Rattle.std.specs.List.{AllByRecursion}
use Rattle.std.specs.List.Sorted.{IsPermutation}
use Rattle.std.proofs.lemmas.List.Sorted.{IsPermutation-refl, IsPermutation-sym, IsPermutation-cons, IsPermutation-swap, IsPermutation-trans, IsPermutation-append_left}
use Rattle.std.proofs.lemmas.List.Sorted.{IsPermutation-map, sum_by-IsPermutation}
use Rattle.band_balance.specs.Line.{Entry, Waiting, Line, AreAlike, available, drained, is_served, entry_of, requests, total, settle, give_back, add_permits, take_permits, join, entry_named, without}
use Rattle.band_balance.specs.Line.{poll_granted, poll_waiting, withdraw, cancel, rename, renamed}
use Rattle.band_balance.specs.Object.{Object, Turn, Answer, Done, Ready, Pending, Nothing, Closed, Drained, Figures, Write, Tag, size_of, turn, hold, size_in}
use Rattle.band_balance.proofs.AnyOrder.{of_any_order, pairwise_back, pairwise_front}
use Rattle.band_balance.proofs.Turns.{poll_of, poll_ended, drop_of}
use Rattle.band_balance.specs.Rule.{Rule, Ask, Poll, Try, Drop, Release, Reduce, Drain, Close, Forget, Split, Merge, Downgrade, Status, has_name, act}
use Rattle.band_balance.specs.Laws.{Pairwise, IsOrderly, ObjectsAlike, TurnsAlike}
use Rattle.band_balance.proofs.Held.{TellsApart}
use Rattle.band_balance.proofs.Requests.{none-from_all, count_named, count_named-cons, count_named-none}
use Rattle.band_balance.proofs.Settle.{settle_is, passed}

-- Who is found and who is left, where one entry at most is meant.
module _ {N : Type 0} (is : N → Bool) where
  pub record FindsTheSame (xs ys : List (Entry N)) : Type 0 where
    pub all : IsPermutation xs ys
    pub counted : count_named is ys ≡ count_named is xs
    pub found : count_named is xs ≤ 1 → entry_named is ys ≡ entry_named is xs
    pub left : count_named is xs ≤ 1 → IsPermutation (without is xs) (without is ys)

  itself : (xs : List (Entry N)) → FindsTheSame xs xs
  itself xs = record { all = IsPermutation-refl xs; counted = refl; found = λ once. refl; left = λ once. IsPermutation-refl (without is xs) }

  one_before : (x : Entry N) (xs ys : List (Entry N)) → FindsTheSame xs ys → FindsTheSame (x ∷ xs) (x ∷ ys)
  one_before x xs ys same = record {
    all = IsPermutation-cons x xs ys same.all;
    counted = count_named-cons is x ys ∙ ap (λ (n : ℕ). cond (is x.name) 1 0 + n) same.counted ∙ sym (count_named-cons is x xs);
    found = λ once. finds (is x.name) (subst (λ (n : ℕ). n ≤ 1) (count_named-cons is x xs) once);
    left = λ once. leaves (is x.name) (subst (λ (n : ℕ). n ≤ 1) (count_named-cons is x xs) once);
  }
    where
      finds : (b : Bool) → cond b 1 0 + count_named is xs ≤ 1 → cond b (Some x) (entry_named is ys) ≡ cond b (Some x) (entry_named is xs)
      finds true once = refl
      finds false once = same.found (omega (arith, once))

      leaves : (b : Bool) → cond b 1 0 + count_named is xs ≤ 1 → IsPermutation (cond b xs (x ∷ without is xs)) (cond b ys (x ∷ without is ys))
      leaves true once = same.all
      leaves false once = IsPermutation-cons x _ _ (same.left (omega (arith, once)))

  neighbours : (x y : Entry N) (xs : List (Entry N)) → FindsTheSame (x ∷ y ∷ xs) (y ∷ x ∷ xs)
  neighbours x y xs = record {
    all = change_places xs;
    counted = counts y x ∙ turned (cond (is x.name) 1 0) (cond (is y.name) 1 0) (count_named is xs) ∙ sym (counts x y);
    found = λ once. finds (is x.name) (is y.name) (subst (λ (n : ℕ). n ≤ 1) (counts x y) once);
    left = λ once. leaves (is x.name) (is y.name) (subst (λ (n : ℕ). n ≤ 1) (counts x y) once);
  }
    where
      change_places : (zs : List (Entry N)) → IsPermutation (x ∷ y ∷ zs) (y ∷ x ∷ zs)
      change_places zs = IsPermutation-swap (x ∷ y ∷ zs) (y ∷ x ∷ zs) 0 1 (omega arith) (omega arith) refl

      counts : (one other : Entry N) → count_named is (one ∷ other ∷ xs) ≡ cond (is one.name) 1 0 + (cond (is other.name) 1 0 + count_named is xs)
      counts one other = count_named-cons is one (other ∷ xs) ∙ ap (λ (n : ℕ). cond (is one.name) 1 0 + n) (count_named-cons is other xs)

      turned : (a b c : ℕ) → b + (a + c) ≡ a + (b + c)
      turned a b c = omega arith

      finds : (b c : Bool) → cond b 1 0 + (cond c 1 0 + count_named is xs) ≤ 1 →
          cond c (Some y) (cond b (Some x) (entry_named is xs)) ≡ cond b (Some x) (cond c (Some y) (entry_named is xs))
      finds true true once = absurd (omega (arith, once))
      finds true false once = refl
      finds false c once = refl

      leaves : (b c : Bool) → cond b 1 0 + (cond c 1 0 + count_named is xs) ≤ 1 →
          IsPermutation (cond b (y ∷ xs) (x ∷ cond c xs (y ∷ without is xs))) (cond c (x ∷ xs) (y ∷ cond b xs (x ∷ without is xs)))
      leaves true true once = absurd (omega (arith, once))
      leaves true false once = IsPermutation-refl (y ∷ xs)
      leaves false true once = IsPermutation-refl (x ∷ xs)
      leaves false false once = change_places (without is xs)

  then_the_same : (xs ys zs : List (Entry N)) → FindsTheSame xs ys → FindsTheSame ys zs → FindsTheSame xs zs
  then_the_same xs ys zs one other = record {
    all = IsPermutation-trans xs ys zs one.all other.all;
    counted = other.counted ∙ one.counted;
    found = λ once. other.found (rw one.counted once) ∙ one.found once;
    left = λ once. IsPermutation-trans _ _ _ (one.left once) (other.left (rw one.counted once));
  }

  pub finds_the_same : (xs ys : List (Entry N)) → IsPermutation xs ys → FindsTheSame xs ys
  finds_the_same = of_any_order FindsTheSame itself one_before neighbours then_the_same

-- A line with those granted in another order.
module _ {N : Type 0} where
  pub alike_itself : (line : Line N) → AreAlike line line
  alike_itself line = record { free = refl; waiting = refl; granted = IsPermutation-refl line.granted; wakes = refl }

  pub alike_equal : (one other : Line N) → other ≡ one → AreAlike one other
  alike_equal one other same = rw same (alike_itself one)

  pub alike_then : (one mid other : Line N) → AreAlike one mid → AreAlike mid other → AreAlike one other
  alike_then one mid other h k = record {
    free = k.free ∙ h.free;
    waiting = k.waiting ∙ h.waiting;
    granted = IsPermutation-trans _ _ _ h.granted k.granted;
    wakes = k.wakes ∙ h.wakes;
  }

  abbrev pub with_granted : Line N → List (Entry N) → Line N
  with_granted line granted = record line { granted = granted }

  -- a line that is alike is the line with its own granted ones
  pub alike_is : (one other : Line N) → AreAlike one other → with_granted one other.granted ≡ other
  alike_is one other h = λ i. record { free = sym h.free i; waiting = sym h.waiting i; granted = other.granted; wakes = sym h.wakes i }

  pub alike_back : (one other : Line N) → AreAlike one other → AreAlike other one
  alike_back one other h = record { free = sym h.free; waiting = sym h.waiting; granted = IsPermutation-sym _ _ h.granted; wakes = sym h.wakes }

  pub total-alike : (one other : Line N) → AreAlike one other → total other.granted ≡ total one.granted
  total-alike one other h = sum_by-IsPermutation (λ (e : Entry N). e.size) one.granted other.granted h.granted

  pub requests-alike : (one other : Line N) → AreAlike one other → IsPermutation (requests one) (requests other)
  requests-alike one other h =
      subst (λ (ws : List (Waiting N)). IsPermutation (requests one) (other.granted ++ map entry_of ws)) (sym h.waiting)
      (IsPermutation-append_left (map entry_of one.waiting) one.granted other.granted h.granted)

  module _ (line : Line N) (granted : List (Entry N)) (any : IsPermutation line.granted granted) where
    reordered : AreAlike line (with_granted line granted)
    reordered = record { free = refl; waiting = refl; granted = any; wakes = refl }

    settle-reordered : AreAlike (settle line) (settle (with_granted line granted))
    settle-reordered = rw (settle_is line, settle_is (with_granted line granted)) (record {
      free = refl;
      waiting = refl;
      granted = IsPermutation-append_left (map entry_of (passed line.free line.waiting)) line.granted granted any;
      wakes = refl;
    })

  pub settle-alike : (one other : Line N) → AreAlike one other → AreAlike (settle one) (settle other)
  settle-alike one other h = subst (λ (l : Line N). AreAlike (settle one) (settle l)) (alike_is one other h) (settle-reordered one other.granted h.granted)

  pub add_permits-alike : (n : ℕ) (one other : Line N) → AreAlike one other → AreAlike (add_permits n one) (add_permits n other)
  add_permits-alike n one other h = record { free = rw h.free refl; waiting = h.waiting; granted = h.granted; wakes = h.wakes }

  pub take_permits-alike : (n : ℕ) (one other : Line N) → AreAlike one other → AreAlike (take_permits n one) (take_permits n other)
  take_permits-alike n one other h = record { free = rw h.free refl; waiting = h.waiting; granted = h.granted; wakes = h.wakes }

  pub give_back-alike : (n : ℕ) (one other : Line N) → AreAlike one other → AreAlike (give_back n one) (give_back n other)
  give_back-alike n one other h = settle-alike (add_permits n one) (add_permits n other) (add_permits-alike n one other h)

  pub join-alike : (name : N) (size waker : ℕ) (one other : Line N) → AreAlike one other → AreAlike (join name size waker one) (join name size waker other)
  join-alike name size waker one other h = record { free = h.free; waiting = rw h.waiting refl; granted = h.granted; wakes = h.wakes }

  -- where a test means one at most of those granted
  module _ (is : N → Bool) (one other : Line N) (h : AreAlike one other) (once : count_named is one.granted ≤ 1) where
    same_granted : FindsTheSame is one.granted other.granted
    same_granted = finds_the_same is one.granted other.granted h.granted

    pub granted-alike : entry_named is other.granted ≡ entry_named is one.granted
    granted-alike = same_granted.found once

    pub poll_granted-alike : AreAlike (poll_granted is one) (poll_granted is other)
    poll_granted-alike = record { free = h.free; waiting = h.waiting; granted = same_granted.left once; wakes = h.wakes }

    withdraw-alike : (found : Option (Entry N)) → AreAlike (withdraw found is one) (withdraw found is other)
    withdraw-alike (Some entry) = add_permits-alike entry.size _ _ poll_granted-alike
    withdraw-alike None = record { free = h.free; waiting = rw h.waiting refl; granted = h.granted; wakes = h.wakes }

    pub cancel-alike : AreAlike (cancel is one) (cancel is other)
    cancel-alike =
        subst (λ (found : Option (Entry N)). AreAlike (cancel is one) (settle (withdraw found is other))) (sym granted-alike)
        (settle-alike _ _ (withdraw-alike (entry_named is one.granted)))

  pub poll_waiting-alike : (is : N → Bool) (waker : ℕ) (one other : Line N) → AreAlike one other → AreAlike (poll_waiting is waker one) (poll_waiting is waker other)
  poll_waiting-alike is waker one other h = record { free = h.free; waiting = rw h.waiting refl; granted = h.granted; wakes = h.wakes }

-- under other names
pub rename-alike : {M N : Type 0} (f : M → N) (one other : Line M) → AreAlike one other → AreAlike (rename f one) (rename f other)
rename-alike f one other h = record {
  free = h.free;
  waiting = rw h.waiting refl;
  granted = IsPermutation-map (renamed f) one.granted other.granted h.granted;
  wakes = h.wakes;
}

module _ {K : Type 0} (same : K → K → Bool) (told : TellsApart same) where
  -- a name stands once at most where all names differ
  pub named_once : (name : K) (es : List (Entry (Tag K))) → Pairwise (λ (a b : Entry (Tag K)). same a.name.name b.name.name ≡ false) es → count_named (has_name same name) es ≤ 1
  named_once name [] each = omega arith
  named_once name (e ∷ es) each = go (same name e.name.name) refl (named_once name es each.1)
    where
      counts : count_named (has_name same name) (e ∷ es) ≡ cond (same name e.name.name) 1 0 + count_named (has_name same name) es
      counts = count_named-cons (has_name same name) e es

      go : (b : Bool) → same name e.name.name ≡ b → count_named (has_name same name) es ≤ 1 → count_named (has_name same name) (e ∷ es) ≤ 1
      go true it rest =
          let none : count_named (has_name same name) es ≡ 0 =
          count_named-none (has_name same name) es (none-from_all (has_name same name) es
          (subst (λ (n : K). AllByRecursion (λ (later : Entry (Tag K)). same n later.name.name ≡ false) es) (sym (told.equal name e.name.name it)) each.0)) in
          let all = counts ∙ ap (λ (b : Bool). cond b 1 0 + count_named (has_name same name) es) it in
          omega (arith, none, all)
      go false other rest =
          let all = counts ∙ ap (λ (b : Bool). cond b 1 0 + count_named (has_name same name) es) other in
          omega (arith, all, rest)

  module _ (object : Object (Tag K)) (orderly : IsOrderly same object) (granted ended : List (Entry (Tag K))) (any : IsPermutation object.line.granted granted) (any_ended : IsPermutation object.ended ended) where
    -- the same object with those granted and those ended in another order
    abbrev Shuffled : Object (Tag K)
    Shuffled = record object { line = with_granted object.line granted; ended = ended }

    alike : AreAlike object.line (with_granted object.line granted)
    alike = reordered object.line granted any

    once : (name : K) → count_named (has_name same name) object.line.granted ≤ 1
    once name =
        named_once name object.line.granted
        (pairwise_front _ object.line.granted (map entry_of object.line.waiting) (pairwise_back _ object.ended (requests object.line) orderly.once))

    found : (name : K) → entry_named (has_name same name) granted ≡ entry_named (has_name same name) object.line.granted
    found name = granted-alike (has_name same name) object.line (with_granted object.line granted) alike (once name)

    same_ended : (name : K) → FindsTheSame (has_name same name) object.ended ended
    same_ended name = finds_the_same (has_name same name) object.ended ended any_ended

    once_ended : (name : K) → count_named (has_name same name) object.ended ≤ 1
    once_ended name = named_once name object.ended (pairwise_front _ object.ended (requests object.line) orderly.once)

    -- those ended without one of this name
    left_ended : (name : K) → IsPermutation (without (has_name same name) object.ended) (without (has_name same name) ended)
    left_ended name = (same_ended name).left (once_ended name)

    shut : (answer : Answer) (one other : Line (Tag K)) (held : List (Entry (Tag K))) (closed : Bool) (gone other_gone : List (Entry (Tag K))) → AreAlike one other → IsPermutation gone other_gone
        → TurnsAlike (turn answer (record object { line = one; held = held; closed = closed; ended = gone })) (turn answer (record object { line = other; held = held; closed = closed; ended = other_gone }))
    shut answer one other held closed gone other_gone h same_gone = record {
      answer = refl;
      woken = h.wakes;
      object = record { kind = refl; line = record { free = h.free; waiting = h.waiting; granted = h.granted; wakes = refl }; held = refl; closed = refl; ended = same_gone };
    }

    turned : (answer : Answer) (one other : Line (Tag K)) (held : List (Entry (Tag K))) → AreAlike one other
        → TurnsAlike (turn answer (record object { line = one; held = held })) (turn answer (record object { line = other; held = held; ended = ended }))
    turned answer one other held h = shut answer one other held object.closed object.ended ended h any_ended

    either : (b : Bool) {one one' other other' : Turn (Tag K)} → TurnsAlike one one' → TurnsAlike other other' → TurnsAlike (cond b one other) (cond b one' other')
    either true first second = first
    either false first second = second

    polled : (name : K) (waker : ℕ) (it : Option (Entry (Tag K))) → TurnsAlike (poll_of it (has_name same name) waker object) (poll_of it (has_name same name) waker Shuffled)
    polled name waker (Some entry) = turned Ready _ _ (object.held ++ entry ∷ []) (poll_granted-alike (has_name same name) _ _ alike (once name))
    polled name waker None = turned Pending _ _ object.held (poll_waiting-alike (has_name same name) waker _ _ alike)

    dropped : (name : K) (it : Option (Entry (Tag K))) → TurnsAlike (drop_of it (has_name same name) object) (drop_of it (has_name same name) Shuffled)
    dropped name (Some entry) = turned Done _ _ (without (has_name same name) object.held) (give_back-alike entry.size _ _ alike)
    dropped name None = shut Done _ _ object.held object.closed _ _ (cancel-alike (has_name same name) _ _ alike (once name)) (left_ended name)

    told_of : (name : K) (waker : ℕ) (gone : Option (Entry (Tag K))) → TurnsAlike (poll_ended gone (has_name same name) waker object) (poll_ended gone (has_name same name) waker Shuffled)
    told_of name waker (Some entry) = shut Closed _ _ object.held object.closed _ _ alike (left_ended name)
    told_of name waker None =
        subst (λ (it : Option (Entry (Tag K))). TurnsAlike (poll_of (entry_named (has_name same name) object.line.granted) (has_name same name) waker object) (poll_of it (has_name same name) waker Shuffled))
        (sym (found name)) (polled name waker (entry_named (has_name same name) object.line.granted))

    act-shuffled : (rule : Rule K) → TurnsAlike (act same rule object) (act same rule Shuffled)
    act-shuffled (Ask made size waker) =
        either (is_served size object.line) (turned Ready _ _ (hold made size object.held) (take_permits-alike size _ _ alike)) (turned Pending _ _ object.held (join-alike made size waker _ _ alike))
    act-shuffled (Poll name waker) =
        subst (λ (gone : Option (Entry (Tag K))). TurnsAlike (poll_ended (entry_named (has_name same name) object.ended) (has_name same name) waker object) (poll_ended gone (has_name same name) waker Shuffled))
        (sym ((same_ended name).found (once_ended name))) (told_of name waker (entry_named (has_name same name) object.ended))
    act-shuffled (Try made size) =
        either (is_served size object.line) (turned Done _ _ (hold made size object.held) (take_permits-alike size _ _ alike)) (turned Nothing _ _ object.held alike)
    act-shuffled (Drop name) = dropped name (entry_named (has_name same name) object.held)
    act-shuffled (Release n) = turned Done _ _ object.held (give_back-alike n _ _ alike)
    act-shuffled (Reduce n) = turned Done _ _ object.held (take_permits-alike n _ _ alike)
    act-shuffled (Drain n) = turned (Drained (drained n object.line)) _ _ object.held (take_permits-alike (drained n object.line) _ _ alike)
    act-shuffled Close =
        shut Done _ _ object.held true _ _ (record { free = alike.free; waiting = refl; granted = alike.granted; wakes = refl })
        (IsPermutation-append_left (map entry_of object.line.waiting) object.ended ended any_ended)
    act-shuffled (Forget permit) = turned Done _ _ (without (has_name same permit) object.held) alike
    act-shuffled (Split permit made n) = either (nat_le n (size_in (entry_named (has_name same permit) object.held))) (turned Done _ _ _ alike) (turned Nothing _ _ object.held alike)
    act-shuffled (Merge kept spent) = turned Done _ _ _ alike
    act-shuffled (Downgrade writer) = turned Done _ _ _ (give_back-alike (size_of object.kind Write - 1) _ _ alike)
    act-shuffled Status = subst (λ (n : ℕ). TurnsAlike (act same Status object) (turn (Figures (available object.line) object.line.free (length object.line.waiting) n (total object.held)) Shuffled))
        (sym (total-alike _ _ alike)) (turned _ _ _ object.held alike)

  pub act-alike : (rule : Rule K) (one other : Object (Tag K)) → IsOrderly same one → ObjectsAlike one other → TurnsAlike (act same rule one) (act same rule other)
  act-alike rule one other orderly h =
      subst (λ (object : Object (Tag K)). TurnsAlike (act same rule one) (act same rule object))
      (λ i. record { kind = sym h.kind i; line = alike_is one.line other.line h.line i; held = sym h.held i; closed = sym h.closed i; ended = other.ended })
      (act-shuffled one orderly other.line.granted other.ended h.line.granted h.ended rule)
