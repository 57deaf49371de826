-- Whom a rule grants, ends and wakes: a front of those that wait, all of them where it closes, and else nobody.
use Rattle.std.proofs.Common.{◌≡◌, ℕ, ◌-◌, Bool, true, false, cond, List, [], ◌∷◌, ◌++◌, map, Option, Some, None, pos, ℤ, ◌-ℤ◌, ◌<ℤ◌, ◌≤ℤ◌, int_le, ◌⊎◌, inl, inr, arith, refl, sym, ap, ap₂, ◌∙◌}
use Rattle.std.proofs.Common.{subst, append_assoc, append-nil}
use Rattle.std.specs.List.{AllByRecursion, filter}
use Rattle.std.proofs.lemmas.Bool.{cond_both, or_from, or_parts, or_left, or_right, false≢true}
use Rattle.std.proofs.lemmas.Int.{ints}
use Rattle.std.proofs.lemmas.List.{map-append}
use Rattle.std.proofs.lemmas.List.Elements.{filter-append}
use Rattle.std.proofs.lemmas.List.Folds.{list_any-append}
use Rattle.band_balance.specs.Line.{Entry, Waiting, Line, entry_of, requests, settle, settle_from, give_back, add_permits, entry_named, without, without_waiting, withdraw, cancel, poll_granted}
use Rattle.band_balance.specs.Object.{Object, Tag}
use Rattle.band_balance.specs.Rule.{has_name}
use Rattle.band_balance.specs.Laws.{Pairwise, IsOrderly, EndsAs, stands_in, granted_between, told_between, GrantsAFront}
use Rattle.band_balance.proofs.AnyOrder.{pairwise_back}
use Rattle.band_balance.proofs.Accounts.{settles_from}
use Rattle.band_balance.proofs.Held.{TellsApart, other_way}
use Rattle.band_balance.proofs.Orderly.{pairwise-without}
use Rattle.band_balance.proofs.Rename.{all_of_first, all_of_second}
use Rattle.band_balance.proofs.Requests.{all-weaker, all-without, all-found, found_is_named, all-not_named, requests-poll_granted, requests-cancel, entries-without_waiting, without-append_none}
use Rattle.band_balance.proofs.Settle.{passed, left, wakers, passed-left, requests-settle, granted-settle, waiting-settle, wakes-settle}
use Rattle.band_balance.proofs.Shares.{both_of_each}
use Rattle.band_balance.proofs.Turns.{Becomes, Effect, quiet, grants, shuts, stays, takes, joins, receives, rewakes, returns, ends, comes, goes, drains, forgets}
use Rattle.band_balance.proofs.Turns.{splits, merges, lowers, tells, closes}

-- what holds always holds of each
pub each_always : {A : Type 0} (P : A → Type 0) → ((x : A) → P x) → (xs : List A) → AllByRecursion P xs
each_always P always [] = tt
each_always P always (x ∷ xs) = (always x, each_always P always xs)

-- What all pass and what none passes.
filter_none : {A : Type 0} (p : A → Bool) (xs : List A) → AllByRecursion (λ (x : A). p x ≡ false) xs → filter p xs ≡ []
filter_none p [] none = refl
filter_none p (x ∷ xs) none = rw none.0 (filter_none p xs none.1)

filter_all : {A : Type 0} (p : A → Bool) (xs : List A) → AllByRecursion (λ (x : A). p x ≡ true) xs → filter p xs ≡ xs
filter_all p [] all = refl
filter_all {A} p (x ∷ xs) all = rw all.0 (ap (λ (ys : List A). x ∷ ys) (filter_all p xs all.1))

-- what holds pairwise holds of each of a front and each after it
pub pairwise-cross : {X : Type 0} (R : X → X → Type 0) (xs ys : List X) → Pairwise R (xs ++ ys) → AllByRecursion (λ (y : X). AllByRecursion (λ (x : X). R x y) xs) ys
pairwise-cross R [] ys each = each_always _ (λ y. tt) ys
pairwise-cross R (x ∷ xs) ys each = both_of_each _ _ _ (λ y first more. (first, more)) ys (all_of_second (R x) xs ys each.0) (pairwise-cross R xs ys each.1)

pub unmapped : {A B : Type 0} (f : A → B) (P : B → Type 0) (xs : List A) → AllByRecursion P (map f xs) → AllByRecursion (λ (x : A). P (f x)) xs
unmapped f P [] each = tt
unmapped f P (x ∷ xs) each = (each.0, unmapped f P xs each.1)

-- nobody leaves who isn't meant
module _ {N : Type 0} (is : N → Bool) where
  none_left : (es : List (Entry N)) → AllByRecursion (λ (e : Entry N). is e.name ≡ false) es → without is es ≡ es
  none_left [] others = refl
  none_left (e ∷ es) others = rw others.0 (ap (λ (rest : List (Entry N)). e ∷ rest) (none_left es others.1))

  none_left_waiting : (ws : List (Waiting N)) → AllByRecursion (λ (w : Waiting N). is w.name ≡ false) ws → without_waiting is ws ≡ ws
  none_left_waiting [] others = refl
  none_left_waiting (w ∷ ws) others = rw others.0 (ap (λ (rest : List (Waiting N)). w ∷ rest) (none_left_waiting ws others.1))

  filter-without_waiting : (p : Waiting N → Bool) (ws : List (Waiting N)) → ((w : Waiting N) → is w.name ≡ true → p w ≡ false) → filter p (without_waiting is ws) ≡ filter p ws
  filter-without_waiting p [] fails = refl
  filter-without_waiting p (w ∷ ws) fails =
      cond_both (is w.name) _ _ (λ (kept : List (Waiting N)). filter p kept ≡ filter p (w ∷ ws))
      (λ h. rw (fails w h) refl)
      (λ h. ap (λ (rest : List (Waiting N)). cond (p w) (w ∷ rest) rest) (filter-without_waiting p ws fails))

-- where permits are owed still once a line has settled, nobody was granted
owed_passes_none : {N : Type 0} (free : ℤ) (waiting : List (Waiting N)) (granted : List (Entry N)) (wakes : List ℕ) → (settle_from free waiting granted wakes).free <ℤ pos 0 → passed free waiting ≡ []
owed_passes_none free [] granted wakes owed = refl
owed_passes_none {N} free (first ∷ rest) granted wakes owed = go (int_le (pos first.size) free) refl owed
  where
    later : Line N
    later = settle_from (free -ℤ pos first.size) rest (granted ++ entry_of first ∷ []) (wakes ++ first.waker ∷ [])

    unpaid : {y : ℤ} (z : ℤ) (n : ℕ) → int_le (pos n) z ≡ true → (pos 0 ≤ℤ y) ⊎ (y ≡ z -ℤ pos n) → y <ℤ pos 0 → ⊥
    unpaid z n fits (inl paid) owed = omega (arith, ints)
    unpaid z n fits (inr same) owed = grind (arith, ints)

    go : (fits : Bool) → int_le (pos first.size) free ≡ fits → (cond fits later (record { free = free; waiting = first ∷ rest; granted = granted; wakes = wakes })).free <ℤ pos 0
        → cond fits (first ∷ passed (free -ℤ pos first.size) rest) [] ≡ []
    go true fits owed = absurd (unpaid free first.size fits (settles_from (free -ℤ pos first.size) rest (granted ++ entry_of first ∷ []) (wakes ++ first.waker ∷ [])) owed)
    go false waits owed = refl

module _ {K : Type 0} (same : K → K → Bool) (told : TellsApart same) where
  abbrev Differ : List (Entry (Tag K)) → Type 0
  Differ es = Pairwise (λ (a b : Entry (Tag K)). same a.name.name b.name.name ≡ false) es

  abbrev IsIn : List (Entry (Tag K)) → Waiting (Tag K) → Type 0
  IsIn granted w = stands_in same w.name.name granted ≡ true

  abbrev NotIn : List (Entry (Tag K)) → Waiting (Tag K) → Type 0
  NotIn granted w = stands_in same w.name.name granted ≡ false

  none_stands : (name : K) (es : List (Entry (Tag K))) → AllByRecursion (λ (e : Entry (Tag K)). same name e.name.name ≡ false) es → stands_in same name es ≡ false
  none_stands name [] each = refl
  none_stands name (e ∷ es) each = or_from _ _ each.0 (none_stands name es each.1)

  stands_none : (name : K) (es : List (Entry (Tag K))) → stands_in same name es ≡ false → AllByRecursion (λ (e : Entry (Tag K)). same name e.name.name ≡ false) es
  stands_none name [] absent = tt
  stands_none name (e ∷ es) absent = let parts = or_parts (same name e.name.name) (stands_in same name es) absent in (parts.0, stands_none name es parts.1)

  -- who waits isn't granted
  waits_apart : (granted : List (Entry (Tag K))) (waiting : List (Waiting (Tag K))) → Differ (granted ++ map entry_of waiting) → AllByRecursion (NotIn granted) waiting
  waits_apart granted waiting differ =
      all-weaker _ (NotIn granted)
      (λ w apart. none_stands w.name.name granted (all-weaker _ (λ (e : Entry (Tag K)). same w.name.name e.name.name ≡ false) (λ e h. other_way same told e.name.name w.name.name h) granted apart))
      waiting (unmapped entry_of _ waiting (pairwise-cross _ granted (map entry_of waiting) differ))

  stand_themselves : (front : List (Waiting (Tag K))) → AllByRecursion (IsIn (map entry_of front)) front
  stand_themselves [] = tt
  stand_themselves (w ∷ ws) = (
    or_left _ _ (told.itself w.name.name),
    all-weaker (IsIn (map entry_of ws)) (IsIn (map entry_of (w ∷ ws))) (λ v is. or_right _ _ is) ws (stand_themselves ws),
  )

  -- a front of those that waited is granted: just they stand among those granted
  front_granted : (granted : List (Entry (Tag K))) (front rest : List (Waiting (Tag K))) → Differ (granted ++ map entry_of (front ++ rest))
      → filter (λ (w : Waiting (Tag K)). stands_in same w.name.name (granted ++ map entry_of front)) (front ++ rest) ≡ front
  front_granted granted front rest differ =
      filter-append _ front rest
      ∙ ap₂ (λ (xs ys : List (Waiting (Tag K))). xs ++ ys)
      (filter_all _ front (all-weaker (IsIn (map entry_of front)) (IsIn (granted ++ map entry_of front)) (λ w is. list_any-append _ granted (map entry_of front) ∙ or_right _ _ is) front
      (stand_themselves front)))
      (filter_none _ rest (waits_apart (granted ++ map entry_of front) rest
      (subst Differ (ap (λ (es : List (Entry (Tag K))). granted ++ es) (map-append entry_of front rest) ∙ sym (append_assoc granted (map entry_of front) (map entry_of rest))) differ)))
      ∙ append-nil front

  -- a line with nobody to wake, in which a name has one request
  module _ (line : Line (Tag K)) (quiet : line.wakes ≡ []) (differ : Differ (requests line)) where
    pub record Serves (means : Tag K → Bool) (after : Line (Tag K)) : Type 0 where
      pub woken : after.wakes ≡ wakers (granted_between same line after)
      pub front : GrantsAFront same means line after

    -- the line settles once those that are meant have left
    serves-settle : (settling : Line (Tag K)) (means : Tag K → Bool) → settling.wakes ≡ line.wakes → requests settling ≡ without means (requests line)
        → without_waiting means line.waiting ≡ settling.waiting → without means line.granted ≡ settling.granted
        → ((w : Waiting (Tag K)) → means w.name ≡ true → NotIn (settle settling).granted w) → Serves means (settle settling)
    serves-settle settling means same_wakes requested waiting granted leavers =
        let once : Differ (settling.granted ++ map entry_of (passed settling.free settling.waiting ++ left settling.free settling.waiting)) =
        subst (λ (ws : List (Waiting (Tag K))). Differ (settling.granted ++ map entry_of ws)) (sym (passed-left settling.free settling.waiting))
        (subst Differ (sym requested) (pairwise-without _ means (requests line) differ)) in
        let front : granted_between same line (settle settling) ≡ passed settling.free settling.waiting =
        sym (filter-without_waiting means (λ (w : Waiting (Tag K)). stands_in same w.name.name (settle settling).granted) line.waiting leavers)
        ∙ ap (filter (λ (w : Waiting (Tag K)). stands_in same w.name.name (settle settling).granted)) waiting
        ∙ ap₂ (λ (es : List (Entry (Tag K))) (ws : List (Waiting (Tag K))). filter (λ (w : Waiting (Tag K)). stands_in same w.name.name es) ws)
        (granted-settle settling) (sym (passed-left settling.free settling.waiting))
        ∙ front_granted settling.granted (passed settling.free settling.waiting) (left settling.free settling.waiting) once in
        record {
          woken = wakes-settle settling ∙ ap₂ (λ (ns : List ℕ) (ws : List (Waiting (Tag K))). ns ++ wakers ws) (same_wakes ∙ quiet) (sym front);
          front = record {
            requested = requests-settle settling ∙ requested;
            waiting = waiting ∙ sym (passed-left settling.free settling.waiting) ∙ sym (ap₂ (λ (xs ys : List (Waiting (Tag K))). xs ++ ys) front (waiting-settle settling));
            granted = granted-settle settling ∙ sym (ap₂ (λ (es : List (Entry (Tag K))) (ws : List (Waiting (Tag K))). es ++ map entry_of ws) granted front);
            owed = λ owed. front ∙ owed_passes_none settling.free settling.waiting settling.granted settling.wakes owed;
          };
        }

    serves-give_back : (n : ℕ) → Serves (λ tag. false) (give_back n line)
    serves-give_back n =
        serves-settle (add_permits n line) (λ tag. false) refl
        (sym (none_left (λ tag. false) (requests line) (each_always _ (λ e. refl) (requests line))))
        (none_left_waiting (λ tag. false) line.waiting (each_always _ (λ w. refl) line.waiting))
        (none_left (λ tag. false) line.granted (each_always _ (λ e. refl) line.granted))
        (λ w never. absurd (false≢true never))

    -- none of the others has the name of the one that leaves
    others : (name : K) (es : List (Entry (Tag K))) → Differ es → AllByRecursion (λ (e : Entry (Tag K)). same name e.name.name ≡ false) (without (has_name same name) es)
    others name [] each = tt
    others name (e ∷ es) each =
        cond_both (same name e.name.name) _ _ (AllByRecursion (λ (e : Entry (Tag K)). same name e.name.name ≡ false))
        (λ h. subst (λ n. AllByRecursion (λ (later : Entry (Tag K)). same n later.name.name ≡ false) es) (sym (told.equal name e.name.name h)) each.0)
        (λ h. (h, others name es each.1))

    leaver_not_granted : (name : K) (w : Waiting (Tag K)) → has_name same name w.name ≡ true → NotIn (cancel (has_name same name) line).granted w
    leaver_not_granted name w is_it =
        let after = cancel (has_name same name) line in
        subst (λ n. stands_in same n after.granted ≡ false) (told.equal name w.name.name is_it)
        (none_stands name after.granted
        (all_of_first _ after.granted (map entry_of after.waiting)
        (subst (AllByRecursion (λ (e : Entry (Tag K)). same name e.name.name ≡ false)) (sym (requests-cancel (has_name same name) line)) (others name (requests line) differ))))

    -- one that was granted doesn't wait
    granted_waits_not : (name : K) (entry : Entry (Tag K)) → entry_named (has_name same name) line.granted ≡ Some entry
        → AllByRecursion (λ (w : Waiting (Tag K)). same name w.name.name ≡ false) line.waiting
    granted_waits_not name entry there =
        let named = told.equal name entry.name.name (found_is_named (has_name same name) line.granted entry there) in
        unmapped entry_of _ line.waiting
        (all-weaker _ (λ (e : Entry (Tag K)). same name e.name.name ≡ false)
        (λ e apart. ap (λ n. same n e.name.name) named ∙ all-found _ (has_name same name) line.granted entry apart there)
        (map entry_of line.waiting) (pairwise-cross _ line.granted (map entry_of line.waiting) differ))

    serves-withdraw : (name : K) (found : Option (Entry (Tag K))) → entry_named (has_name same name) line.granted ≡ found
        → ((w : Waiting (Tag K)) → has_name same name w.name ≡ true → NotIn (settle (withdraw found (has_name same name) line)).granted w)
        → Serves (has_name same name) (settle (withdraw found (has_name same name) line))
    serves-withdraw name (Some entry) there leaver =
        serves-settle (withdraw (Some entry) (has_name same name) line) (has_name same name) refl (requests-poll_granted (has_name same name) line entry there)
        (none_left_waiting (has_name same name) line.waiting (granted_waits_not name entry there)) refl leaver
    serves-withdraw name None there leaver =
        serves-settle (withdraw None (has_name same name) line) (has_name same name) refl
        (ap (λ (es : List (Entry (Tag K))). line.granted ++ es) (entries-without_waiting (has_name same name) line.waiting)
        ∙ sym (without-append_none (has_name same name) line.granted (map entry_of line.waiting) there))
        refl (none_left (has_name same name) line.granted (all-not_named (has_name same name) line.granted there)) leaver

    serves-cancel : (name : K) → Serves (has_name same name) (cancel (has_name same name) line)
    serves-cancel name = serves-withdraw name (entry_named (has_name same name) line.granted) refl (leaver_not_granted name)

    -- nobody is granted where no more are granted than before
    none_granted : (after : Line (Tag K)) → ((w : Waiting (Tag K)) → NotIn line.granted w → NotIn after.granted w) → granted_between same line after ≡ []
    none_granted after fewer = filter_none _ line.waiting (all-weaker (NotIn line.granted) (NotIn after.granted) fewer line.waiting (waits_apart line.granted line.waiting differ))

  -- Where an object stays as it is, nobody is granted.
  pub granted-same : (object : Object (Tag K)) → IsOrderly same object → granted_between same object.line object.line ≡ []
  granted-same object orderly =
      none_granted object.line orderly.none_woken (pairwise_back _ object.ended (requests object.line) orderly.once) object.line (λ w apart. apart)

  pub front-same : (object : Object (Tag K)) → IsOrderly same object → GrantsAFront same (λ tag. false) object.line object.line
  front-same object orderly =
      let none = granted-same object orderly in
      let gone = none_left (λ (tag : Tag K). false) object.line.granted (each_always _ (λ e. refl) object.line.granted) in
      record {
        requested = sym (none_left (λ tag. false) (requests object.line) (each_always _ (λ e. refl) (requests object.line)));
        waiting = none_left_waiting (λ tag. false) object.line.waiting (each_always _ (λ w. refl) object.line.waiting) ∙ ap (λ (ws : List (Waiting (Tag K))). ws ++ object.line.waiting) (sym none);
        granted = sym (ap₂ (λ (es : List (Entry (Tag K))) (ws : List (Waiting (Tag K))). es ++ map entry_of ws) gone none ∙ append-nil object.line.granted);
        owed = λ owed. none;
      }

  -- What an object's rule wakes and grants.
  module _ (object : Object (Tag K)) (orderly : IsOrderly same object) where
    differ_in_line : Differ (requests object.line)
    differ_in_line = pairwise_back _ object.ended (requests object.line) orderly.once

    abbrev pub Wakes : Effect (Tag K) → Line (Tag K) → Type 0
    Wakes quiet line = (line.wakes ≡ []) × (granted_between same object.line line ≡ [])
    Wakes (grants left) line = (line.wakes ≡ wakers (granted_between same object.line line)) × GrantsAFront same left object.line line
    Wakes shuts line = (line.wakes ≡ wakers object.line.waiting) × (line.granted ≡ object.line.granted)

    quiet_turn : (line : Line (Tag K)) → line.wakes ≡ object.line.wakes → ((w : Waiting (Tag K)) → NotIn object.line.granted w → NotIn line.granted w) → Wakes quiet line
    quiet_turn line same_wakes fewer = (same_wakes ∙ orderly.none_woken, none_granted object.line orderly.none_woken differ_in_line line fewer)

    serving : (line : Line (Tag K)) (means : Tag K → Bool) → Serves object.line orderly.none_woken differ_in_line means line → Wakes (grants means) line
    serving line means serves = (serves.woken, serves.front)

    pub wakes-by : {back : Effect (Tag K)} {came gone : ℕ} {who : Option K} {line : Line (Tag K)} {held : List (Entry (Tag K))} {closed : Bool} {ended : List (Entry (Tag K))}
        → Becomes same object back came gone who line held closed ended → Wakes back line
    wakes-by (receives name entry there) =
        quiet_turn (poll_granted (has_name same name) object.line) refl
        (λ w apart. none_stands w.name.name (without (has_name same name) object.line.granted) (all-without _ (has_name same name) object.line.granted (stands_none w.name.name object.line.granted apart)))
    wakes-by (returns name entry there) = serving _ _ (serves-give_back object.line orderly.none_woken differ_in_line entry.size)
    wakes-by (ends name) = serving _ _ (serves-cancel object.line orderly.none_woken differ_in_line name)
    wakes-by (comes n fits under) = serving _ _ (serves-give_back object.line orderly.none_woken differ_in_line n)
    wakes-by (lowers name max kind it) = serving _ _ (serves-give_back object.line orderly.none_woken differ_in_line (max - 1))
    wakes-by (closes permits) = (ap (λ (ns : List ℕ). ns ++ wakers object.line.waiting) orderly.none_woken, refl)
    wakes-by {line = line} by = quiet_turn line refl (λ w apart. apart)

    -- who hears of it: those that stand among the ended or the granted afterwards
    abbrev hear : List (Entry (Tag K)) → List (Entry (Tag K)) → List (Waiting (Tag K))
    hear ended granted = filter (λ (w : Waiting (Tag K)). stands_in same w.name.name (ended ++ granted)) object.line.waiting

    -- of an open object nobody is ended but by a close
    abbrev EndedBy : Effect (Tag K) → List (Entry (Tag K)) → Type 0
    EndedBy quiet ended = ended ≡ []
    EndedBy (grants left) ended = ended ≡ []
    EndedBy shuts ended = ended ≡ object.ended ++ map entry_of object.line.waiting

    ended-by : object.ended ≡ [] → {back : Effect (Tag K)} {came gone : ℕ} {who : Option K} {line : Line (Tag K)} {held : List (Entry (Tag K))} {closed : Bool} {ended : List (Entry (Tag K))}
        → Becomes same object back came gone who line held closed ended → EndedBy back ended
    ended-by none stays = none
    ended-by none (takes made size served fits) = none
    ended-by none (joins made size waker waits may) = none
    ended-by none (receives name entry there) = none
    ended-by none (rewakes name waker) = none
    ended-by none (returns name entry there) = none
    ended-by none (ends name) = ap (without (has_name same name)) none
    ended-by none (comes n fits under) = none
    ended-by none (goes n fits over) = none
    ended-by none (drains n fits) = none
    ended-by none (forgets name it) = none
    ended-by none (splits name made n it enough) = none
    ended-by none (merges kept spent it other apart) = none
    ended-by none (lowers name max kind it) = none
    ended-by none (tells name) = ap (without (has_name same name)) none
    ended-by none (closes permits) = refl

    all_told : (ended granted : List (Entry (Tag K))) → hear (ended ++ map entry_of object.line.waiting) granted ≡ object.line.waiting
    all_told ended granted =
        filter_all _ object.line.waiting
        (all-weaker (IsIn (map entry_of object.line.waiting)) (IsIn ((ended ++ map entry_of object.line.waiting) ++ granted))
        (λ w is. list_any-append _ (ended ++ map entry_of object.line.waiting) granted ∙ or_left _ _ (list_any-append _ ended (map entry_of object.line.waiting) ∙ or_right _ _ is))
        object.line.waiting (stand_themselves object.line.waiting))

    told-open : (back : Effect (Tag K)) (line : Line (Tag K)) (ended : List (Entry (Tag K))) → Wakes back line → EndedBy back ended → line.wakes ≡ wakers (hear ended line.granted)
    told-open quiet line ended woken is = subst (λ (es : List (Entry (Tag K))). line.wakes ≡ wakers (hear es line.granted)) (sym is) (woken.0 ∙ sym (ap wakers woken.1))
    told-open (grants means) line ended woken is = subst (λ (es : List (Entry (Tag K))). line.wakes ≡ wakers (hear es line.granted)) (sym is) woken.0
    told-open shuts line ended woken is =
        subst (λ (es : List (Entry (Tag K))). line.wakes ≡ wakers (hear es line.granted)) (sym is) (woken.0 ∙ sym (ap wakers (all_told object.ended line.granted)))

    nobody-waits : (back : Effect (Tag K)) (line : Line (Tag K)) → Wakes back line → object.line.waiting ≡ [] → line.wakes ≡ []
    nobody-waits quiet line woken none = woken.0
    nobody-waits (grants means) line woken none =
        woken.0 ∙ ap (λ (ws : List (Waiting (Tag K))). wakers (filter (λ (w : Waiting (Tag K)). stands_in same w.name.name line.granted) ws)) none
    nobody-waits shuts line woken none = woken.0 ∙ ap wakers none

    pub told-by : {back : Effect (Tag K)} {came gone : ℕ} {who : Option K} {line : Line (Tag K)} {held : List (Entry (Tag K))} {closed : Bool} {ended : List (Entry (Tag K))}
        → Becomes same object back came gone who line held closed ended → line.wakes ≡ wakers (hear ended line.granted)
    told-by {back} {line = line} {ended = ended} by = go object.closed orderly.closing
      where
        go : (shut : Bool) → EndsAs shut object → line.wakes ≡ wakers (hear ended line.granted)
        go false none = told-open back line ended (wakes-by by) (ended-by none by)
        go true none =
            nobody-waits back line (wakes-by by) none.0
            ∙ sym (ap (λ (ws : List (Waiting (Tag K))). wakers (filter (λ (w : Waiting (Tag K)). stands_in same w.name.name (ended ++ line.granted)) ws)) none.0)

  -- Where an object stays as it is, nobody is told.
  pub told-same : (object : Object (Tag K)) → IsOrderly same object → told_between same object object ≡ []
  told-same object orderly =
      filter_none _ object.line.waiting
      (all-weaker (NotIn (object.ended ++ object.line.granted)) _ (λ w apart. apart) object.line.waiting
      (waits_apart (object.ended ++ object.line.granted) object.line.waiting (subst Differ (sym (append_assoc object.ended object.line.granted (map entry_of object.line.waiting))) orderly.once)))
