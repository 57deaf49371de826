-- Lists of slots that are doubly linked, by a function that tells the links of each.
use Rattle.std.proofs.Common.{◌≡◌, ◌≢◌, refl, ℕ, ◌+◌, drop, List, [], ◌∷◌, ◌++◌, length, arith, ap, sym, ◌∙◌, Option, Some, None, is_some, IsSome, Bool, true, false, not, cond, nat_eq}
use Rattle.std.specs.Prelude.{filter, ◌==◌, ◌||◌}
use Rattle.std.specs.List.{AllByRecursion, list_any, IsDistinct}
use Rattle.std.specs.Option.{option_map}
use Rattle.std.proofs.Common.{inl, inr}
use Rattle.std.proofs.lemmas.Bool.{cases_eq}
use Rattle.std.proofs.lemmas.Bool.Decides.{nat_tests}
use Rattle.band_line.specs.Links.{with_prev, with_next}
use Rattle.band_line.specs.Line.{first_or, last_or, AreLinked, AreApart, IsDoublyLinked, closed_front, closed_back}
use Rattle.band_line.specs.Slots.{IsChain}
use Rattle.band_line.specs.declared.link.Between.{Between}

-- a slot is none of these
abbrev pub IsOff : ℕ → List ℕ → Type 0
IsOff id ids = AllByRecursion (λ other. other ≢ id) ids

abbrev pub is_in : ℕ → List ℕ → Bool
is_in id ids = list_any (λ other. other == id) ids

pub is_in-IsOff : (id : ℕ) (ids : List ℕ) → IsOff id ids → is_in id ids ≡ false
is_in-IsOff id [] off = refl
is_in-IsOff id (x ∷ xs) off = let there = is_in-IsOff id xs off.1 in let here = off.0 in grind (arith, nat_tests)

pub IsOff-is_in : (id : ℕ) (ids : List ℕ) → is_in id ids ≡ false → IsOff id ids
IsOff-is_in id [] h = tt
IsOff-is_in id (x ∷ xs) h = (grind (arith, nat_tests), IsOff-is_in id xs (grind (arith, nat_tests)))

pub is_in-append : (id : ℕ) (xs ys : List ℕ) → is_in id (xs ++ ys) ≡ (is_in id xs || is_in id ys)
is_in-append id [] ys = refl
is_in-append id (x ∷ xs) ys = let rest = is_in-append id xs ys in grind (arith, nat_tests)

pub is_in_here : (id : ℕ) (ids : List ℕ) → is_in id (id ∷ ids) ≡ true
is_in_here id ids = grind (arith, nat_tests)

pub is_in_other : (id other : ℕ) (ids : List ℕ) → other ≢ id → is_in other (id ∷ ids) ≡ is_in other ids
is_in_other id other ids differs = grind (arith, nat_tests)

pub is_in_push : (id : ℕ) (ids : List ℕ) → is_in id (ids ++ id ∷ []) ≡ true
is_in_push id [] = is_in_here id []
is_in_push id (x ∷ xs) = let rest = is_in_push id xs in grind (arith, nat_tests)

pub is_in_push_other : (id other : ℕ) (ids : List ℕ) → other ≢ id → is_in other (ids ++ id ∷ []) ≡ is_in other ids
is_in_push_other id other [] differs = is_in_other id other [] differs
is_in_push_other id other (x ∷ xs) differs = ap (λ rest. x == other || rest) (is_in_push_other id other xs differs)

pub IsOff-append : (id : ℕ) (xs ys : List ℕ) → IsOff id (xs ++ ys) → IsOff id xs × IsOff id ys
IsOff-append id [] ys off = (tt, off)
IsOff-append id (x ∷ xs) ys off = let rest = IsOff-append id xs ys off.1 in ((off.0, rest.0), rest.1)

pub IsOff-join : (id : ℕ) (xs ys : List ℕ) → IsOff id xs → IsOff id ys → IsOff id (xs ++ ys)
IsOff-join id [] ys p q = q
IsOff-join id (x ∷ xs) ys p q = (p.0, IsOff-join id xs ys p.1 q)

-- the first and the last of a list are in it
pub first_or-IsOff : (id : ℕ) (ids : List ℕ) → IsOff id ids → first_or None ids ≢ Some id
first_or-IsOff id [] off e = cc
first_or-IsOff id (x ∷ xs) off e = off.0 (cc)

pub last_or-IsOff : (id : ℕ) (before : Option ℕ) (ids : List ℕ) → before ≢ Some id → IsOff id ids → last_or before ids ≢ Some id
last_or-IsOff id before [] other off e = other e
last_or-IsOff id before (x ∷ xs) other off e = last_or-IsOff id (Some x) xs (λ same. off.0 (cc)) off.1 e

pub last_or-some : (x : ℕ) (xs : List ℕ) → is_some (last_or (Some x) xs) ≡ true
last_or-some x [] = refl
last_or-some x (y ∷ ys) = last_or-some y ys

pub first_or-append : (after : Option ℕ) (xs ys : List ℕ) → first_or after (xs ++ ys) ≡ first_or (first_or after ys) xs
first_or-append after [] ys = refl
first_or-append after (x ∷ xs) ys = refl

pub last_or-append : (before : Option ℕ) (xs ys : List ℕ) → last_or before (xs ++ ys) ≡ last_or (last_or before xs) ys
last_or-append before [] ys = refl
last_or-append before (x ∷ xs) ys = last_or-append (Some x) xs ys

pub AreApart-append : (xs ys : List ℕ) → AreApart (xs ++ ys) → AreApart xs × AreApart ys
AreApart-append [] ys h = (tt, h)
AreApart-append (x ∷ xs) ys h = let rest = AreApart-append xs ys h.1 in (((IsOff-append x xs ys h.0).0, rest.0), rest.1)

-- who stands in front of a slot is not it, and neither is who stands behind it
pub AreApart-middle : (id : ℕ) (xs ys : List ℕ) → AreApart (xs ++ id ∷ ys) → IsOff id xs × IsOff id ys × AreApart (xs ++ ys)
AreApart-middle id [] ys h = (tt, h.0, h.1)
AreApart-middle id (x ∷ xs) ys h =
    let rest = AreApart-middle id xs ys h.1 in
    let off = IsOff-append x xs (id ∷ ys) h.0 in (
      (λ e. off.1.0 (sym e), rest.0),
      rest.1,
      (IsOff-join x xs ys off.0 off.1.1, rest.2),
    )

-- of two tables of links, the second has another next at this slot, if it is one
pub record PointsNext (links after : ℕ → Option Between) (at next : Option ℕ) : Type 0 where
  pub changes : (id : ℕ) → at ≡ Some id → after id ≡ option_map (with_next next) (links id)
  pub keeps : (id : ℕ) → at ≢ Some id → after id ≡ links id

-- and another slot before it
pub record PointsPrev (links after : ℕ → Option Between) (at prev : Option ℕ) : Type 0 where
  pub changes : (id : ℕ) → at ≡ Some id → after id ≡ option_map (with_prev prev) (links id)
  pub keeps : (id : ℕ) → at ≢ Some id → after id ≡ links id

-- and has other links, or none, at this slot
pub record Relinks (links after : ℕ → Option Between) (at : ℕ) (between : Option Between) : Type 0 where
  pub changes : after at ≡ between
  pub keeps : (id : ℕ) → id ≢ at → after id ≡ links id

-- a link leads to none of these
abbrev LeadsOff : Option ℕ → List ℕ → Type 0
LeadsOff at ids = AllByRecursion (λ id. at ≢ Some id) ids

-- who is the last of a list is in no list apart from it
last_leads_off : (before : Option ℕ) (xs ys : List ℕ) → LeadsOff before ys → AreApart (xs ++ ys) → LeadsOff (last_or before xs) ys
last_leads_off before [] ys off apart = off
last_leads_off before (x ∷ xs) ys off apart = last_leads_off (Some x) xs ys (to x ys (IsOff-append x xs ys apart.0).1) apart.1
  where
    to : (x : ℕ) (ys : List ℕ) → IsOff x ys → LeadsOff (Some x) ys
    to x [] off = tt
    to x (y ∷ ys) off = (λ e. off.0 (cc), to x ys off.1)

none_leads_off : (ys : List ℕ) → LeadsOff None ys
none_leads_off [] = tt
none_leads_off (y ∷ ys) = (λ e. cc, none_leads_off ys)

first_leads_off : (xs ys : List ℕ) → AreApart (xs ++ ys) → LeadsOff (first_or None ys) xs
first_leads_off [] ys apart = tt
first_leads_off (x ∷ xs) ys apart = (first_or-IsOff x ys (IsOff-append x xs ys apart.0).1, first_leads_off xs ys apart.1)

AreLinked-same : (links after : ℕ → Option Between) (before : Option ℕ) (ids : List ℕ) (behind : Option ℕ)
    → AllByRecursion (λ id. after id ≡ links id) ids → AreLinked links before ids behind → AreLinked after before ids behind
AreLinked-same links after before [] behind same h = tt
AreLinked-same links after before (x ∷ xs) behind same h = (same.0 ∙ h.0, AreLinked-same links after (Some x) xs behind same.1 h.1)

module _ {links after : ℕ → Option Between} where
  relinked_off : {at : ℕ} {between : Option Between} → Relinks links after at between → (ids : List ℕ) → IsOff at ids → AllByRecursion (λ id. after id ≡ links id) ids
  relinked_off r [] off = tt
  relinked_off r (x ∷ xs) off = (r.keeps x off.0, relinked_off r xs off.1)

  next_off : {at next : Option ℕ} → PointsNext links after at next → (ids : List ℕ) → LeadsOff at ids → AllByRecursion (λ id. after id ≡ links id) ids
  next_off p [] off = tt
  next_off p (x ∷ xs) off = (p.keeps x off.0, next_off p xs off.1)

  prev_off : {at prev : Option ℕ} → PointsPrev links after at prev → (ids : List ℕ) → LeadsOff at ids → AllByRecursion (λ id. after id ≡ links id) ids
  prev_off p [] off = tt
  prev_off p (x ∷ xs) off = (p.keeps x off.0, prev_off p xs off.1)

  -- the last of a list stands before another slot
  AreLinked-next : {at next : Option ℕ} → PointsNext links after at next → (before : Option ℕ) (ids : List ℕ) (behind : Option ℕ)
      → at ≡ last_or None ids → AreApart ids → AreLinked links before ids behind → AreLinked after before ids next
  AreLinked-next p before [] behind e apart h = tt
  AreLinked-next {at} {next} p before (x ∷ []) behind e apart h = (p.changes x e ∙ ap (option_map (with_next next)) h.0, tt)
  AreLinked-next {at} {next} p before (x ∷ y ∷ rest) behind e apart h =
      let last_is_off = last_or-IsOff x (Some y) rest (λ same. apart.0.0 (cc)) apart.0.1 in
      (p.keeps x (λ same. last_is_off (sym e ∙ same)) ∙ h.0, AreLinked-next p (Some x) (y ∷ rest) behind e apart.1 h.1)

  -- the first of a list stands behind another slot
  AreLinked-prev : {at prev : Option ℕ} → PointsPrev links after at prev → (before : Option ℕ) (ids : List ℕ) (behind : Option ℕ)
      → at ≡ first_or None ids → AreApart ids → AreLinked links before ids behind → AreLinked after prev ids behind
  AreLinked-prev p before [] behind e apart h = tt
  AreLinked-prev {at} {prev} p before (x ∷ xs) behind e apart h =
      (p.changes x e ∙ ap (option_map (with_prev prev)) h.0, AreLinked-same links after (Some x) xs behind (prev_off p xs (leads xs apart.0)) h.1)
    where
      leads : (ys : List ℕ) → IsOff x ys → LeadsOff at ys
      leads [] off = tt
      leads (y ∷ ys) off = (λ same. off.0 (cc), leads ys off.1)

  -- who is linked stays it
  pub next_links : {at next : Option ℕ} → PointsNext links after at next → (id : ℕ) → is_some (after id) ≡ is_some (links id)
  next_links {at = None} p id = ap is_some (p.keeps id (λ e. cc))
  next_links {at = Some slot} {next = next} p id =
      elim (cases_eq slot id) [
        | inl same ↦ ap is_some (p.changes id (ap Some same)) ∙ mapped (links id)
        | inr differs ↦ ap is_some (p.keeps id (λ e. differs (cc)))
      ]
    where
      mapped : (between : Option Between) → is_some (option_map (with_next next) between) ≡ is_some between
      mapped None = refl
      mapped (Some between) = refl

  prev_links : {at prev : Option ℕ} → PointsPrev links after at prev → (id : ℕ) → is_some (after id) ≡ is_some (links id)
  prev_links {at = None} p id = ap is_some (p.keeps id (λ e. cc))
  prev_links {at = Some slot} {prev = prev} p id =
      elim (cases_eq slot id) [
        | inl same ↦ ap is_some (p.changes id (ap Some same)) ∙ mapped (links id)
        | inr differs ↦ ap is_some (p.keeps id (λ e. differs (cc)))
      ]
    where
      mapped : (between : Option Between) → is_some (option_map (with_prev prev) between) ≡ is_some between
      mapped None = refl
      mapped (Some between) = refl

module _ (links : ℕ → Option Between) where
  AreLinked-split : (before : Option ℕ) (xs ys : List ℕ) (behind : Option ℕ) → AreLinked links before (xs ++ ys) behind
      → AreLinked links before xs (first_or behind ys) × AreLinked links (last_or before xs) ys behind
  AreLinked-split before [] ys behind h = (tt, h)
  AreLinked-split before (x ∷ xs) ys behind h =
      let rest = AreLinked-split (Some x) xs ys behind h.1 in
      ((h.0 ∙ ap (λ next. Some (record { prev = before; next = next })) (first_or-append behind xs ys), rest.0), rest.1)

  AreLinked-join : (before : Option ℕ) (xs ys : List ℕ) (behind : Option ℕ) → AreLinked links before xs (first_or behind ys)
      → AreLinked links (last_or before xs) ys behind → AreLinked links before (xs ++ ys) behind
  AreLinked-join before [] ys behind p q = q
  AreLinked-join before (x ∷ xs) ys behind p q =
      (p.0 ∙ ap (λ next. Some (record { prev = before; next = next })) (sym (first_or-append behind xs ys)), AreLinked-join (Some x) xs ys behind p.1 q)

  -- whoever goes on from the first by the next comes by each
  pub IsChain-AreLinked : (before : Option ℕ) (ids : List ℕ) → AreLinked links before ids None → IsChain (λ id. option_map (λ between. between.next) (links id)) (first_or None ids) ids
  IsChain-AreLinked before [] h = refl
  IsChain-AreLinked before (x ∷ xs) h =
      let tells : option_map (λ between. between.next) (links x) ≡ Some (first_or None xs) = rw h.0 refl in
      (refl, rw tells refl, rw tells (IsChain-AreLinked (Some x) xs h.1))

-- a new slot is linked behind all
pub joins_back : {links made after : ℕ → Option Between} {ids : List ℕ} {front back : Option ℕ} {id : ℕ}
    → IsDoublyLinked links ids front back → links id ≡ None → Relinks links made id (Some (record { prev = back; next = None }))
    → PointsNext made after back (Some id) → IsDoublyLinked after (ids ++ id ∷ []) (cond (is_some back) front (Some id)) (Some id)
joins_back {links} {made} {after} {ids} {front} {back} {id} h none r p = record {
  linked =
      AreLinked-join after None ids (id ∷ []) None
      (AreLinked-next p None ids None h.back_is h.apart (AreLinked-same links made None ids None (relinked_off r ids off) h.linked))
      (p.keeps id (λ e. last_or-IsOff id None ids (λ same. cc) off (sym h.back_is ∙ e)) ∙ r.changes ∙ ap (λ prev. Some (record { prev = prev; next = None })) h.back_is, tt);
  apart = apart_with ids off h.apart;
  front_is = front_with ids h.front_is h.back_is;
  back_is = sym (last_or-append None ids (id ∷ []));
  all = λ k. next_links p k ∙ all_with k;
}
  where
    off : IsOff id ids
    off = IsOff-is_in id ids (sym (h.all id) ∙ ap is_some none)

    apart_with : (xs : List ℕ) → IsOff id xs → AreApart xs → AreApart (xs ++ id ∷ [])
    apart_with [] o apart = (tt, tt)
    apart_with (x ∷ xs) o apart = (IsOff-join x xs (id ∷ []) apart.0 (λ e. o.0 (sym e), tt), apart_with xs o.1 apart.1)

    front_with : (xs : List ℕ) → front ≡ first_or None xs → back ≡ last_or None xs → cond (is_some back) front (Some id) ≡ first_or None (xs ++ id ∷ [])
    front_with [] f b = rw b refl
    front_with (x ∷ xs) f b = rw (b, last_or-some x xs) f

    all_with : (k : ℕ) → is_some (made k) ≡ is_in k (ids ++ id ∷ [])
    all_with k =
        elim (cases_eq k id) [
          | inl same ↦ rw (same, r.changes) (sym (is_in_push id ids))
          | inr differs ↦ rw (r.keeps k differs) (h.all k ∙ sym (is_in_push_other id k ids differs))
        ]

-- a new slot is linked in front of all
pub joins_front : {links made after : ℕ → Option Between} {ids : List ℕ} {front back : Option ℕ} {id : ℕ}
    → IsDoublyLinked links ids front back → links id ≡ None → Relinks links made id (Some (record { prev = None; next = front }))
    → PointsPrev made after front (Some id) → IsDoublyLinked after (id ∷ ids) (Some id) (cond (is_some front) back (Some id))
joins_front {links} {made} {after} {ids} {front} {back} {id} h none r p = record {
  linked = (
    p.keeps id (λ e. first_or-IsOff id ids off (sym h.front_is ∙ e)) ∙ r.changes ∙ ap (λ next. Some (record { prev = None; next = next })) h.front_is,
    AreLinked-prev p None ids None h.front_is h.apart (AreLinked-same links made None ids None (relinked_off r ids off) h.linked),
  );
  apart = (off, h.apart);
  front_is = refl;
  back_is = back_with ids h.front_is h.back_is;
  all = λ k. prev_links p k ∙ all_with k;
}
  where
    off : IsOff id ids
    off = IsOff-is_in id ids (sym (h.all id) ∙ ap is_some none)

    back_with : (xs : List ℕ) → front ≡ first_or None xs → back ≡ last_or None xs → cond (is_some front) back (Some id) ≡ last_or (Some id) xs
    back_with [] f b = rw f refl
    back_with (x ∷ xs) f b = rw f b

    all_with : (k : ℕ) → is_some (made k) ≡ is_in k (id ∷ ids)
    all_with k =
        elim (cases_eq k id) [
          | inl same ↦ ap (λ j. is_some (made j)) same ∙ ap is_some r.changes ∙ sym (is_in_here id ids) ∙ ap (λ j. is_in j (id ∷ ids)) (sym same)
          | inr differs ↦ rw (r.keeps k differs) (h.all k ∙ sym (is_in_other id k ids differs))
        ]

-- a list that has a slot, cut there
record IsCut (id : ℕ) (ids : List ℕ) : Type 0 where
  pub front : List ℕ
  pub rest : List ℕ
  pub whole : ids ≡ front ++ id ∷ rest

cut_at : (id : ℕ) (ids : List ℕ) → is_in id ids ≡ true → IsCut id ids
cut_at id [] h = absurd (cc)
cut_at id (x ∷ xs) h =
    elim (cases_eq x id) [
      | inl same ↦ record { front = []; rest = xs; whole = ap (λ y. y ∷ xs) same }
      | inr differs ↦
          let rest = cut_at id xs (sym (is_in_other x id xs (λ e. differs (sym e))) ∙ h) in
          record { front = x ∷ rest.front; rest = rest.rest; whole = ap (λ ys. x ∷ ys) rest.whole }
    ]

abbrev pub without : ℕ → List ℕ → List ℕ
without id ids = filter (λ other. not (other == id)) ids

pub without-IsOff : (id : ℕ) (ids : List ℕ) → IsOff id ids → without id ids ≡ ids
without-IsOff id [] off = refl
without-IsOff id (x ∷ xs) off =
    let passes : not (x == id) ≡ true = let differs = off.0 in grind (arith, nat_tests) in
    rw passes (ap (λ ys. x ∷ ys) (without-IsOff id xs off.1))

without-middle : (id : ℕ) (xs ys : List ℕ) → IsOff id xs → IsOff id ys → without id (xs ++ id ∷ ys) ≡ xs ++ ys
without-middle id [] ys p q =
    let stops : not (id == id) ≡ false = grind (arith, nat_tests) in
    rw stops (without-IsOff id ys q)
without-middle id (x ∷ xs) ys p q =
    let passes : not (x == id) ≡ true = let differs = p.0 in grind (arith, nat_tests) in
    rw passes (ap (λ zs. x ∷ zs) (without-middle id xs ys p.1 q))

length-middle : (id : ℕ) (xs ys : List ℕ) → length (xs ++ id ∷ ys) ≡ length (xs ++ ys) + 1
length-middle id [] ys = omega arith
length-middle id (x ∷ xs) ys = omega (arith, length-middle id xs ys)

-- what is left of a line that a slot left
pub record IsClosed (links : ℕ → Option Between) (ids : List ℕ) (id : ℕ) (front back : Option ℕ) : Type 0 where
  pub line : IsDoublyLinked links (without id ids) front back
  pub shorter : length ids ≡ length (without id ids) + 1

-- a slot leaves its place, and those beside it stand beside each other
pub leaves : {links asked half after : ℕ → Option Between} {ids : List ℕ} {front back : Option ℕ} {id : ℕ} {gap : Between}
    → IsDoublyLinked links ids front back → links id ≡ Some gap → Relinks links asked id None → PointsNext asked half gap.prev gap.next
    → PointsPrev half after gap.next gap.prev → IsClosed after ids id (closed_front (Some gap) front) (closed_back (Some gap) back)
leaves {links} {asked} {half} {after} {ids} {front} {back} {id} {gap} h between r p q = at_cut (cut_at id ids (sym (h.all id) ∙ ap is_some between))
  where
    front_with : (xs ys : List ℕ) → gap.prev ≡ last_or None xs → gap.next ≡ first_or None ys → front ≡ first_or None (xs ++ id ∷ ys) → cond (is_some gap.prev) front gap.next ≡ first_or None (xs ++ ys)
    front_with [] ys prev next f = rw prev next
    front_with (x ∷ xs) ys prev next f = rw (prev, last_or-some x xs) f

    back_with : (xs ys : List ℕ) → gap.prev ≡ last_or None xs → gap.next ≡ first_or None ys → back ≡ last_or None (xs ++ id ∷ ys) → cond (is_some gap.next) back gap.prev ≡ last_or None (xs ++ ys)
    back_with xs [] prev next b = rw next (prev ∙ sym (last_or-append None xs []))
    back_with xs (y ∷ ys) prev next b = rw next (b ∙ last_or-append None xs (id ∷ y ∷ ys) ∙ sym (last_or-append None xs (y ∷ ys)))

    all_with : (xs ys : List ℕ) → IsOff id xs → IsOff id ys → ((j : ℕ) → is_some (links j) ≡ is_in j (xs ++ id ∷ ys)) → (k : ℕ) → is_some (asked k) ≡ is_in k (xs ++ ys)
    all_with xs ys in_front behind were k =
        elim (cases_eq k id) [
          | inl same ↦ ap (λ j. is_some (asked j)) same ∙ ap is_some r.changes ∙ sym (is_in-IsOff id (xs ++ ys) (IsOff-join id xs ys in_front behind)) ∙ ap (λ j. is_in j (xs ++ ys)) (sym same)
          | inr differs ↦ ap is_some (r.keeps k differs) ∙ were k ∙ is_in-append k xs (id ∷ ys) ∙ ap (λ b. is_in k xs || b) (is_in_other id k ys differs) ∙ sym (is_in-append k xs ys)
        ]

    at_cut : IsCut id ids → IsClosed after ids id (closed_front (Some gap) front) (closed_back (Some gap) back)
    at_cut cut =
        let xs = cut.front in
        let ys = cut.rest in
        let apart : AreApart (xs ++ id ∷ ys) = rw cut.whole at h.apart in
        let off = AreApart-middle id xs ys apart in
        let parts = AreApart-append xs ys off.2 in
        let linked = AreLinked-split links None xs (id ∷ ys) None (rw cut.whole at h.linked) in
        let same : Some gap ≡ Some (record { prev = last_or None xs; next = first_or None ys }) = sym between ∙ linked.1.0 in
        let prev_is : gap.prev ≡ last_or None xs = cc in
        let next_is : gap.next ≡ first_or None ys = cc in
        let head : AreLinked half None xs gap.next = AreLinked-next p None xs (Some id) prev_is parts.0 (AreLinked-same links asked None xs (Some id) (relinked_off r xs off.0) linked.0) in
        let tail : AreLinked half (Some id) ys None =
        AreLinked-same asked half (Some id) ys None (next_off p ys (rw prev_is (last_leads_off None xs ys (none_leads_off ys) off.2)))
        (AreLinked-same links asked (Some id) ys None (relinked_off r ys off.1) linked.1.1) in
        let first = AreLinked-same half after None xs gap.next (prev_off q xs (rw next_is (first_leads_off xs ys off.2))) head in
        let last = AreLinked-prev q (Some id) ys None next_is parts.1 tail in
        let left : without id ids ≡ xs ++ ys = ap (without id) cut.whole ∙ without-middle id xs ys off.0 off.1 in
        record {
          line = rw left (record {
            linked = AreLinked-join after None xs ys None (rw next_is at first) (rw prev_is at last);
            apart = off.2;
            front_is = front_with xs ys prev_is next_is (h.front_is ∙ ap (first_or None) cut.whole);
            back_is = back_with xs ys prev_is next_is (h.back_is ∙ ap (last_or None) cut.whole);
            all = λ k. prev_links q k ∙ next_links p k ∙ all_with xs ys off.0 off.1 (λ j. h.all j ∙ ap (is_in j) cut.whole) k;
          });
          shorter = ap length cut.whole ∙ length-middle id xs ys ∙ ap (λ zs. length zs + 1) (sym left);
        }

-- those beside a slot are linked, and are not it
pub record HasNeighbors (links : ℕ → Option Between) (id : ℕ) (gap : Between) : Type 0 where
  pub prev : (other : ℕ) → gap.prev ≡ Some other → IsSome (links other) × (other ≢ id)
  pub next : (other : ℕ) → gap.next ≡ Some other → IsSome (links other) × (other ≢ id)

pub neighbors : {links : ℕ → Option Between} {ids : List ℕ} {front back : Option ℕ} {id : ℕ} {gap : Between} → IsDoublyLinked links ids front back → links id ≡ Some gap → HasNeighbors links id gap
neighbors {links} {ids} {front} {back} {id} {gap} h between = at_cut (cut_at id ids (sym (h.all id) ∙ ap is_some between))
  where
    last_in : (other : ℕ) (before : Option ℕ) (xs : List ℕ) → before ≢ Some other → last_or before xs ≡ Some other → is_in other xs ≡ true
    last_in other before [] differs e = absurd (differs e)
    last_in other before (x ∷ xs) differs e =
        elim (cases_eq other x) [
          | inl same ↦ ap (λ y. is_in other (y ∷ xs)) (sym same) ∙ is_in_here other xs
          | inr not_this ↦ is_in_other x other xs not_this ∙ last_in other (Some x) xs (λ same. not_this (cc)) e
        ]

    first_in : (other : ℕ) (xs : List ℕ) → first_or None xs ≡ Some other → is_in other xs ≡ true
    first_in other [] e = absurd (cc)
    first_in other (x ∷ xs) e = let same : x ≡ other = cc in ap (λ y. is_in other (y ∷ xs)) same ∙ is_in_here other xs

    here_and_off : (other : ℕ) (xs : List ℕ) → is_in other xs ≡ true → IsOff id xs → other ≢ id
    here_and_off other xs there off same = let no_id : is_in other xs ≡ false = ap (λ k. is_in k xs) same ∙ is_in-IsOff id xs off in cc

    at_cut : IsCut id ids → HasNeighbors links id gap
    at_cut cut =
        let xs = cut.front in
        let ys = cut.rest in
        let off = AreApart-middle id xs ys (rw cut.whole at h.apart) in
        let linked = AreLinked-split links None xs (id ∷ ys) None (rw cut.whole at h.linked) in
        let same : Some gap ≡ Some (record { prev = last_or None xs; next = first_or None ys }) = sym between ∙ linked.1.0 in
        let prev_is : gap.prev ≡ last_or None xs = cc in
        let next_is : gap.next ≡ first_or None ys = cc in
        record {
          prev = λ other e.
              let there = last_in other None xs (λ none. cc) (sym prev_is ∙ e) in
              let within : is_in other ids ≡ true =
              ap (is_in other) cut.whole ∙ is_in-append other xs (id ∷ ys) ∙ ap (λ b. b || is_in other (id ∷ ys)) there in
              (h.all other ∙ within, here_and_off other xs there off.0);
          next = λ other e.
              let there = first_in other ys (sym next_is ∙ e) in
              let within : is_in other ids ≡ true =
              ap (is_in other) cut.whole ∙ is_in-append other xs (id ∷ ys) ∙ or_true (is_in other xs) (is_in other (id ∷ ys)) (or_true (id == other) (is_in other ys) there) in
              (h.all other ∙ within, here_and_off other ys there off.1);
        }
      where
        or_true : (a b : Bool) → b ≡ true → (a || b) ≡ true
        or_true true b e = refl
        or_true false b e = e

-- who is at the front or at the back is linked, and nobody stands before the front
pub front_linked : {links : ℕ → Option Between} {ids : List ℕ} {front back : Option ℕ} → IsDoublyLinked links ids front back → (id : ℕ)
    → front ≡ Some id → links id ≡ Some (record { prev = None; next = first_or None (drop 1 ids) })
front_linked {links} {ids} {front} h id e = at ids h.front_is h.linked
  where
    at : (xs : List ℕ) → front ≡ first_or None xs → AreLinked links None xs None → links id ≡ Some (record { prev = None; next = first_or None (drop 1 xs) })
    at [] f linked = absurd (cc)
    at (x ∷ xs) f linked = let same : id ≡ x = cc in ap links same ∙ linked.0

pub back_linked : {links : ℕ → Option Between} {ids : List ℕ} {front back : Option ℕ} → IsDoublyLinked links ids front back → (id : ℕ) → back ≡ Some id → IsSome (links id)
back_linked {links} {ids} {front} {back} h id e = at None ids (λ none. cc) (sym h.back_is ∙ e) h.linked
  where
    at : (before : Option ℕ) (xs : List ℕ) → before ≢ Some id → last_or before xs ≡ Some id → AreLinked links before xs None → IsSome (links id)
    at before [] differs last linked = absurd (differs last)
    at before (x ∷ xs) differs last linked =
        elim (cases_eq id x) [
          | inl same ↦ ap is_some (ap links same ∙ linked.0)
          | inr not_this ↦ at (Some x) xs (λ same. not_this (cc)) last linked.1
        ]

-- links that are the same everywhere link the same slots
pub IsDoublyLinked-same : {links after : ℕ → Option Between} {ids : List ℕ} {front back : Option ℕ} → ((id : ℕ) → after id ≡ links id)
    → IsDoublyLinked links ids front back → IsDoublyLinked after ids front back
IsDoublyLinked-same {links} {after} {ids} same h = record {
  linked = AreLinked-same links after None ids None (everywhere ids) h.linked;
  apart = h.apart;
  front_is = h.front_is;
  back_is = h.back_is;
  all = λ id. ap is_some (same id) ∙ h.all id;
}
  where
    everywhere : (xs : List ℕ) → AllByRecursion (λ id. after id ≡ links id) xs
    everywhere [] = tt
    everywhere (x ∷ xs) = (same x, everywhere xs)

pub AreApart-IsDistinct : (ids : List ℕ) → AreApart ids → IsDistinct nat_eq ids
unfolding IsDistinct
AreApart-IsDistinct [] apart = tt
AreApart-IsDistinct (x ∷ xs) apart = (off xs apart.0, AreApart-IsDistinct xs apart.1)
  where
    off : (ys : List ℕ) → IsOff x ys → AllByRecursion (λ y. nat_eq x y ≡ false) ys
    off [] o = tt
    off (y ∷ ys) o = (let differs = o.0 in grind (arith, nat_tests), off ys o.1)
