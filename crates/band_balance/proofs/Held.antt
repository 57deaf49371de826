-- What is held, where one more is held, and where an entry becomes another.
use Rattle.std.proofs.Common.{◌≡◌, ◌+◌, Bool, true, false, cond, List, [], ◌∷◌, ◌++◌, Option, Some, refl, sym, ap, ◌∙◌, subst, arith}
use Rattle.std.specs.List.{AllByRecursion}
use Rattle.std.proofs.lemmas.Bool.{cond-true, cond-false, false≢true, false_from_ne_true}
use Rattle.std.proofs.lemmas.Option.{same_Some, none-some}
use Rattle.band_balance.specs.Line.{Entry, entry_named, total, without}
use Rattle.band_balance.specs.Object.{Tag, change}
use Rattle.band_balance.specs.Rule.{has_name}
use Rattle.band_balance.proofs.Settle.{total-append, total-cons}

-- either way a test goes
pub by_bool : {P : Type 0} (b : Bool) → (b ≡ true → P) → (b ≡ false → P) → P
by_bool true f g = f refl
by_bool false f g = g refl

-- a comparison of names tells which are one
pub record TellsApart {K : Type 0} (same : K → K → Bool) : Type 0 where
  pub itself : (a : K) → same a a ≡ true
  pub equal : (a b : K) → same a b ≡ true → a ≡ b

module _ {K : Type 0} (same : K → K → Bool) (told : TellsApart same) where
  -- who has one of two names that differ hasn't the other
  pub not_both : (a b c : K) → same a b ≡ false → same b c ≡ true → same a c ≡ false
  not_both a b c apart is =
      false_from_ne_true (same a c) (λ h. false≢true (sym apart ∙ ap (same a) (told.equal b c is ∙ sym (told.equal a c h)) ∙ told.itself a))

  pub other_way : (a b : K) → same a b ≡ false → same b a ≡ false
  other_way a b apart = false_from_ne_true (same b a) (λ h. false≢true (sym apart ∙ ap (λ c. same c b) (sym (told.equal b a h)) ∙ told.itself b))

  pub names_apart : (a b : K) → same a b ≡ false → (es : List (Entry (Tag K))) → AllByRecursion (λ (e : Entry (Tag K)). has_name same b e.name ≡ true → has_name same a e.name ≡ false) es
  names_apart a b apart [] = tt
  names_apart a b apart (e ∷ es) = (not_both a b e.name.name apart, names_apart a b apart es)

module _ {N : Type 0} where
  pub total-push : (es : List (Entry N)) (new : Entry N) → total (es ++ new ∷ []) ≡ total es + new.size
  total-push es new =
      let all = total-append es (new ∷ []) in
      let one = total-cons new [] in
      omega arith

module _ {N : Type 0} (is : N → Bool) (to : Entry N → Entry N) where
  changed : (e : Entry N) (es : List (Entry N)) → is e.name ≡ true → change is to (e ∷ es) ≡ to e ∷ es
  changed e es h = cond-true (is e.name) (to e ∷ es) (e ∷ change is to es) h

  passed_over : (e : Entry N) (es : List (Entry N)) → is e.name ≡ false → change is to (e ∷ es) ≡ e ∷ change is to es
  passed_over e es h = cond-false (is e.name) (to e ∷ es) (e ∷ change is to es) h

  found_here : (e : Entry N) (es : List (Entry N)) → is e.name ≡ true → entry_named is (e ∷ es) ≡ Some e
  found_here e es h = cond-true (is e.name) (Some e) (entry_named is es) h

  found_later : (e : Entry N) (es : List (Entry N)) → is e.name ≡ false → entry_named is (e ∷ es) ≡ entry_named is es
  found_later e es h = cond-false (is e.name) (Some e) (entry_named is es) h

  pub total-change : (es : List (Entry N)) (found : Entry N) → entry_named is es ≡ Some found → found.size + total (change is to es) ≡ (to found).size + total es
  total-change [] found own = absurd (none-some found own)
  total-change (e ∷ es) found own =
      by_bool (is e.name)
      (λ h.
      let same : e ≡ found = same_Some e found (sym (found_here e es h) ∙ own) in
      let sizes : e.size ≡ found.size = ap (λ (x : Entry N). x.size) same in
      let news : (to e).size ≡ (to found).size = ap (λ (x : Entry N). (to x).size) same in
      let after : total (change is to (e ∷ es)) ≡ (to e).size + total es = ap total (changed e es h) ∙ total-cons (to e) es in
      let before : total (e ∷ es) ≡ e.size + total es = total-cons e es in
      omega arith)
      (λ h.
      let rest = total-change es found (sym (found_later e es h) ∙ own) in
      let after : total (change is to (e ∷ es)) ≡ e.size + total (change is to es) = ap total (passed_over e es h) ∙ total-cons e (change is to es) in
      let before : total (e ∷ es) ≡ e.size + total es = total-cons e es in
      omega arith)

  pub found-change : (es : List (Entry N)) (found : Entry N) → is (to found).name ≡ true → entry_named is es ≡ Some found → entry_named is (change is to es) ≡ Some (to found)
  found-change [] found means own = absurd (none-some found own)
  found-change (e ∷ es) found means own =
      by_bool (is e.name)
      (λ h.
      let same : e ≡ found = same_Some e found (sym (found_here e es h) ∙ own) in
      ap (entry_named is) (changed e es h) ∙ found_here (to e) es (ap (λ (x : Entry N). is (to x).name) same ∙ means) ∙ ap (λ (x : Entry N). Some (to x)) same)
      (λ h. ap (entry_named is) (passed_over e es h) ∙ found_later e (change is to es) h ∙ found-change es found means (sym (found_later e es h) ∙ own))

  -- where the others have it, and the one that it becomes
  pub all-change : (P Q : Entry N → Type 0) (es : List (Entry N)) → ((e : Entry N) → P e → is e.name ≡ true → Q (to e)) → AllByRecursion P es
      → AllByRecursion Q (without is es) → AllByRecursion Q (change is to es)
  all-change P Q [] changes each others = tt
  all-change P Q (e ∷ es) changes each others =
      by_bool (is e.name)
      (λ h. rw (changed e es h) (changes e each.0 h, subst (AllByRecursion Q) (cond-true (is e.name) es (e ∷ without is es) h) others))
      (λ h.
      let rest : AllByRecursion Q (e ∷ without is es) = subst (AllByRecursion Q) (cond-false (is e.name) es (e ∷ without is es) h) others in
      rw (passed_over e es h) (rest.0, all-change P Q es changes each.1 rest.1))

-- Another name keeps its entry.
module _ {N : Type 0} (is other : N → Bool) (to : Entry N → Entry N) where
  abbrev pub Apart : List (Entry N) → Type 0
  Apart es = AllByRecursion (λ (e : Entry N). other e.name ≡ true → is e.name ≡ false) es

  pub other-change : (es : List (Entry N)) → Apart es → ((e : Entry N) → other e.name ≡ false → other (to e).name ≡ false) → entry_named other (change is to es) ≡ entry_named other es
  other-change [] apart still = refl
  other-change (e ∷ es) apart still =
      by_bool (is e.name)
      (λ h.
      let gone : other e.name ≡ false = false_from_ne_true (other e.name) (λ k. false≢true (sym (apart.0 k) ∙ h)) in
      ap (entry_named other) (changed is to e es h)
      ∙ cond-false (other (to e).name) (Some (to e)) (entry_named other es) (still e gone)
      ∙ sym (cond-false (other e.name) (Some e) (entry_named other es) gone))
      (λ h.
      ap (entry_named other) (passed_over is to e es h)
      ∙ ap (λ (o : Option (Entry N)). cond (other e.name) (Some e) o) (other-change es apart.1 still))
