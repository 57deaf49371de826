-- The slots of a line under the names that the table has for them: each name has one slot.
use Rattle.std.proofs.Common.{◌≡◌, ℕ, ◌==◌, true, false, List, [], ◌∷◌, ◌++◌, map, Some, None, refl, sym, ap, ◌∙◌, subst, eqb-true}
use Rattle.std.specs.List.{AllByRecursion}
use Rattle.std.specs.Str.{bytes_eq}
use Rattle.std.proofs.lemmas.Bool.{cond-true, cond-false, false≢true}
use Rattle.std.proofs.lemmas.Option.{none-some}
use Rattle.band_balance.specs.Laws.{Pairwise}
use Rattle.band_balance.specs.Line.{Entry, entry_named, without, renamed}
use Rattle.band_balance.specs.Rule.{has_name as is_tag}
use Rattle.band_balance.proofs.Distinct.{tests_agree}
use Rattle.band_balance.proofs.Fronts.{unmapped, pairwise-cross}
use Rattle.band_balance.proofs.Held.{by_bool, other_way}
use Rattle.band_balance.proofs.Orderly.{pairwise-push}
use Rattle.band_balance.proofs.Requests.{all-found, found_is_named, all-weaker, all-not_named, none-from_all}
use Rattle.band_balance.proofs.Rules.{bytes_told}
use Rattle.band_rules.specs.State.{Tag}
use Rattle.band_sem.specs.Semaphore.{is_slot}

-- the names of entries differ
abbrev pub NamedOnce : List (Entry Tag) → Type 0
NamedOnce entries = Pairwise (λ (a b : Entry Tag). bytes_eq a.name.name b.name.name ≡ false) entries

-- who has a new name comes last
pub once_push : (entries : List (Entry Tag)) (new : Entry Tag) → NamedOnce entries → entry_named (is_tag bytes_eq new.name.name) entries ≡ None → NamedOnce (entries ++ new ∷ [])
once_push entries new once none =
    pairwise-push _ entries new once
    (all-weaker _ (λ (e : Entry Tag). bytes_eq e.name.name new.name.name ≡ false) (λ e apart. other_way bytes_eq bytes_told new.name.name e.name.name apart) entries
    (all-not_named (is_tag bytes_eq new.name.name) entries none))

-- who has a name isn't there once it left
pub gone_without : (name : List ℕ) (entries : List (Entry Tag)) → NamedOnce entries → entry_named (is_tag bytes_eq name) (without (is_tag bytes_eq name) entries) ≡ None
gone_without name [] once = refl
gone_without name (e ∷ es) once =
    by_bool (bytes_eq name e.name.name)
    (λ h.
    ap (entry_named (is_tag bytes_eq name)) (cond-true (bytes_eq name e.name.name) es (e ∷ without (is_tag bytes_eq name) es) h)
    ∙ none-from_all (is_tag bytes_eq name) es
    (all-weaker _ (λ (other : Entry Tag). bytes_eq name other.name.name ≡ false)
    (λ other apart. subst (λ (n : List ℕ). bytes_eq n other.name.name ≡ false) (sym (bytes_told.equal name e.name.name h)) apart) es once.0))
    (λ h.
    ap (entry_named (is_tag bytes_eq name)) (cond-false (bytes_eq name e.name.name) es (e ∷ without (is_tag bytes_eq name) es) h)
    ∙ cond-false (bytes_eq name e.name.name) (Some e) _ h
    ∙ gone_without name es once.1)

-- who has a name in front has it nowhere behind
pub nowhere_behind : (name : List ℕ) (front back : List (Entry Tag)) → NamedOnce (front ++ back) → (found : Entry Tag) → entry_named (is_tag bytes_eq name) front ≡ Some found
    → entry_named (is_tag bytes_eq name) back ≡ None
nowhere_behind name front back once found there =
    let named = bytes_told.equal name found.name.name (found_is_named (is_tag bytes_eq name) front found there) in
    none-from_all (is_tag bytes_eq name) back
    (all-weaker _ (λ (e : Entry Tag). bytes_eq name e.name.name ≡ false)
    (λ e apart. ap (λ n. bytes_eq n e.name.name) named ∙ all-found _ (is_tag bytes_eq name) front found apart there) back (pairwise-cross _ front back once))

module _ (tags : ℕ → Tag) (slot size : ℕ) (name : List ℕ) (meant : bytes_eq name (tags slot).name ≡ true) where
  abbrev IsOnly : Entry ℕ → Type 0
  IsOnly e = bytes_eq name (tags e.name).name ≡ true → e.name ≡ slot

  never : (a b : ℕ) → bytes_eq (tags a).name (tags b).name ≡ false → bytes_eq name (tags a).name ≡ true → bytes_eq name (tags b).name ≡ true → ⊥
  never a b apart is also =
      false≢true (sym apart ∙ ap (λ n. bytes_eq n (tags b).name) (sym (bytes_told.equal name (tags a).name is)) ∙ also)

  only_slot : (entries : List (Entry ℕ)) → NamedOnce (map (renamed tags) entries) → entry_named (is_slot slot) entries ≡ Some (record { name = slot; size = size }) → AllByRecursion IsOnly entries
  only_slot [] once own = absurd (none-some _ own)
  only_slot (e ∷ es) once own =
      let apart : AllByRecursion (λ (other : Entry ℕ). bytes_eq (tags e.name).name (tags other.name).name ≡ false) es = unmapped (renamed tags) _ es once.0 in
      by_bool (slot == e.name)
      (λ h.
      let same : slot ≡ e.name = eqb-true slot e.name h in (
        (λ is. sym same),
        all-weaker _ IsOnly (λ other differs is. absurd (never e.name other.name differs (subst (λ s. bytes_eq name (tags s).name ≡ true) same meant) is)) es apart,
      ))
      (λ h.
      let later : entry_named (is_slot slot) es ≡ Some (record { name = slot; size = size }) = sym (cond-false (slot == e.name) (Some e) (entry_named (is_slot slot) es) h) ∙ own in (
        (λ is. absurd (never e.name slot (all-found _ (is_slot slot) es _ apart later) is meant)),
        only_slot es once.1 later,
      ))

  -- so a test for the name means the slot
  pub agrees : (entries : List (Entry ℕ)) → NamedOnce (map (renamed tags) entries) → entry_named (is_slot slot) entries ≡ Some (record { name = slot; size = size })
      → AllByRecursion (λ (e : Entry ℕ). is_tag bytes_eq name (tags e.name) ≡ (slot == e.name)) entries
  agrees entries once own = tests_agree (is_tag bytes_eq name) tags slot entries meant (only_slot entries once own)
