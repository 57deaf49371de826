-- A line whose names are numbers, each one request's.
use Rattle.std.proofs.Common.{◌≡◌, ℕ, ◌+◌, ◌≤◌, Bool, true, false, cond, ◌==◌, nat_eq, eqb-true, eq-eqb, ne_eqb, List, [], ◌∷◌, map, None, if◌then◌else◌, refl, ap, ap₂, sym, ◌∙◌, arith}
use Rattle.std.specs.List.{AllByRecursion, IsDistinct}
use Rattle.std.proofs.lemmas.Map.Keys.{IsDistinct-head, IsDistinct-tail}
use Rattle.std.proofs.lemmas.Bool.{true≢false}
use Rattle.band_balance.specs.Line.{Entry, Line, requests, rename, join, entry_named, without, poll_granted, cancel}
use Rattle.band_balance.proofs.Rename.{join-rename, rename_agree}
use Rattle.band_balance.proofs.Requests.{count_named, count_named-cons, count_named-none, all-weaker, all-not_named, entry_named-without_other, entry_named-cancel_other, entry_named-poll_granted_other}

-- the names of the entries
abbrev pub names : List (Entry ℕ) → List ℕ
names entries = map (λ (e : Entry ℕ). e.name) entries

-- the test for one name
abbrev pub is_name : ℕ → ℕ → Bool
is_name name other = name == other

-- two names that differ are not meant by one test
pub apart : (name other : ℕ) (entries : List (Entry ℕ)) → (other ≡ name → ⊥) → AllByRecursion (λ (e : Entry ℕ). (other == e.name) ≡ true → (name == e.name) ≡ false) entries
apart name other [] h = tt
apart name other (x ∷ xs) h = ((λ e. ne_eqb name x.name (λ k. h (eqb-true other x.name e ∙ sym k))), apart name other xs h)

-- nobody is found under a name that none of the names is
none_named : (name : ℕ) (entries : List (Entry ℕ)) → AllByRecursion (λ y. nat_eq name y ≡ false) (names entries) → entry_named (is_name name) entries ≡ None
none_named name [] h = refl
none_named name (x ∷ xs) h = rw h.0 (none_named name xs h.1)

-- one request for each name, so a name stands once at most
pub once : (name : ℕ) (entries : List (Entry ℕ)) → IsDistinct nat_eq (names entries) → count_named (is_name name) entries ≤ 1
once name [] h = omega arith
once name (x ∷ xs) h = go (name == x.name) refl (once name xs (IsDistinct-tail nat_eq x.name (names xs) h))
  where
    go : (b : Bool) → (name == x.name) ≡ b → count_named (is_name name) xs ≤ 1 → count_named (is_name name) (x ∷ xs) ≤ 1
    go true e ih =
        let none : count_named (is_name name) xs ≡ 0 =
        ap (λ (n : ℕ). count_named (is_name n) xs) (eqb-true name x.name e) ∙ count_named-none (is_name x.name) xs (none_named x.name xs (IsDistinct-head nat_eq x.name (names xs) h)) in
        let split : count_named (is_name name) (x ∷ xs) ≡ cond true 1 0 + count_named (is_name name) xs =
        count_named-cons (is_name name) x xs ∙ ap (λ (b : Bool). cond b 1 0 + count_named (is_name name) xs) e in
        omega arith
    go false e ih =
        let split : count_named (is_name name) (x ∷ xs) ≡ cond false 1 0 + count_named (is_name name) xs =
        count_named-cons (is_name name) x xs ∙ ap (λ (b : Bool). cond b 1 0 + count_named (is_name name) xs) e in
        omega arith

-- where one leaves, every other stays
pub stays-without : (name other : ℕ) (entries : List (Entry ℕ)) → (other ≡ name → ⊥) → entry_named (is_name other) (without (is_name name) entries) ≡ entry_named (is_name other) entries
stays-without name other entries h = entry_named-without_other (is_name name) (is_name other) entries (apart name other entries h)

pub stays-cancel : (name other : ℕ) (line : Line ℕ) → (other ≡ name → ⊥) → entry_named (is_name other) (requests (cancel (is_name name) line)) ≡ entry_named (is_name other) (requests line)
stays-cancel name other line h = entry_named-cancel_other (is_name name) (is_name other) line (apart name other (requests line) h)

pub stays-poll_granted : (name other : ℕ) (line : Line ℕ) → (other ≡ name → ⊥) → entry_named (is_name other) (requests (poll_granted (is_name name) line)) ≡ entry_named (is_name other) (requests line)
stays-poll_granted name other line h = entry_named-poll_granted_other (is_name name) (is_name other) line (apart name other (requests line) h)

-- Other names for numbered ones.
module _ {M : Type 0} where
  -- the same names, but for one
  abbrev pub named_at : ℕ → M → (ℕ → M) → ℕ → M
  named_at name new names_of other = if name == other then new else names_of other

  pub named_at_itself : (name : ℕ) (new : M) (names_of : ℕ → M) → named_at name new names_of name ≡ new
  named_at_itself name new names_of = rw (eq-eqb name name refl) refl

  pub named_at_other : (name : ℕ) (new : M) (names_of : ℕ → M) (other : ℕ) → (name == other) ≡ false → named_at name new names_of other ≡ names_of other
  named_at_other name new names_of other h = rw h refl

  -- a new name changes nothing where nobody has its number
  pub rename-named_at : (name : ℕ) (new : M) (names_of : ℕ → M) (line : Line ℕ) → entry_named (is_name name) (requests line) ≡ None →
      rename (named_at name new names_of) line ≡ rename names_of line
  rename-named_at name new names_of line h =
      rename_agree (named_at name new names_of) names_of line
      (all-weaker (λ (e : Entry ℕ). (name == e.name) ≡ false) (λ (e : Entry ℕ). named_at name new names_of e.name ≡ names_of e.name)
      (λ e k. named_at_other name new names_of e.name k) (requests line) (all-not_named (is_name name) (requests line) h))

  -- a request that joins under a number that nobody has joins under its new name
  pub rename-join_named_at : (name : ℕ) (new : M) (names_of : ℕ → M) (size waker : ℕ) (line : Line ℕ) → entry_named (is_name name) (requests line) ≡ None →
      rename (named_at name new names_of) (join name size waker line) ≡ join new size waker (rename names_of line)
  rename-join_named_at name new names_of size waker line h =
      sym (join-rename (named_at name new names_of) name size waker line)
      ∙ ap₂ (λ (n : M) (l : Line M). join n size waker l) (named_at_itself name new names_of) (rename-named_at name new names_of line h)

  -- a test that means only the name of one number agrees with the test for that number
  pub tests_agree : (is : M → Bool) (names_of : ℕ → M) (name : ℕ) (entries : List (Entry ℕ)) → is (names_of name) ≡ true →
      AllByRecursion (λ (e : Entry ℕ). is (names_of e.name) ≡ true → e.name ≡ name) entries →
      AllByRecursion (λ (e : Entry ℕ). is (names_of e.name) ≡ (name == e.name)) entries
  tests_agree is names_of name entries meant only = all-weaker _ (λ (e : Entry ℕ). is (names_of e.name) ≡ (name == e.name)) (λ e k. go e.name k (is (names_of e.name)) refl) entries only
    where
      go : (other : ℕ) → (is (names_of other) ≡ true → other ≡ name) → (b : Bool) → is (names_of other) ≡ b → is (names_of other) ≡ (name == other)
      go other k true e = e ∙ sym (eq-eqb name other (sym (k e)))
      go other k false e = e ∙ sym (ne_eqb name other (λ s. true≢false (sym meant ∙ ap (λ (n : ℕ). is (names_of n)) s ∙ e)))
