-- What the maps of the names say of a change, by names.
use Rattle.std.proofs.Common.{◌≡◌, ℕ, true, false, List, Option, Some, None, Result, Ok, Err, refl, sym, ap, ap₂, ◌∙◌, subst}
use Rattle.std.proofs.lemmas.Bool.{cond-true, cond-false, false≢true}
use Rattle.std.proofs.lemmas.Option.{none-some}
use Rattle.std.specs.Ordering.{nat_cmp}
use Rattle.std.specs.Cmp.Lexicographic.{slice_cmp}
use Rattle.std.specs.BTreeMap.{BTreeMap, is_at, Updates, IsUnchanged}
use Rattle.std.specs.Map.{lookup}
use Rattle.std.specs.Result.{OnOk, OnErr, IfOk}
use Rattle.std.specs.Str.{bytes_eq}
use Rattle.std.proofs.lemmas.Map.Text.{is_eq-slice_cmp}
use Rattle.band_base.specs.declared.refusal.Refusal.{Refusal}
use Rattle.band_base.specs.declared.refusal.Refusal.TheVariants.{Unknown}
use Rattle.band_player.specs.Moves.{object_place}
use Rattle.band_player.specs.Apart.{at, AreApart, Sets}
use Rattle.band_player.specs.Thing.{Thing}
use Rattle.band_player.specs.Thing as things
use Rattle.band_player.specs.Token.{TokenState, thing_of}
use Rattle.band_player.specs.declared.names.Names.{Names}
use Rattle.band_player.specs.Names.{thing_from, table_of, thing_at, Updated, is_object}
use Rattle.band_balance.proofs.Held.{by_bool}
use Rattle.band_balance.proofs.Rules.{bytes_told}

pub sets_of : {X : Type 0} (m n : BTreeMap (List ℕ) X) (k : List ℕ) (w : Option X) → Updates (slice_cmp nat_cmp) m n k w → Sets m n k w
sets_of m n k w update = record { each = update.0 }

-- what a map has after a change
module _ {X : Type 0} (m n : BTreeMap (List ℕ) X) (k : List ℕ) (w : Option X) (sets : Sets m n k w) (q : List ℕ) where
  at_changed : bytes_eq k q ≡ true → at n q ≡ w
  at_changed same = sets.each q ∙ cond-true (is_at (slice_cmp nat_cmp k) q) w (at m q) (is_eq-slice_cmp k q ∙ same)

  at_kept : bytes_eq k q ≡ false → at n q ≡ at m q
  at_kept other = sets.each q ∙ cond-false (is_at (slice_cmp nat_cmp k) q) w (at m q) (is_eq-slice_cmp k q ∙ other)

-- a map that was written at a name
pub sets_written : {X : Type 0} (m n written : BTreeMap (List ℕ) X) (k : List ℕ) (x y : X) → n ≡ written → x ≡ y → Updates (slice_cmp nat_cmp) m written k (Some x) → Sets m n k (Some y)
sets_written {X} m n written k x y is same update =
    subst (λ z. Sets m n k (Some z)) same (subst (λ (o : BTreeMap (List ℕ) X). Sets m o k (Some x)) (sym is) (sets_of m written k (Some x) update))

-- the same entries, the same at each name
at_same : {X : Type 0} (m n : BTreeMap (List ℕ) X) → IsUnchanged m n → (name : List ℕ) → at n name ≡ at m name
at_same m n same name = ap (λ es. lookup (is_at (slice_cmp nat_cmp name)) es) same

-- a map from which a name was taken that it didn't have
pub at_without : (m without n : BTreeMap (List ℕ) TokenState) (k : List ℕ) → at m k ≡ None → Updates (slice_cmp nat_cmp) m without k None → IsUnchanged without n
    → (q : List ℕ) → at n q ≡ at m q
at_without m without n k free update same q =
    let sets = sets_of m without k None update in
    at_same without n same q ∙ by_bool (bytes_eq k q)
    (λ is. at_changed m without k None sets q is ∙ sym (sym (ap (at m) (bytes_told.equal k q is)) ∙ free))
    (λ other. at_kept m without k None sets q other)

pub if_ok : {A E : Type 0} {P Q : A → Type 0} (r : Result A E) → IfOk r P → ((x : A) → P x → Q x) → IfOk r Q
if_ok (Ok x) p f = f x p
if_ok (Err e) p f = tt

pub if_done : {A E P : Type 0} {Q : A → Type 0} (r : Result A E) → OnOk r P → ((x : A) → P → Q x) → IfOk r Q
if_done (Ok x) p f = f x p
if_done (Err e) p f = tt

pub if_err : {A E P Q : Type 0} (r : Result A E) → OnErr r P → (P → Q) → OnErr r Q
if_err (Ok x) p f = tt
if_err (Err e) p f = f p

pub on_ok : {A E P Q : Type 0} (r : Result A E) → OnOk r P → (P → Q) → OnOk r Q
on_ok (Ok x) p f = f p
on_ok (Err e) p f = tt

no_token : (o : Option ℕ) (t : Option TokenState) → thing_from o t ≡ None → t ≡ None
no_token None None is = refl
no_token None (Some token) is = absurd (none-some (thing_of token) (sym is))
no_token (Some place) t is = absurd (none-some (things.Object place) (sym is))

no_place : (o : Option ℕ) (t : Option TokenState) → is_object (thing_from o t) ≡ false → o ≡ None
no_place None t test = refl
no_place (Some place) t test = absurd (false≢true (sym test))

-- a name that is neither a token's nor an object's
pub no_token_kind : (o : Option ℕ) (t : Option TokenState) (refusal : Refusal) → t ≡ None → object_place (thing_from o t) ≡ Err refusal → (thing_from o t ≡ None) × (refusal ≡ Unknown)
no_token_kind None None refusal none is = (refl, cc)
no_token_kind None (Some token) refusal none is = absurd (none-some token (sym none))
no_token_kind (Some place) t refusal none is = cc

none_unless : (o : Option ℕ) → ((place : ℕ) → o ≡ Some place → ⊥) → o ≡ None
none_unless None never = refl
none_unless (Some place) never = absurd (never place refl)

module _ (names : Names) (k : List ℕ) where
  pub free_of_token : thing_at names k ≡ None → at names.tokens k ≡ None
  free_of_token = no_token (at names.objects k) (at names.tokens k)

  pub free_of_object : is_object (thing_at names k) ≡ false → at names.objects k ≡ None
  free_of_object = no_place (at names.objects k) (at names.tokens k)

  -- a token's name is no object's
  pub no_object : (token : TokenState) → at names.tokens k ≡ Some token → at names.objects k ≡ None
  no_object token is = none_unless (at names.objects k) (λ place there. names.apart k place token there is)

  pub token_there : (token : TokenState) → at names.tokens k ≡ Some token → thing_at names k ≡ Some (thing_of token)
  token_there token is = ap₂ thing_from (no_object token is) is

  pub object_there : (place : ℕ) → at names.objects k ≡ Some place → thing_at names k ≡ Some (things.Object place)
  object_there place is = ap (λ o. thing_from o (at names.tokens k)) is

  -- a new object
  module _ (objects : BTreeMap (List ℕ) ℕ) (place : ℕ) where
    pub object_added : Updates (slice_cmp nat_cmp) names.objects objects k (Some place) → Updated (thing_at names) (table_of objects names.tokens) k (Some (things.Object place))
    object_added update = record {
      here = λ q same. ap (λ o. thing_from o (at names.tokens q)) (at_changed names.objects objects k _ (sets_of names.objects objects k _ update) q same);
      others = λ q other. ap (λ o. thing_from o (at names.tokens q)) (at_kept names.objects objects k _ (sets_of names.objects objects k _ update) q other);
    }

    pub object_apart : {A E : Type 0} (result : Result A E) → at names.tokens k ≡ None → OnOk result (Updates (slice_cmp nat_cmp) names.objects objects k (Some place))
        → OnErr result (IsUnchanged names.objects objects)
        → AreApart objects names.tokens
    object_apart (Ok x) free update same name p token is_place is_token = by_bool (bytes_eq k name)
        (λ same_name. none-some token (sym free ∙ ap (at names.tokens) (bytes_told.equal k name same_name) ∙ is_token))
        (λ other. names.apart name p token (sym (at_kept names.objects objects k _ (sets_of names.objects objects k _ update) name other) ∙ is_place) is_token)
    object_apart (Err e) free update same name p token is_place is_token = names.apart name p token (sym (at_same names.objects objects same name) ∙ is_place) is_token

  -- another token, or none
  module _ (tokens : BTreeMap (List ℕ) TokenState) where
    pub token_set : (w : Option TokenState) → at names.objects k ≡ None → Sets names.tokens tokens k w → Updated (thing_at names) (table_of names.objects tokens) k (thing_from None w)
    token_set w free sets = record {
      here = λ q same. ap₂ thing_from (ap (at names.objects) (sym (bytes_told.equal k q same)) ∙ free) (at_changed names.tokens tokens k w sets q same);
      others = λ q other. ap (thing_from (at names.objects q)) (at_kept names.tokens tokens k w sets q other);
    }

    pub apart_set : (w : Option TokenState) → at names.objects k ≡ None → Sets names.tokens tokens k w → AreApart names.objects tokens
    apart_set w free sets name p token is_place is_token = by_bool (bytes_eq k name)
        (λ same. none-some p (sym free ∙ ap (at names.objects) (bytes_told.equal k name same) ∙ is_place))
        (λ other. names.apart name p token is_place (sym (at_kept names.tokens tokens k w sets name other) ∙ is_token))

    pub apart_kept : ((name : List ℕ) → at tokens name ≡ at names.tokens name) → AreApart names.objects tokens
    apart_kept same name p token is_place is_token = names.apart name p token is_place (sym (same name) ∙ is_token)

    -- after a token was added, or none
    pub apart_added : {A E : Type 0} (result : Result A E) → at names.objects k ≡ None → IfOk result (λ x. (w : Option TokenState) × Sets names.tokens tokens k w)
        → OnErr result ((name : List ℕ) → at tokens name ≡ at names.tokens name) → AreApart names.objects tokens
    apart_added (Ok x) free added same = apart_set added.0 free added.1
    apart_added (Err e) free added same = apart_kept same

    -- a token that was lent, and is given back as another
    pub token_filled : (token left now : TokenState) → at names.tokens k ≡ Some token → left ≡ now → Sets names.tokens tokens k (Some left)
        → Updated (thing_at names) (table_of names.objects tokens) k (Some (thing_of now))
    token_filled token left now was is sets = token_set (Some now) (no_object token was) (subst (λ (t : TokenState). Sets names.tokens tokens k (Some t)) is sets)

    pub apart_filled : (token left : TokenState) → at names.tokens k ≡ Some token → Sets names.tokens tokens k (Some left) → AreApart names.objects tokens
    apart_filled token left was sets = apart_set (Some left) (no_object token was) sets

-- a name changes twice
pub updated_twice : {table mid table' : List ℕ → Option Thing} {it : List ℕ} {first second : Option Thing} → Updated table mid it first → Updated mid table' it second → Updated table table' it second
updated_twice first second = record { here = second.here; others = λ other apart. second.others other apart ∙ first.others other apart }
