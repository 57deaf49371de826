-- What the table says of a name, whatever it stands for.
use Rattle.std.proofs.Common.{◌≡◌, ℕ, ◌==◌, Bool, true, false, cond, List, Option, Some, None, IsSome, IsOk, Result, Ok, Err, refl, sym, ap, ◌∙◌, subst, eqb-true}
use Rattle.std.specs.List.{slice_get}
use Rattle.std.specs.Result.{OnErr}
use Rattle.std.specs.Str.{bytes_eq}
use Rattle.std.proofs.lemmas.Bool.{cond-true, cond-false, true≢false}
use Rattle.std.proofs.lemmas.Option.{none-some}
use Rattle.band_base.specs.declared.refusal.Refusal.{Refusal}
use Rattle.band_base.specs.declared.refusal.Refusal.TheVariants.{Kind, Same, Other}
use Rattle.band_balance.specs.Object.{Mode, Permit, is_of}
use Rattle.band_balance.proofs.Held.{by_bool}
use Rattle.band_balance.proofs.Rules.{bytes_told}
use Rattle.band_rules.specs.Plan.{same_mode}
use Rattle.band_rules.proofs.Planned.{modes_same}
use Rattle.band_sem.specs.declared.errors.ReleaseError.{ReleaseError}
use Rattle.band_sem.specs.declared.errors.ReleaseError.TheVariants.{Overflow}
use Rattle.band_sem.specs.declared.errors.ReduceError.{ReduceError}
use Rattle.band_sem.specs.declared.errors.ReduceError.TheVariants.{Debt, NoMemory}
use Rattle.band_player.specs.Moves.{object_place, offers_at, offering, held_as, mergeable, mergeable_held}
use Rattle.band_player.specs.Objects.{ObjectState, HoldingState}
use Rattle.band_player.specs.Thing.{Thing}
use Rattle.band_player.specs.Thing as things
use Rattle.band_player.specs.Names.{is_object}
use Rattle.band_player.specs.Token.{TokenState, thing_of, IsHeld}
use Rattle.band_player.specs.Token as tokens

pub object_from : (found : Option Thing) (place : ℕ) → object_place found ≡ Ok place → found ≡ Some (things.Object place)
object_from (Some (things.Object other)) place is = let same : other ≡ place = cc in ap (λ p. Some (things.Object p)) same
object_from found place is = cc

pub offering_as : (mode : Mode) (kept : List ObjectState) (found : Result ℕ Refusal) (place : ℕ) (object : ObjectState) (b : Bool) → found ≡ Ok place → slice_get kept place ≡ Some object
    → is_of object.kind mode ≡ b
    → offering mode kept found ≡ cond b (Ok place) (Err Kind)
offering_as mode kept found place object b is there offers =
    ap (offering mode kept) is ∙ ap (λ o. cond (offers_at mode o) (Ok place) (Err Kind)) there ∙ ap (λ (t : Bool). cond t (Ok place) (Err Kind)) offers

pub offered : (mode : Mode) (kept : List ObjectState) (found : Option Thing) (place : ℕ) → offering mode kept (object_place found) ≡ Ok place
    → (found ≡ Some (things.Object place)) × (offers_at mode (slice_get kept place) ≡ true)
offered mode kept found place is = go (object_place found) refl is
  where
    go : (at : Result ℕ Refusal) → object_place found ≡ at → offering mode kept at ≡ Ok place → (found ≡ Some (things.Object place)) × (offers_at mode (slice_get kept place) ≡ true)
    go (Err refusal) at is = cc
    go (Ok other) at is = test (offers_at mode (slice_get kept other)) refl is
      where
        test : (b : Bool) → offers_at mode (slice_get kept other) ≡ b → cond b (Ok other) (Err Kind) ≡ Ok place → (found ≡ Some (things.Object place)) × (offers_at mode (slice_get kept place) ≡ true)
        test true offers is = let same : other ≡ place = cc in subst (λ p. (found ≡ Some (things.Object p)) × (offers_at mode (slice_get kept p) ≡ true)) same (object_from found other at, offers)
        test false offers is = cc

pub held_from : (mode : Mode) (found : Option Thing) (holding : HoldingState) → held_as mode found ≡ Ok holding → (found ≡ Some (things.Holding holding)) × (holding.mode ≡ mode)
held_from mode None holding is = cc
held_from mode (Some (things.Object place)) holding is = cc
held_from mode (Some (things.Request place request)) holding is = cc
held_from mode (Some (things.Holding other)) holding is = test (same_mode mode other.mode) refl is
  where
    test : (b : Bool) → same_mode mode other.mode ≡ b → cond b (Ok other) (Err Kind) ≡ Ok holding → (Some (things.Holding other) ≡ Some (things.Holding holding)) × (holding.mode ≡ mode)
    test true same is =
        let one : other ≡ holding = cc in
        (ap (λ h. Some (things.Holding h)) one, subst (λ (h : HoldingState). h.mode ≡ mode) one (sym (modes_same mode other.mode same)))
    test false same is = cc

-- what is held in a mode is a token that is held in it
pub held_token : (mode : Mode) (token : TokenState) (holding : HoldingState) → held_as mode (Some (thing_of token)) ≡ Ok holding → (token ≡ tokens.Holding holding) × IsHeld mode token
held_token mode (tokens.Request request) holding is = cc
held_token mode (tokens.Holding other) holding is =
    let found = held_from mode (Some (things.Holding other)) holding is in
    let there = found.0 in
    let one : other ≡ holding = cc in
    (ap tokens.Holding one, ap (λ (h : HoldingState). h.mode) one ∙ found.1)

pub held_ok : (mode : Mode) (token : TokenState) → IsOk (held_as mode (Some (thing_of token))) → IsHeld mode token
held_ok mode token ok = go (held_as mode (Some (thing_of token))) refl ok
  where
    go : (found : Result HoldingState Refusal) → held_as mode (Some (thing_of token)) ≡ found → IsOk found → IsHeld mode token
    go (Ok holding) is ok = (held_token mode token holding is).1
    go (Err refusal) is ok = cc

pub object_is : (found : Option Thing) → is_object found ≡ true → (place : ℕ) × (found ≡ Some (things.Object place))
object_is (Some (things.Object place)) is = (place, refl)
object_is found is = cc

-- two permits of one object, under two names
pub record CanMerge (kept spent : List ℕ) (first_found second_found : Option Thing) (place : ℕ) : Type 0 where
  pub first : HoldingState
  pub second : HoldingState
  pub first_is : held_as Permit first_found ≡ Ok first
  pub second_is : held_as Permit second_found ≡ Ok second
  pub apart : bytes_eq kept spent ≡ false
  pub one : first.of ≡ second.of
  pub at : place ≡ first.of

pub can_merge : (kept spent : List ℕ) (first_found second_found : Option Thing) (place : ℕ) → mergeable kept spent first_found second_found ≡ Ok place
    → CanMerge kept spent first_found second_found place
can_merge kept spent None second place is = cc
can_merge kept spent (Some first) None place is = cc
can_merge kept spent (Some first) (Some second) place is = go (held_as Permit (Some first)) (held_as Permit (Some second)) (bytes_eq kept spent) refl refl refl is
  where
    go : (h1 h2 : Result HoldingState Refusal) (is_same : Bool) → held_as Permit (Some first) ≡ h1 → held_as Permit (Some second) ≡ h2 → bytes_eq kept spent ≡ is_same
        → mergeable_held kept spent h1 h2 ≡ Ok place → CanMerge kept spent (Some first) (Some second) place
    go (Err refusal) h2 is_same one other names is = cc
    go (Ok a) (Err refusal) is_same one other names is = cc
    go (Ok a) (Ok b) true one other names is = let refused : Err Same ≡ Ok place = sym (cond-true _ _ _ names) ∙ is in cc
    go (Ok a) (Ok b) false one other names is =
        by_bool (a.of == b.of)
        (λ h.
        let same : Ok a.of ≡ Ok place = sym (cond-true _ _ _ h) ∙ sym (cond-false _ _ _ names) ∙ is in
        record { first = a; second = b; first_is = one; second_is = other; apart = names; one = eqb-true a.of b.of h; at = cc })
        (λ h. let refused : Err Other ≡ Ok place = sym (cond-false _ _ _ h) ∙ sym (cond-false _ _ _ names) ∙ is in cc)

pub live_thing : (found : Option Thing) → IsSome found → (thing : Thing) × (found ≡ Some thing)
live_thing None some = cc
live_thing (Some thing) some = (thing, refl)

pub free_name : (found : Option Thing) (live : Bool) → (IsSome found → live ≡ true) → live ≡ false → found ≡ None
free_name None live is not_live = refl
free_name (Some thing) live is not_live = absurd (true≢false (sym (is refl) ∙ not_live))

-- a name that is live is not one that isn't
pub two_names : (table : List ℕ → Option Thing) (name made : List ℕ) (thing : Thing) → table name ≡ Some thing → table made ≡ None → bytes_eq name made ≡ false
two_names table name made thing is free =
    by_bool (bytes_eq name made) (λ h. absurd (none-some thing (sym free ∙ ap table (sym (bytes_told.equal name made h)) ∙ is))) (λ h. h)

pub same_holding : (mode : Mode) (found : Option Thing) (a b : HoldingState) → held_as mode found ≡ Ok a → held_as mode found ≡ Ok b → a ≡ b
same_holding mode found a b is also = let same : Ok a ≡ Ok b = sym is ∙ also in cc

-- a test that an error tells fails where another came
pub unless_err : {T E : Type 0} (result : Result T E) (b : Bool) (got : T) (error : E) → result ≡ Ok got → (b ≡ true → result ≡ Err error) → b ≡ false
unless_err result true got error is err = let never : Ok got ≡ Err error = sym is ∙ err refl in cc
unless_err result false got error is err = refl

-- a release is refused for one reason
pub only_overflow : (error : ReleaseError) → error ≡ Overflow
only_overflow Overflow = refl

pub no_debt : {T : Type 0} (result : Result T ReduceError) (b : Bool) → result ≡ Err NoMemory → (b ≡ true → result ≡ Err Debt) → b ≡ false
no_debt result true none owes = let never : Err NoMemory ≡ Err Debt = sym none ∙ owes refl in cc
no_debt result false none owes = refl

-- what holds holds at an error
pub on_err : {A E : Type 0} (result : Result A E) (P : Type 0) → P → OnErr result P
on_err (Ok x) P p = tt
on_err (Err e) P p = p
