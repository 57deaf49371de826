-- What a name is in a state that the player's table stands for.
use Rattle.std.proofs.Common.{◌≡◌, ℕ, zero, suc, List, [], ◌∷◌, Option, Some, None, refl, sym, ap, ◌∙◌, arith, eq-eqb, ne_eqb}
use Rattle.std.specs.List.{slice_get}
use Rattle.std.proofs.lemmas.Option.{none-some, same_Some}
use Rattle.band_rules.specs.State.{State, Named, Tag, Standing, Absent, standing_at, standing}
use Rattle.band_player.specs.Objects.{ObjectState}
use Rattle.band_player.specs.Table.{Seen, seen, unseen, shown_of, shown, StandsUnder}
use Rattle.band_player.specs.Thing.{Thing, place_at}
use Rattle.band_player.proofs.Lists.{also_at}

-- what a name is where one object has this of it
abbrev pub stands_as : Named → Seen → Standing → Standing
stands_as named s elsewhere = standing_at named s.named s.request s.holding elsewhere

nowhere : (name : List ℕ) (state : State) → ((place : ℕ) (other : Named) → slice_get state place ≡ Some other → seen name other ≡ unseen) → standing name state ≡ Absent
nowhere name [] none = refl
nowhere name (first ∷ rest) none =
    ap (λ s. stands_as first s (standing name rest)) (none zero first refl) ∙ nowhere name rest (λ place other at. none (suc place) other at)

only_at : (name : List ℕ) (state : State) (place : ℕ) (named : Named) → slice_get state place ≡ Some named
    → ((other : ℕ) (another : Named) → (other ≡ place → ⊥) → slice_get state other ≡ Some another → seen name another ≡ unseen)
    → standing name state ≡ stands_as named (seen name named) Absent
only_at name [] place named at others = absurd (none-some named at)
only_at name (first ∷ rest) zero named at others =
    ap (λ s. stands_as first (seen name first) s) (nowhere name rest (λ place other there. others (suc place) other (λ same. absurd (omega arith)) there))
    ∙ ap (λ n. stands_as n (seen name n) Absent) (same_Some first named at)
only_at name (first ∷ rest) (suc place) named at others =
    ap (λ s. stands_as first s (standing name rest)) (others zero first (λ same. absurd (omega arith)) refl)
    ∙ only_at name rest place named at (λ other another apart there. others (suc other) another (λ same. apart (omega arith)) there)

-- what is shown at the place of a thing, and at others
pub shown_here : (place : ℕ) (name : List ℕ) (thing : Thing) → place_at thing ≡ place → shown place name (Some thing) ≡ shown_of name thing
shown_here place name thing here = rw (eq-eqb (place_at thing) place here) refl

pub shown_elsewhere : (place : ℕ) (name : List ℕ) (thing : Thing) → (place ≡ place_at thing → ⊥) → shown place name (Some thing) ≡ unseen
shown_elsewhere place name thing apart = rw (ne_eqb (place_at thing) place (λ same. apart (sym same))) refl

module _ (tags : ℕ → ℕ → Tag) (table : List ℕ → Option Thing) (kept : List ObjectState) (state : State) (stands : StandsUnder tags table kept state) where
  pub seen_at : (name : List ℕ) (place : ℕ) (named : Named) → slice_get state place ≡ Some named → seen name named ≡ shown place name (table name)
  seen_at name place named at =
      let other = also_at kept state place named stands.size at in
      (stands.each place other.0 named other.1 at).every name

  pub absent_there : (name : List ℕ) → table name ≡ None → standing name state ≡ Absent
  absent_there name none = nowhere name state (λ place other at. seen_at name place other at ∙ ap (shown place name) none)

  -- what a live name is, by the object at its place
  pub standing_there : (name : List ℕ) (thing : Thing) (named : Named) → table name ≡ Some thing → slice_get state (place_at thing) ≡ Some named
      → standing name state ≡ stands_as named (shown_of name thing) Absent
  standing_there name thing named is at =
      only_at name state (place_at thing) named at
      (λ place other apart there. seen_at name place other there ∙ ap (shown place name) is ∙ shown_elsewhere place name thing apart)
      ∙ ap (λ s. stands_as named s Absent) (seen_at name (place_at thing) named at ∙ ap (shown (place_at thing) name) is ∙ shown_here (place_at thing) name thing refl)
