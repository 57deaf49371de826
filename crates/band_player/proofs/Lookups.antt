-- What a call finds under a name, in the table and in a state that it stands for.
use Rattle.std.proofs.Common.{◌≡◌, ℕ, ◌==◌, Bool, true, false, cond, List, [], Option, Some, None, IsSome, Result, Ok, Err, refl, sym, ap, ◌∙◌, subst, eqb-true}
use Rattle.std.specs.List.{slice_get}
use Rattle.std.specs.Str.{bytes_eq}
use Rattle.std.proofs.lemmas.Bool.{cond-false, false≢true}
use Rattle.std.proofs.lemmas.Option.{same_Some}
use Rattle.band_base.specs.declared.refusal.Refusal.{Refusal}
use Rattle.band_base.specs.declared.refusal.Refusal.TheVariants.{Kind, Taken}
use Rattle.band_balance.specs.Object.{Mode, is_of}
use Rattle.band_balance.proofs.Held.{by_bool}
use Rattle.band_balance.proofs.Rules.{bytes_told}
use Rattle.band_rules.specs.Plan.{object_for, lender, same_mode}
use Rattle.band_rules.proofs.Planned.{if_live, if_unused}
use Rattle.band_rules.specs.State.{State, Named, Standing, Absent, standing}
use Rattle.band_player.specs.Kept.{wakes_left, TableStandsFor}
use Rattle.band_player.specs.Moves.{object_place, offers_at, offering, held_as}
use Rattle.band_player.specs.Names.{thing_at}
use Rattle.band_player.specs.Objects.{ObjectState, HoldingState}
use Rattle.band_player.specs.Table.{shown, shown_of, unseen}
use Rattle.band_player.specs.Thing.{Thing, place_at}
use Rattle.band_player.specs.Thing as things
use Rattle.band_player.specs.declared.table.Table.{Table}
use Rattle.band_player.proofs.Follow.{Target, target, absent, standing_as}
use Rattle.band_player.proofs.Lists.{some_at}
use Rattle.band_player.proofs.Named.{live_thing}
use Rattle.band_player.proofs.Stood.{stands_as, shown_elsewhere, seen_at}

-- what was found is the object at the place, or the refusal is one
abbrev pub FoundAs : State → Result ℕ Refusal → Result Named Refusal → Type 0
FoundAs state (Ok place) (Ok named) = slice_get state place ≡ Some named
FoundAs state (Err refusal) (Err other) = refusal ≡ other
FoundAs state place found = ⊥

pub refuses : (state : State) (refusal : Refusal) (found : Result Named Refusal) → FoundAs state (Err refusal) found → found ≡ Err refusal
refuses state refusal (Ok named) is = absurd is
refuses state refusal (Err reason) is = ap (λ r. Err r) (sym is)

pub finds : (state : State) (place : ℕ) (named : Named) (found : Result Named Refusal) → FoundAs state (Ok place) found → slice_get state place ≡ Some named → found ≡ Ok named
finds state place named (Ok other) is there = ap (λ n. Ok n) (same_Some other named (sym is ∙ there))
finds state place named (Err refusal) is there = absurd is

abbrev pub place_held : Result HoldingState Refusal → Result ℕ Refusal
place_held (Ok holding) = Ok holding.of
place_held (Err refusal) = Err refusal

module _ (old : Table) (none : wakes_left old ≡ []) (state : State) (stands : TableStandsFor old state) where
  abbrev table : List ℕ → Option Thing
  table = thing_at old.names

  abbrev kept : List ObjectState
  kept = old.objects.items

  -- what is kept for a live name
  pub record Live (place : ℕ) : Type 0 where
    pub object : ObjectState
    pub kept_there : slice_get kept place ≡ Some object
    pub it : Target old none state stands place object

  pub live : (name : List ℕ) (thing : Thing) → table name ≡ Some thing → Live (place_at thing)
  live name thing is =
      let at = some_at kept (place_at thing) (stands.under.there name thing is) in
      record { object = at.0; kept_there = at.1; it = target old none state stands (place_at thing) at.0 at.1 }

  pub standing_live : (name : List ℕ) (thing : Thing) (is : table name ≡ Some thing) → standing name state ≡ stands_as (live name thing is).it.named (shown_of name thing) Absent
  standing_live name thing is = standing_as old none state stands name thing (live name thing is).object (live name thing is).it is

  -- what is found in both, by what a name is
  found : (name : List ℕ) (F : Option Thing → Result ℕ Refusal) (G : Standing → Result Named Refusal) → FoundAs state (F None) (G Absent)
      → ((thing : Thing) (l : Live (place_at thing)) → FoundAs state (F (Some thing)) (G (stands_as l.it.named (shown_of name thing) Absent)))
      → FoundAs state (F (table name)) (G (standing name state))
  found name F G nothing something = go (table name) refl
    where
      go : (o : Option Thing) → table name ≡ o → FoundAs state (F o) (G (standing name state))
      go None is = subst (λ s. FoundAs state (F None) (G s)) (sym (absent old none state stands name is)) nothing
      go (Some thing) is = subst (λ s. FoundAs state (F (Some thing)) (G s)) (sym (standing_live name thing is)) (something thing (live name thing is))

  pub object_found : (mode : Mode) (of : List ℕ) → FoundAs state (offering mode kept (object_place (table of))) (object_for (λ kind. is_of kind mode) (standing of state))
  object_found mode of = found of (λ o. offering mode kept (object_place o)) (object_for (λ kind. is_of kind mode)) refl something
    where
      either : (b : Bool) (place : ℕ) (named : Named) → slice_get state place ≡ Some named → FoundAs state (cond b (Ok place) (Err Kind)) (cond b (Ok named) (Err Kind))
      either true place named there = there
      either false place named there = refl

      something : (thing : Thing) (l : Live (place_at thing))
          → FoundAs state (offering mode kept (object_place (Some thing))) (object_for (λ kind. is_of kind mode) (stands_as l.it.named (shown_of of thing) Absent))
      something (things.Object place) l =
          subst (λ b. FoundAs state (cond b (Ok place) (Err Kind)) (cond (is_of l.it.named.object.kind mode) (Ok l.it.named) (Err Kind)))
          (ap (λ k. is_of k mode) l.it.spot.at.kind ∙ ap (offers_at mode) (sym l.kept_there)) (either (is_of l.it.named.object.kind mode) place l.it.named l.it.there)
      something thing l = refl

  pub plain_found : (of : List ℕ) → FoundAs state (object_place (table of)) (object_for (λ kind. true) (standing of state))
  plain_found of = found of object_place (object_for (λ kind. true)) refl something
    where
      something : (thing : Thing) (l : Live (place_at thing)) → FoundAs state (object_place (Some thing)) (object_for (λ kind. true) (stands_as l.it.named (shown_of of thing) Absent))
      something (things.Object place) l = l.it.there
      something thing l = refl

  pub held_found : (mode : Mode) (name : List ℕ) → FoundAs state (place_held (held_as mode (table name))) (lender mode (standing name state))
  held_found mode name = found name (λ o. place_held (held_as mode o)) (lender mode) refl something
    where
      either : (b : Bool) (holding : HoldingState) (named : Named) → slice_get state holding.of ≡ Some named
          → FoundAs state (place_held (cond b (Ok holding) (Err Kind))) (cond b (Ok named) (Err Kind))
      either true holding named there = there
      either false holding named there = refl

      something : (thing : Thing) (l : Live (place_at thing)) → FoundAs state (place_held (held_as mode (Some thing))) (lender mode (stands_as l.it.named (shown_of name thing) Absent))
      something (things.Holding holding) l = either (same_mode mode holding.mode) holding l.it.named l.it.there
      something thing l = refl

  pub held_refused : (mode : Mode) (name : List ℕ) (refusal : Refusal) → held_as mode (table name) ≡ Err refusal → lender mode (standing name state) ≡ Err refusal
  held_refused mode name refusal is = refuses state refusal (lender mode (standing name state))
      (subst (λ h. FoundAs state (place_held h) (lender mode (standing name state))) is (held_found mode name))

  pub held_by : (mode : Mode) (name : List ℕ) (holding : HoldingState) (named : Named) → held_as mode (table name) ≡ Ok holding → slice_get state holding.of ≡ Some named
      → lender mode (standing name state) ≡ Ok named
  held_by mode name holding named is there =
      finds state holding.of named (lender mode (standing name state)) (subst (λ h. FoundAs state (place_held h) (lender mode (standing name state))) is (held_found mode name)) there

  pub object_refused : (mode : Mode) (of : List ℕ) (refusal : Refusal) → offering mode kept (object_place (table of)) ≡ Err refusal
      → object_for (λ kind. is_of kind mode) (standing of state) ≡ Err refusal
  object_refused mode of refusal is = refuses state refusal _ (subst (λ r. FoundAs state r (object_for (λ kind. is_of kind mode) (standing of state))) is (object_found mode of))

  pub object_there : (mode : Mode) (of : List ℕ) (place : ℕ) (named : Named) → offering mode kept (object_place (table of)) ≡ Ok place → slice_get state place ≡ Some named
      → object_for (λ kind. is_of kind mode) (standing of state) ≡ Ok named
  object_there mode of place named is there =
      finds state place named _ (subst (λ r. FoundAs state r (object_for (λ kind. is_of kind mode) (standing of state))) is (object_found mode of)) there

  pub unused : (name : List ℕ) → table name ≡ None → if_unused (standing name state) ≡ Ok tt
  unused name free = ap if_unused (absent old none state stands name free)

  pub taken_name : (name : List ℕ) → IsSome (table name) → if_unused (standing name state) ≡ Err Taken
  taken_name name some =
      let thing = live_thing (table name) some in
      ap if_unused (standing_live name thing.0 thing.1) ∙ go thing.0 (live name thing.0 thing.1)
    where
      go : (thing : Thing) (l : Live (place_at thing)) → if_unused (stands_as l.it.named (shown_of name thing) Absent) ≡ Err Taken
      go (things.Object place) l = refl
      go thing l = refl

  pub is_live : (name : List ℕ) (thing : Thing) → table name ≡ Some thing → if_live (standing name state) ≡ Ok tt
  is_live name thing is = ap if_live (standing_live name thing is) ∙ go thing (live name thing is)
    where
      go : (thing : Thing) (l : Live (place_at thing)) → if_live (stands_as l.it.named (shown_of name thing) Absent) ≡ Ok tt
      go (things.Object place) l = refl
      go thing l = refl

  -- objects at two places have two names
  pub apart_by_place : (place other : ℕ) (a b : Named) → slice_get state place ≡ Some a → slice_get state other ≡ Some b → (place ≡ other → ⊥) → bytes_eq a.name b.name ≡ false
  apart_by_place place other a b there at apart = go (table a.name) refl
    where
      shows : bytes_eq a.name a.name ≡ (shown place a.name (table a.name)).named
      shows = ap (λ s. s.named) (seen_at stands.tags table kept state stands.under a.name place a there)

      goes : bytes_eq a.name b.name ≡ (shown other a.name (table a.name)).named
      goes = ap (λ s. s.named) (seen_at stands.tags table kept state stands.under a.name other b at)

      go : (o : Option Thing) → table a.name ≡ o → bytes_eq a.name b.name ≡ false
      go None is = goes ∙ ap (λ o. (shown other a.name o).named) is
      go (Some thing) is =
          by_bool (place_at thing == place)
          (λ h.
          goes ∙ ap (λ o. (shown other a.name o).named) is
          ∙ ap (λ s. s.named) (shown_elsewhere other a.name thing (λ k. apart (sym (eqb-true (place_at thing) place h) ∙ sym k))))
          (λ h.
          absurd (false≢true (sym (shows ∙ ap (λ o. (shown place a.name o).named) is ∙ ap (λ s. s.named) (cond-false (place_at thing == place) (shown_of a.name thing) unseen h))
          ∙ bytes_told.itself a.name)))
