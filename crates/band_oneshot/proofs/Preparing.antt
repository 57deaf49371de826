-- The load before the split keeps the rule of its channel.
use Rattle.std.proofs.Common.{◌≡◌, ℕ, zero, suc, Bool, true, false, List, [], ◌∷◌, None, refl, sym, ap, ◌∙◌, subst}
use Rattle.std.specs.Prelude.{slice_index, slice_set, if◌then◌else◌}
use mathlib.Core.Option.{some, none}
use mathlib.Core.Option.{Option as Home}
use lib.ListN.{get_elem?}
use Rattle.atomic_table.specs.Table.{Act, takes, Valid, homes_after, carried_after, Allows}
use Rattle.band_oneshot.specs.declared.view.View.{View}
use Rattle.band_oneshot.specs.declared.view.View.TheVariants as view
use Rattle.band_oneshot.specs.Kept.Plays.{Prepares}
use Rattle.band_oneshot.specs.Kept.Rule.{Slot, Seated, Holds, ObeysRule}

module _ {T : Type 0} where
  abbrev start : Seated T
  start = (view.Whole false, [])

  prepares_at : (ws : List ℕ) (hs : List (Home (Slot T))) (vs : List (View T)) (id : ℕ) → Holds ws hs vs
      → get_elem? vs id ≡ some (view.Whole false)
      → (w : View T) × (a : Act (Slot T)) × Valid hs [] a
      × Holds (slice_set ws 0 (slice_index ws 0)) (homes_after hs [] a) (slice_set vs id w)
      × Prepares start (slice_index ws 0) (w, carried_after [] a)
  prepares_at (word ∷ []) (h0 ∷ h1 ∷ []) (view.Whole out ∷ []) zero k e =
      let whole : out ≡ false = cc in (
        view.Whole true,
        takes 0 None,
        ap some (k.1 ∙ ap (λ (b : Bool). if b then none else some None) whole),
        (k.0, refl, k.2),
        refl,
      )
  prepares_at (word ∷ []) (h0 ∷ h1 ∷ []) (view.Whole out ∷ []) (suc id) k e = cc
  prepares_at (word ∷ []) (h0 ∷ h1 ∷ []) (view.Sends s ∷ view.Receives r ∷ []) zero k e = cc
  prepares_at (word ∷ []) (h0 ∷ h1 ∷ []) (view.Sends s ∷ view.Receives r ∷ []) (suc zero) k e = cc
  prepares_at (word ∷ []) (h0 ∷ h1 ∷ []) (view.Sends s ∷ view.Receives r ∷ []) (suc (suc id)) k e = cc
  prepares_at ws hs vs id k e = absurd k

  pub prepares_allows : (slots id : ℕ) (m : Seated T) → m ≡ (view.Whole false, []) → Allows ObeysRule slots id m 0 (λ n. n) (Prepares m)
  prepares_allows slots id m is = subst (λ (x : Seated T). Allows ObeysRule slots id x 0 (λ n. n) (Prepares x)) (sym is)
      (λ s holds wide at fits. prepares_at s.words s.homes s.views id holds at)
