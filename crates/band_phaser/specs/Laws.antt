-- Who is registered with a phaser.
use Rattle.std.specs.Prelude.{◌≡◌, ℕ, zero, suc, List, length, count_by, Option, Some}
use Rattle.band_phaser.specs.Phaser.{PhaserState, Participant, Batch, NextGives, is_outstanding}

-- the pending phases of all that are registered, as a phaser counts them
pub record CountsAll (parties : List (Option ℕ)) (phaser : PhaserState) : Type 0 where
  pub registered : phaser.registered ≡ length parties
  pub outstanding : phaser.outstanding ≡ count_by (is_outstanding phaser.phase) parties

-- n calls of `next` give a participant each
abbrev pub Yields : ℕ → Batch → Batch → Type 0
Yields zero first last = last ≡ first
Yields (suc n) first last =
    (next : Batch) × ((party : Participant) × NextGives first (Some party) next) × Yields n next last
