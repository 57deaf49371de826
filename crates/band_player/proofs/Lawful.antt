-- Each object of a state that the table stands for has its laws.
use Rattle.std.proofs.Common.{◌≡◌, ℕ, ◌+◌, ◌≤◌, List, pos, neg_ℤ, ◌+ℤ◌, ◌≤ℤ◌, refl, sym, ap₂, ◌∙◌, subst, IfSome, arith}
use Rattle.std.specs.Str.{bytes_eq}
use Rattle.band_balance.specs.Laws.{HasShares, IsWithin, KeepsShares, HasAShare, share_count}
use Rattle.band_balance.specs.Line.{rename, total, u64_max}
use Rattle.band_balance.specs.Object.{Kind, Semaphore, Mutex, ReaderWriter}
use Rattle.band_balance.proofs.Alike.{total-alike}
use Rattle.band_balance.proofs.Rename.{total-renamed}
use Rattle.band_balance.proofs.Shares.{exclusive}
use Rattle.band_rules.specs.Order.{Sound}
use Rattle.band_rules.specs.State.{Named, Tag}
use Rattle.band_sem.specs.Whole.{IsWhole}
use Rattle.band_player.specs.Names.{thing_at}
use Rattle.band_player.specs.Objects.{ObjectState, IsLockOf}
use Rattle.band_player.specs.Objects as kept
use Rattle.band_player.specs.Player.{HasLaws, KeepsLaws}
use Rattle.band_player.specs.Table.{quiet, StandsAt}
use Rattle.band_player.specs.declared.player.Player.{Player}
use Rattle.band_player.proofs.Lists.{also_at, all_at_place, each_from_places}

module _ (tags : ℕ → Tag) (table : List ℕ → _) (place : ℕ) (object : ObjectState) (named : Named) (at : StandsAt tags table place object named) (sound : Sound named) where
  -- the permits of both
  granted_same : total named.object.line.granted ≡ total object.line.granted
  granted_same = total-alike (rename tags (quiet object.line)) named.object.line at.line ∙ total-renamed tags object.line.granted

  in_hand_same : total named.object.line.granted + total named.object.held ≡ total object.line.granted + object.held
  in_hand_same = ap₂ (λ a b. a + b) granted_same at.held

  free_same : named.object.line.free ≡ object.line.free
  free_same = at.line.free

  within : IsWithin named.object
  within =
      let law = at.steady.0 in
      record {
        in_hand = subst (λ n. n ≤ u64_max) (sym in_hand_same) law.in_hand;
        in_all = subst (λ n. (named.object.line.free +ℤ pos n) ≤ℤ pos u64_max) (sym in_hand_same)
            (subst (λ z. (z +ℤ pos (total object.line.granted + object.held)) ≤ℤ pos u64_max) (sym free_same) law.in_all);
        owed = subst (λ z. neg_ℤ (pos u64_max) ≤ℤ z) (sym free_same) law.owed;
      }

  shares : (n : ℕ) → IsWhole n (kept.shares_of object) → HasShares named.object n
  shares n whole = record {
    none_owed = subst (λ z. pos 0 ≤ℤ z) (sym free_same) whole.none_owed;
    adds_up = ap₂ (λ z m. z +ℤ pos m) free_same in_hand_same ∙ whole.adds_up;
  }

  locked : (kind : Kind) → named.object.kind ≡ kind → IsLockOf kind (kept.shares_of object)
  locked kind is = subst (λ k. IsLockOf k (kept.shares_of object)) (sym at.kind ∙ is) at.steady.1

  lets_in : HasAShare named.object.kind
  lets_in = go named.object.kind refl
    where
      go : (kind : Kind) → named.object.kind ≡ kind → HasAShare kind
      go Semaphore is = tt
      go Mutex is = omega arith
      go (ReaderWriter max) is = (locked (ReaderWriter max) is).some

  keeps_shares : KeepsShares named.object
  keeps_shares = go named.object.kind refl
    where
      go : (kind : Kind) → named.object.kind ≡ kind → IfSome (share_count kind) (HasShares named.object)
      go Semaphore is = tt
      go Mutex is = shares 1 (locked Mutex is)
      go (ReaderWriter max) is = shares max (locked (ReaderWriter max) is).shares

  has_laws : HasLaws named.object
  has_laws = record { exclusive = exclusive bytes_eq named.object lets_in keeps_shares sound; head_waits = sound.head_waits; within = within }

-- what a player has come to
pub keeps_laws : (player : Player) → KeepsLaws player
keeps_laws player = record {
  each = λ state stands.
      each_from_places (λ (named : Named). HasLaws named.object) state (λ place named there.
      let object = also_at player.table.objects.items state place named stands.under.size there in
      has_laws (stands.tags place) (thing_at player.table.names) place object.0 named (stands.under.each place object.0 named object.1 there)
      (all_at_place Sound state place named stands.under.order.sound there));
}
