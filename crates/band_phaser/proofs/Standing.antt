-- Registrations across calls that are no waits.
use Rattle.std.proofs.Common.{◌≡◌, ◌≢◌, refl, ℕ, Bool, true, false, not, arith, ap, sym, subst}
use Rattle.std.specs.Prelude.{◌==◌, ◌&&◌, ◌||◌}
use Rattle.std.proofs.lemmas.Bool.Decides.{nat_tests}
use Rattle.band_signal.specs.Waits.{Life, IsOwn, all_woken}
use Rattle.band_phaser.specs.Phaser.{PhaserState, next_phase, is_over, advanced, settled, closed_after}

either : (b c : Bool) → c ≡ false → (b || not c) ≡ true
either true c e = refl
either false c e = ap not e

pub by-settling : (observed : ℕ) (life : Life) (old : PhaserState) → IsOwn (is_over observed old) life old.waits
    → next_phase old.phase ≢ observed → IsOwn (is_over observed (settled old)) life (settled old).waits
by-settling observed life old own differs = by_test (not old.is_closed && old.outstanding == 0) refl
  where
    over : is_over observed (advanced old) ≡ true
    over =
        let other : (next_phase old.phase == observed) ≡ false = grind (arith, nat_tests) in
        either old.is_closed (next_phase old.phase == observed) other

    by_test : (b : Bool) → (not old.is_closed && old.outstanding == 0) ≡ b
        → IsOwn (is_over observed (settled old)) life (settled old).waits
    by_test false e = rw e own
    by_test true e = rw e (subst (λ b. IsOwn b life (all_woken old.waits)) (sym over) tt)

pub by-closing : (observed : ℕ) (life : Life) (old : PhaserState) → IsOwn (is_over observed old) life old.waits
    → IsOwn (is_over observed (closed_after old)) life (closed_after old).waits
by-closing observed life old own = by_closed old.is_closed refl
  where
    by_closed : (b : Bool) → old.is_closed ≡ b → IsOwn (is_over observed (closed_after old)) life (closed_after old).waits
    by_closed true e = subst (λ phaser. IsOwn (is_over observed phaser) life phaser.waits) same own
      where
        same : old ≡ closed_after old
        same = rw e refl
    by_closed false e = rw e tt
