-- Registrations across calls that are no waits.
use Rattle.std.proofs.Common.{◌≡◌, refl, ℕ, ◌-◌, ◌<◌, Bool, true, false, arith, sym, subst}
use Rattle.std.specs.Prelude.{◌==◌}
use Rattle.std.proofs.lemmas.Bool.Decides.{nat_tests}
use Rattle.band_signal.specs.Countdown.{Countdown, is_at_zero, comes_to_zero, arrived, decremented}
use Rattle.band_signal.specs.Group.{Group, is_deserted, with_handle, without_handle}
use Rattle.band_signal.specs.Waits.{Life, Waits, IsOwn, woken_if}

-- a call that wakes only where it makes the event come
stands : (before after wakes : Bool) (life : Life) (waits : Waits) → (after ≡ false → before ≡ false) → (after ≡ false → wakes ≡ false)
    → IsOwn before life waits → IsOwn after life (woken_if wakes waits)
stands before true wakes life waits not_before silent own = tt
stands before false wakes life waits not_before silent own =
    subst (λ b. IsOwn false life (woken_if b waits)) (sym (silent refl)) (subst (λ b. IsOwn b life waits) (not_before refl) own)

above : (count n : ℕ) → ((count - n) == 0) ≡ false → (count == 0) ≡ false
above count n e = grind (arith, nat_tests)

stays-above : (n : ℕ) (old : Countdown) → ((old.count - n) == 0) ≡ false → comes_to_zero n old ≡ false
stays-above n old e = grind (arith, nat_tests)

pub by-arrival : (n : ℕ) (life : Life) (old : Countdown) → IsOwn (is_at_zero old) life old.waits
    → IsOwn (is_at_zero (arrived n old)) life (arrived n old).waits
by-arrival n life old own =
    stands (is_at_zero old) (is_at_zero (arrived n old)) (comes_to_zero n old) life old.waits (above old.count n) (stays-above n old) own

pub by-decrement : (n : ℕ) (life : Life) (old : Countdown) → IsOwn (is_at_zero old) life old.waits
    → IsOwn (is_at_zero (decremented n old)) life (decremented n old).waits
by-decrement n life old own =
    stands (is_at_zero old) (is_at_zero (decremented n old)) false life old.waits (above old.count n) (λ e. refl) own

pub by-new-handle : (life : Life) (old : Group) → 0 < old.handles → IsOwn (is_deserted old) life old.waits
    → IsOwn (is_deserted (with_handle old)) life (with_handle old).waits
by-new-handle life old some own =
    let has : (old.handles == 0) ≡ false = grind (arith, nat_tests) in
    stands (is_deserted old) (is_deserted (with_handle old)) false life old.waits (λ e. has) (λ e. refl) own

more-than-one : (count : ℕ) → ((count - 1) == 0) ≡ false → (count == 1) ≡ false
more-than-one count e = grind (arith, nat_tests)

pub by-drop : (life : Life) (old : Group) → IsOwn (is_deserted old) life old.waits
    → IsOwn (is_deserted (without_handle old)) life (without_handle old).waits
by-drop life old own =
    stands (is_deserted old) (is_deserted (without_handle old)) (old.handles == 1) life old.waits (above old.handles 1) (more-than-one old.handles) own

pub stays-zero : (n count : ℕ) → (count == 0) ≡ true → ((count - n) == 0) ≡ true
stays-zero n count e = grind (arith, nat_tests)
