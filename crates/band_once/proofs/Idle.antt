-- A permit of which one is available is idle, and no other is.
use Rattle.std.proofs.Common.{◌≡◌, ℕ, ◌+◌, ◌&&◌, [], ◌∷◌, List, map, true, cond, ℤ, pos, ◌+ℤ◌, refl, arith, nat_eq, int_lt, unsigned_abs}
use Rattle.std.specs.List.{AllByRecursion}
use Rattle.std.specs.Prelude.{◌<◌}
use Rattle.std.proofs.lemmas.Int.{ints}
use Rattle.std.proofs.lemmas.Bool.Decides.{nat_tests}
use Rattle.band_balance.specs.Line.{Entry, Waiting, available, nobody_waits, total, entry_of}
use Rattle.band_balance.proofs.Settle.{total-cons}
use Rattle.band_balance.proofs.Rename.{all_of_first}
use Rattle.band_sem.specs.Semaphore.{SemaphoreState}
use Rattle.band_sem.specs.Whole.{IsWhole}
use Rattle.band_once.specs.Idle.{IsIdle}

one_free : (free : ℤ) → nat_eq (cond (int_lt (pos 0) free) (unsigned_abs free) 0) 1 ≡ true → free ≡ pos 1
one_free free one = grind (arith, ints, nat_tests)

open_and_free : (waiting : List (Waiting ℕ)) (free : ℤ) → nat_eq (cond (nobody_waits waiting && int_lt (pos 0) free) (unsigned_abs free) 0) 1 ≡ true → (waiting ≡ []) × (free ≡ pos 1)
open_and_free [] free one = (refl, one_free free one)
open_and_free (first ∷ rest) free one = cc

-- where all is free, nothing is granted or held
nothing_else : (free : ℤ) (granted held : ℕ) → free ≡ pos 1 → free +ℤ pos (granted + held) ≡ pos 1 → (granted ≡ 0) × (held ≡ 0)
nothing_else free granted held one adds_up = (omega (arith, ints), omega (arith, ints))

none_granted : (granted : List (Entry ℕ)) → AllByRecursion (λ (e : Entry ℕ). 0 < e.size) granted → total granted ≡ 0 → granted ≡ []
none_granted [] asks none = refl
none_granted (first ∷ rest) asks none =
    let size : 0 < first.size = asks.0 in
    let sum : total (first ∷ rest) ≡ first.size + total rest = total-cons first rest in
    absurd (omega arith)

pub idle : (permit : SemaphoreState) → IsWhole 1 permit → nat_eq (available permit.line) 1 ≡ true → IsIdle permit
idle permit whole one =
    let open_free = open_and_free permit.line.waiting permit.line.free one in
    let nothing = nothing_else permit.line.free (total permit.line.granted) permit.held open_free.1 whole.adds_up in
    record {
      free = open_free.1;
      none_waits = open_free.0;
      none_granted = none_granted permit.line.granted (all_of_first _ permit.line.granted (map entry_of permit.line.waiting) whole.each_asks) nothing.0;
      none_held = nothing.1;
    }

pub one_if_idle : (permit : SemaphoreState) → IsIdle permit → nat_eq (available permit.line) 1 ≡ true
one_if_idle permit is_idle = at permit.line.waiting permit.line.free is_idle.none_waits is_idle.free
  where
    at : (waiting : List (Waiting ℕ)) (free : ℤ) → waiting ≡ [] → free ≡ pos 1 → nat_eq (cond (nobody_waits waiting && int_lt (pos 0) free) (unsigned_abs free) 0) 1 ≡ true
    at waiting free none one = rw (none, one) refl
