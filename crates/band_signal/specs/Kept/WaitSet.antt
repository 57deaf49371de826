-- What registering under a token makes of the waits.
use Rattle.std.specs.Prelude.{◌≡◌, ℕ, ◌+◌, Option, Some, None, Result, Ok, Err}
use Rattle.std.specs.declared.alloc.AllocError.{AllocError}
use Rattle.band_base.specs.declared.waker.Waker.{Waker}
use Rattle.band_line.specs.Arena.{value_at, next_slot, inserted, with_room}
use Rattle.band_signal.specs.Waits.{Waits, with_waker_in}

abbrev pub Registers : Option ℕ → Waker → Waits → Result Unit AllocError → Option ℕ → Waits → Type 0
Registers (Some slot) waker old result token new =
    (result ≡ Ok tt) × (token ≡ Some slot) × (new ≡ with_waker_in slot waker old)
Registers None waker old (Ok done) token new =
    (token ≡ Some (next_slot old.set))
    × (value_at (next_slot old.set) old.set ≡ None)
    × (new ≡ record old { set = inserted waker (with_room (new.set.spare + 1) old.set) })
Registers None waker old (Err error) token new = (token ≡ None) × (new ≡ old)
