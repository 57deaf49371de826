-- What registering makes of a waker set, which a contract sees as an arena.
use Rattle.std.specs.Prelude.{◌≡◌, ℕ, ◌+◌, ◌≤◌, Option, Some, None, Result, Ok, Err}
use Rattle.std.specs.declared.alloc.AllocError.{AllocError}
use Rattle.band_base.specs.declared.waker.Waker.{Waker}
use Rattle.band_line.specs.Arena.{ArenaState, value_at, next_slot, inserted, with_value, with_room}
use Rattle.band_line.specs.Wakers.{replaced}

-- a first registration has a new token, or changes nothing
abbrev pub FirstRegisters :
    Waker → ArenaState Waker → Result (Option Waker) AllocError → ArenaState Waker → Option ℕ → Type 0
FirstRegisters waker old (Ok answer) new token =
    (answer ≡ None)
    × (token ≡ Some (next_slot old))
    × (value_at (next_slot old) old ≡ None)
    × (new ≡ inserted waker (with_room (new.spare + 1) old))
    × (old.spare ≤ new.spare + 1)
FirstRegisters waker old (Err error) new token = (new ≡ old) × (token ≡ None)

-- a later one leaves its waker in place of the old one
abbrev pub Registers :
    Option ℕ → Waker → ArenaState Waker → Result (Option Waker) AllocError → ArenaState Waker → Option ℕ
    → Type 0
Registers None waker old result new token = FirstRegisters waker old result new token
Registers (Some id) waker old result new token =
    (result ≡ Ok (replaced waker (value_at id old)))
    × (token ≡ Some id)
    × (new ≡ with_value id waker old)
