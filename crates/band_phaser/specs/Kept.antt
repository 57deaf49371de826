-- The part of an arrival that a phaser does itself.
use Rattle.std.specs.Prelude.{◌≡◌, Result, None, Ok, Err}
use Rattle.band_base.specs.declared.poll.Poll.TheVariants.{Pending}
use Rattle.band_base.specs.declared.poll.PollError.{PollError}
use Rattle.band_base.specs.declared.poll.PollError.TheVariants as errors
use Rattle.band_base.specs.declared.waker.Waker.{Waker}
use Rattle.band_signal.specs.Waits.{Life, NotPolled, FirstPoll}
use Rattle.band_phaser.specs.Phaser.{PhaserState, arrived}

-- one arrives before the last and is registered, or there was no memory
abbrev pub RegistersArrival :
    Waker → PhaserState → Result Unit PollError → Life → PhaserState → Type 0
RegistersArrival waker old (Ok done) life new =
    FirstPoll {T = Unit} waker old.waits (Ok Pending) life new.waits
    × (new ≡ record (arrived None old) { waits = new.waits })
RegistersArrival waker old (Err error) life new =
    (error ≡ errors.NoMemory) × (life ≡ NotPolled) × (new ≡ old)
