-- A count that falls to 0, and who waits for that.
use Rattle.std.specs.Prelude.{ℕ, ◌-◌, Bool, ◌==◌, ◌&&◌, nat_lt, nat_le}
use Rattle.band_signal.specs.Waits.{Waits, no_waits, woken_if}

pub record Countdown : Type 0 where
  pub count : ℕ
  pub waits : Waits

abbrev pub new_countdown : ℕ → Countdown
new_countdown count = record { count = count; waits = no_waits }

-- what its waits wait for
abbrev pub is_at_zero : Countdown → Bool
is_at_zero countdown = countdown.count == 0

-- a fall by n comes to 0 from above
abbrev pub comes_to_zero : ℕ → Countdown → Bool
comes_to_zero n countdown = nat_lt 0 countdown.count && nat_le countdown.count n

-- the count falls by n, not below 0, and nobody is woken
abbrev pub decremented : ℕ → Countdown → Countdown
decremented n countdown = record countdown { count = countdown.count - n }

-- the count falls by n, and where that comes to 0 from above all are woken
abbrev pub arrived : ℕ → Countdown → Countdown
arrived n countdown = record {
  count = countdown.count - n;
  waits = woken_if (comes_to_zero n countdown) countdown.waits;
}
