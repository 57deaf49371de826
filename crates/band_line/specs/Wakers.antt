-- What is done with wakers.
use Rattle.std.specs.Prelude.{ℕ, ◌-◌, ◌==◌, if◌then◌else◌, List, ◌++◌, map, length, Option, Some, None}
use Rattle.band_base.specs.WakeLine.{Wakes}
use Rattle.band_base.specs.declared.waker.Waker.{Waker}

-- the waker that another takes the place of, unless they are the same
abbrev pub replaced : Waker → Option Waker → Option Waker
replaced waker None = None
replaced waker (Some current) = if current.0 == waker.0 then None else Some current

-- the wakers to wake, once these are added in room that was reserved
abbrev pub pushed_all : List Waker → Wakes → Wakes
pushed_all wakers out = record {
  wakers = out.wakers ++ map (λ waker. waker.0) wakers;
  spare = out.spare - length wakers;
}

abbrev pub waker_of : ℕ → Waker
waker_of number = record { 0 = number }
