-- What a condition variable keeps beside what it shows.
use Rattle.std.specs.Prelude.{◌≡◌, ℕ, ◌+◌, ◌^◌, ◌≤◌, ◌<◌, length, Bool, true, false, Option, Some, None}
use Rattle.band_base.specs.declared.waker.Waker.{Waker}
use Rattle.band_condvar.specs.declared.place.Place.{Place}
use Rattle.band_condvar.specs.declared.place.Place.TheVariants.{Queued, Chosen, Released}
use Rattle.band_condvar.specs.Condvar.{CondvarState, AreQueued, called, with_waker}
use Rattle.band_line.specs.WaitList.{WaitListState}

-- exactly those in line are queued and counted, and there is room for the wake of each
pub record IsKept (line : WaitListState Place) (waiting spare : ℕ) : Type 0 where
  pub queued : AreQueued line
  pub counted : waiting ≡ length line.linked
  pub fits : waiting ≤ spare

-- there is room for one more wait, and for its wake
pub record HasRoom (state : CondvarState) : Type 0 where
  pub node : 0 < state.line.nodes.spare
  pub wake : 0 < state.room
  pub number : length state.line.linked + 1 < 2 ^ 64

-- the first in line is called, if there is one
abbrev pub CallsFirst : Option ℕ → Place → CondvarState → Bool → CondvarState → Type 0
CallsFirst None place old result new = (result ≡ false) × (new ≡ old)
CallsFirst (Some slot) place old result new = (result ≡ true) × (new ≡ called place slot old)

-- one that is queued leaves its new waker
abbrev pub with_new_waker : Waker → Place → Place
with_new_waker waker (Queued before) = Queued waker
with_new_waker waker Chosen = Chosen
with_new_waker waker Released = Released

-- whether one that is not queued has the baton
abbrev pub call_of : Place → Option Bool
call_of (Queued waker) = None
call_of Chosen = Some true
call_of Released = Some false

-- one that is queued leaves its new waker, and each other tells how it was called
abbrev pub Looks : Option Place → ℕ → Waker → CondvarState → Option Bool → CondvarState → Type 0
Looks (Some (Queued before)) slot waker old result new = (result ≡ None) × (new ≡ with_waker slot waker old)
Looks (Some Chosen) slot waker old result new = (result ≡ Some true) × (new ≡ old)
Looks (Some Released) slot waker old result new = (result ≡ Some false) × (new ≡ old)
Looks None slot waker old result new = ⊥
