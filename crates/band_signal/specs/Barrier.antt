-- A barrier: how many have arrived in which generation, and who waits for its end.
use Rattle.std.specs.Prelude.{◌≡◌, ℕ, ◌+◌, ◌-◌, ◌^◌, Bool, true, false, not, ◌==◌, if◌then◌else◌, nat_le, is_ok, Result, Ok, Err}
use Rattle.band_base.specs.declared.poll.Poll.{Poll}
use Rattle.band_base.specs.declared.poll.Poll.TheVariants.{Ready}
use Rattle.band_base.specs.declared.poll.PollError.{PollError}
use Rattle.band_base.specs.declared.poll.PollError.TheVariants as errors
use Rattle.band_base.specs.declared.waker.Waker.{Waker}
use Rattle.band_signal.specs.Waits.{Waits, Life, NotPolled, Registered, Finished, no_waits, all_woken, FirstPoll, Polls}

-- a generation ends once `size` have arrived in it
pub record BarrierState : Type 0 where
  pub size : ℕ
  pub arrived : ℕ
  pub generation : ℕ
  pub waits : Waits

abbrev pub new_barrier : ℕ → BarrierState
new_barrier n = record { size = if n == 0 then 1 else n; arrived = 0; generation = 0; waits = no_waits }

-- what a wait has come to, and in which generation it arrived once it did
pub record BarrierWaitState : Type 0 where
  pub generation : ℕ
  pub life : Life

abbrev pub new_barrier_wait : BarrierWaitState
new_barrier_wait = record { generation = 0; life = NotPolled }

-- what a wait that arrived waits for
abbrev pub has_ended : BarrierWaitState → BarrierState → Bool
has_ended wait barrier = not (wait.generation == barrier.generation)

-- the next to arrive is the last of its generation
abbrev pub is_next_last : BarrierState → Bool
is_next_last barrier = nat_le barrier.size (barrier.arrived + 1)

abbrev pub last_generation : ℕ
last_generation = 2 ^ 64 - 1

-- the last has arrived: the next generation begins, and all are woken
abbrev pub next_generation : BarrierState → BarrierState
next_generation barrier = record barrier {
  arrived = 0;
  generation = barrier.generation + 1;
  waits = all_woken barrier.waits;
}

-- the last to arrive is the leader, unless the generations are used up
abbrev pub Leads :
    Bool → BarrierWaitState → BarrierState → Result (Poll Bool) PollError
    → BarrierWaitState → BarrierState → Type 0
Leads true wait old result wait' new = (result ≡ Err errors.CountFull) × (wait' ≡ wait) × (new ≡ old)
Leads false wait old result wait' new =
    (result ≡ Ok (Ready true))
    × (wait' ≡ record wait { life = Finished })
    × (new ≡ next_generation old)

-- a first poll is an arrival. One before the last waits for the end of this generation, or there was no memory
abbrev pub Arrives :
    Bool → BarrierWaitState → Waker → BarrierState → Result (Poll Bool) PollError
    → BarrierWaitState → BarrierState → Type 0
Arrives true wait waker old result wait' new =
    Leads (old.generation == last_generation) wait old result wait' new
Arrives false wait waker old result wait' new =
    FirstPoll waker old.waits result wait'.life new.waits
    × (wait'.generation ≡ (if is_ok result then old.generation else wait.generation))
    × (new ≡ record old {
      arrived = if is_ok result then old.arrived + 1 else old.arrived;
      waits = new.waits;
    })

-- a later poll
abbrev pub PollsArrived :
    BarrierWaitState → Waker → BarrierState → Result (Poll Bool) PollError
    → BarrierWaitState → BarrierState → Type 0
PollsArrived wait waker old result wait' new =
    Polls (has_ended wait old) false wait.life waker old.waits result wait'.life new.waits
    × (wait'.generation ≡ wait.generation)
    × (new ≡ record old { waits = new.waits })

abbrev pub PollsBarrier :
    Life → BarrierWaitState → Waker → BarrierState → Result (Poll Bool) PollError
    → BarrierWaitState → BarrierState → Type 0
PollsBarrier NotPolled wait waker old result wait' new =
    Arrives (is_next_last old) wait waker old result wait' new
PollsBarrier (Registered slot) wait waker old result wait' new = PollsArrived wait waker old result wait' new
PollsBarrier Finished wait waker old result wait' new = PollsArrived wait waker old result wait' new
