-- What a store stands for, and what holds of it.
use Rattle.std.specs.Prelude.{◌≡◌, ℕ, ◌+◌, ◌≤◌, false, ℤ, pos, neg_ℤ, ◌+ℤ◌, ◌≤ℤ◌, IsTrue, IsSome, true, Some, None, Result, Ok, Err}
use Rattle.std.specs.declared.alloc.AllocError.{AllocError}
use Rattle.band_balance.specs.Line.{Line, total, is_served, entry_named, u64_max}
use Rattle.band_line.specs.Visits.{Visits}
use Rattle.band_partial.specs.PartialLine.{IsSettled, debts, line_of}
use Rattle.band_row.specs.Row.{IsRow, part, ended_of}
use Rattle.band_sem.specs.declared.store.Store.{Store}
use Rattle.band_sem.specs.declared.store.Entrance.{Entrance}
use Rattle.band_row.specs.declared.row.Found.{Found}
use Rattle.band_row.specs.declared.row.Found.TheVariants.{Waits, Granted, Ended}
use Rattle.band_sem.specs.declared.store.Entrance.TheVariants.{Served, Joined, Closed}
use Rattle.band_sem.specs.Semaphore.{SemaphoreState, EndsAs, asked, is_slot, taken, joined, received, with_waker, told}

abbrev pub line_in : Store → Line ℕ
line_in store = line_of (part store.row)

abbrev pub state_of : Store → SemaphoreState
state_of store = record {
  number = store.number;
  line = line_in store;
  held = store.held;
  debts = debts (part store.row).nodes;
  closed = store.closed;
  ended = ended_of store.row.list;
}

-- what is free, granted and held stays within its ends
pub record CountsFit (held : ℕ) (free : ℤ) (granted : ℕ) : Type 0 where
  pub in_hand : granted + held ≤ u64_max
  pub in_all : (free +ℤ pos (granted + held)) ≤ℤ pos u64_max
  pub owed : neg_ℤ (pos u64_max) ≤ℤ free

-- what holds between any two calls
pub record IsSound (store : Store) : Type 0 where
  pub row : IsRow store.row
  pub settled : IsSettled (part store.row)
  pub free : store.free ≡ (line_in store).free
  pub fit : CountsFit store.held (line_in store).free (total (line_in store).granted)
  pub closing : EndsAs store.closed (ended_of store.row.list) (line_in store).waiting

-- a first poll
abbrev pub Enters : ℕ → ℕ → SemaphoreState → Result Entrance AllocError → SemaphoreState → Type 0
Enters size waker old (Ok Served) new =
    (old.closed ≡ false)
    × IsTrue (is_served size old.line)
    × (new ≡ taken size old)
Enters size waker old (Ok (Joined slot)) new =
    (old.closed ≡ false)
    × (is_served size old.line ≡ false)
    × (entry_named (is_slot slot) (asked old) ≡ None)
    × (new ≡ joined slot size waker old)
Enters size waker old (Ok Closed) new = (old.closed ≡ true) × (new ≡ old)
Enters size waker old (Err error) new =
    (old.closed ≡ false) × (is_served size old.line ≡ false) × (new ≡ old)

-- one that joins is pushed
abbrev pub EntersIn : Result Entrance AllocError → ℕ → ℕ → Type 0
EntersIn (Ok (Joined slot)) before after = Visits 1 2 before after
EntersIn result before after = after ≡ before

-- a later poll: of a granted one it answers how many permits it takes, and one that was ended hears of it
abbrev pub PollsSlot : ℕ → ℕ → SemaphoreState → Found → SemaphoreState → Type 0
PollsSlot slot waker old (Granted size) new =
    (entry_named (is_slot slot) old.ended ≡ None)
    × (entry_named (is_slot slot) old.line.granted ≡ Some (record { name = slot; size = size }))
    × (new ≡ received slot size old)
PollsSlot slot waker old Waits new =
    (entry_named (is_slot slot) old.ended ≡ None)
    × (entry_named (is_slot slot) old.line.granted ≡ None)
    × (new ≡ with_waker slot waker old)
PollsSlot slot waker old Ended new =
    IsSome (entry_named (is_slot slot) old.ended) × (new ≡ told slot old)
