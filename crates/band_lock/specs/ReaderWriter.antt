use Rattle.std.specs.Prelude.{◌≡◌, ℕ, ◌<◌}
use Rattle.band_sem.specs.Semaphore.{SemaphoreState, IsLike, new_state}
use Rattle.band_sem.specs.Whole.{IsWhole}

-- what a contract sees of a reader-writer lock: the most readers at a time, and its shares, of which a reader has one and a
-- writer has all
pub record ReaderWriter : Type 0 where
  pub max : ℕ
  pub shares : SemaphoreState

-- what becomes of its shares
abbrev pub on_shares : (SemaphoreState → SemaphoreState) → ReaderWriter → ReaderWriter
on_shares change lock = record lock { shares = change lock.shares }

-- two locks whose shares differ at most in the order of those granted
pub record IsLikeLock (one other : ReaderWriter) : Type 0 where
  pub max : other.max ≡ one.max
  pub shares : IsLike one.shares other.shares

-- one for so many readers at a time, which nobody has
abbrev pub new_lock : ℕ → ℕ → ReaderWriter
new_lock number max = record { max = max; shares = new_state number max }

-- all its shares are there, of which there is one at least
pub record IsWholeLock (lock : ReaderWriter) : Type 0 where
  pub some : 0 < lock.max
  pub shares : IsWhole lock.max lock.shares
