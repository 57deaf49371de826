-- What contracts say of a player.
use Rattle.std.specs.Prelude.{ℕ, List}
use Rattle.std.specs.List.{AllByRecursion}
use Rattle.band_balance.specs.Laws.{IsExclusive, IsWithin}
use Rattle.band_balance.specs.Object.{Object}
use Rattle.band_balance.specs.Settled.{HeadWaits}
use Rattle.band_rules.specs.declared.reply.Reply.{Reply}
use Rattle.band_rules.specs.State.{State, Named, Tag}
pub use Rattle.band_script.specs.Call.{ForReaders}
pub use Rattle.band_sem.specs.Visits.{Pays}
use Rattle.band_script.specs.declared.call.Call.{Call}
use Rattle.band_script.specs.declared.call.Call.TheVariants.{Sem, Mutex, Rw, Ask, Lock, Read, Write, Poll}
use Rattle.band_script.specs.declared.call.Call.TheVariants.{Drop, Try, TryLock, TryRead, TryWrite, Release}
use Rattle.band_script.specs.declared.call.Call.TheVariants.{Reduce, Drain, Close, Forget, Split, Merge, Downgrade}
use Rattle.band_script.specs.declared.call.Call.TheVariants.{Status}
use Rattle.band_player.specs.Kept as kept
use Rattle.band_player.specs.Visits.{load}
use Rattle.band_player.specs.declared.player.Player.{Player}

-- the player has come to a state
abbrev pub StandsFor : Player → State → Type 0
StandsFor player state = kept.TableStandsFor player.table state

-- the wakers of the last step that are not taken yet, in order
abbrev pub wakers_left : Player → List ℕ
wakers_left player = kept.wakes_left player.table

-- from each state that the player may have come to, it gives the reply and the wakers of the call's step, and
-- comes to its state
abbrev pub Follows : Call → Player → Reply → Player → Type 0
Follows call old reply new = kept.TableFollows call old.table reply new.table

-- in each state that the player may have come to, the call does its work: it is not refused, and not answered
-- by `none`
abbrev pub Works : Call → Player → Type 0
Works call player = kept.TableWorks call player.table

-- in each state that the player may have come to: where the call puts a request into a line, that was visited
abbrev pub VisitsJoiners : Call → Player → ℕ → ℕ → Type 0
VisitsJoiners call player before after = kept.TableVisitsJoiners call player.table before after

-- it has come to what it had come to, whichever of its wakers are taken
abbrev pub Stays : Player → Player → Type 0
Stays old new = kept.TableStays old.table new.table

-- how many wait, and how many debts there are, in all lines
abbrev pub load_of : Player → ℕ
load_of player = load player.table.objects.items

-- what is so of each object between any two calls
pub record HasLaws (object : Object Tag) : Type 0 where
  -- a write that is granted or held is alone, and of a mutex one at most is granted or held
  pub exclusive : IsExclusive object
  -- the first that waits asks for more than is free
  pub head_waits : HeadWaits object.line.free object.line.waiting
  -- what is granted and held is within the largest count, also with what is free, and so is what is owed
  pub within : IsWithin object

-- each object of every state that the player may have come to has them
pub record KeepsLaws (player : Player) : Type 0 where
  pub each : (state : State) → StandsFor player state
      → AllByRecursion (λ (named : Named). HasLaws named.object) state

-- the calls that take no memory
abbrev pub TakesNoMemory : Call → Type 0
TakesNoMemory (Sem made n) = ⊥
TakesNoMemory (Mutex made) = ⊥
TakesNoMemory (Rw made n) = ⊥
TakesNoMemory (Ask made of n waker) = ⊥
TakesNoMemory (Lock made of waker) = ⊥
TakesNoMemory (Read made of waker) = ⊥
TakesNoMemory (Write made of waker) = ⊥
TakesNoMemory (Poll name waker) = Unit {0}
TakesNoMemory (Drop name) = Unit {0}
TakesNoMemory (Try made of n) = ⊥
TakesNoMemory (TryLock made of) = ⊥
TakesNoMemory (TryRead made of) = ⊥
TakesNoMemory (TryWrite made of) = ⊥
TakesNoMemory (Release of n) = Unit {0}
TakesNoMemory (Reduce of n) = ⊥
TakesNoMemory (Drain of n) = Unit {0}
TakesNoMemory (Close of) = Unit {0}
TakesNoMemory (Forget name) = Unit {0}
TakesNoMemory (Split name made n) = ⊥
TakesNoMemory (Merge kept spent) = Unit {0}
TakesNoMemory (Downgrade name) = Unit {0}
TakesNoMemory (Status name) = Unit {0}
