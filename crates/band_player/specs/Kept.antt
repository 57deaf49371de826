-- What the player keeps, and what it stands for.
use Rattle.std.specs.Prelude.{◌≡◌, ◌≢◌, ◌+◌, ◌<◌, ◌≤◌, ℕ, List, [], length, Option, Some, None, Result, Ok, slice_get}
use Rattle.std.specs.Prelude.{slice_index_or as get_or}
use Rattle.band_balance.specs.Object.{Mode}
use Rattle.band_base.specs.declared.refusal.Refusal.{Refusal}
use Rattle.band_rules.specs.declared.reply.Reply.{Reply}
use Rattle.band_rules.specs.declared.reply.Reply.TheVariants as replies
use Rattle.band_rules.specs.Joined.{joiners_by}
use Rattle.band_rules.specs.Plan.{plan}
use Rattle.band_rules.specs.State.{State, Tag}
use Rattle.band_rules.specs.Step.{step}
use Rattle.band_script.specs.declared.call.Call.{Call}
use Rattle.band_script.specs.declared.call.Call.TheVariants as calls
use Rattle.band_player.specs.Moves.{object_place, offering}
use Rattle.band_player.specs.Names.{thing_at}
use Rattle.band_player.specs.Objects.{ObjectState}
use Rattle.band_player.specs.Table.{StandsUnder}
use Rattle.band_player.specs.declared.table.Table.{Table}

abbrev pub wakes_of : Option ObjectState → List ℕ
wakes_of None = []
wakes_of (Some object) = object.line.wakes

-- the wakers of the last call that are not taken yet
abbrev pub wakes_left : Table → List ℕ
wakes_left table = wakes_of (slice_get table.objects.items table.last)

-- no object but the one that was called last has wakers to take
abbrev pub OthersQuiet : ℕ → List ObjectState → Type 0
OthersQuiet last kept = (place : ℕ) (object : ObjectState) → place ≢ last
    → slice_get kept place ≡ Some object → object.line.wakes ≡ []

-- the table stands for a state, by some names of the slots
pub record TableStandsFor (table : Table) (state : State) : Type 0 where
  pub tags : ℕ → ℕ → Tag
  pub under : StandsUnder tags (thing_at table.names) table.objects.items state
  pub others : OthersQuiet table.last table.objects.items

-- it stands for some state
abbrev pub StandsForSome : Table → Type 0
StandsForSome table = ∥ ((state : State) × TableStandsFor table state) ∥₁

-- for every state that was stood for, the reply and the wakers are those of the call, and what it leaves is
-- stood for
pub record FollowsFrom (call : Call) (reply : Reply) (new : Table) (state : State) : Type 0 where
  pub replied : reply ≡ (step call state).reply
  pub woken : wakes_left new ≡ (step call state).woken
  pub stands : TableStandsFor new (step call state).state

abbrev pub TableFollows : Call → Table → Reply → Table → Type 0
TableFollows call old reply new = (state : State) → TableStandsFor old state → FollowsFrom call reply new state

-- the reply of a call that did its work
abbrev pub DidWork : Reply → Type 0
DidWork replies.Nothing = ⊥
DidWork (replies.Refused refusal) = ⊥
DidWork reply = Unit {0}

-- in every state that is stood for, the call does its work
abbrev pub TableWorks : Call → Table → Type 0
TableWorks call table = (state : State) → TableStandsFor table state → DidWork (step call state).reply

-- the calls that make a request, and poll it first
abbrev pub Asks : Call → Type 0
Asks (calls.Ask made of n waker) = Unit {0}
Asks (calls.Lock made of waker) = Unit {0}
Asks (calls.Read made of waker) = Unit {0}
Asks (calls.Write made of waker) = Unit {0}
Asks call = ⊥

-- in every state that is stood for: where the call puts a request into a line, that was visited
abbrev pub TableVisitsJoiners : Call → Table → ℕ → ℕ → Type 0
TableVisitsJoiners call table before after =
    (state : State) → TableStandsFor table state → before + joiners_by (plan call state) ≤ after

-- every state that was stood for still is
abbrev pub TableStays : Table → Table → Type 0
TableStays old new = (state : State) → TableStandsFor old state → TableStandsFor new state

-- a call was answered: the table follows it, and stands for some state
pub record Answered (call : Call) (old : Table) (reply : Reply) (new : Table) : Type 0 where
  pub follows : TableFollows call old reply new
  pub sound : StandsForSome new

-- memory was wanting: the table stands for what it did, no waker is left, and the call would have done its work
pub record Wanting (call : Call) (old new : Table) : Type 0 where
  pub stays : TableStays old new
  pub quiet : wakes_left new ≡ []
  pub works : TableWorks call old
  pub sound : StandsForSome new

-- the place of the object with a name, of which this can be asked, or why there is none
abbrev pub offering_at : Mode → Table → List ℕ → Result ℕ Refusal
offering_at mode table name = offering mode table.objects.items (object_place (thing_at table.names name))

-- the object is there, and is what is read at its place
pub record Offered (mode : Mode) (table : Table) (name : List ℕ) (place : ℕ) : Type 0 where
  pub is : offering_at mode table name ≡ Ok place
  pub within : place < length table.objects.items
  pub there : (object : ObjectState) → object ≡ get_or table.objects.items place object
      → slice_get table.objects.items place ≡ Some object
