-- How the player's table and objects stand for a state.
use Rattle.std.specs.Prelude.{◌≡◌, ℕ, Bool, true, false, ◌==◌, ◌<◌, if◌then◌else◌, List, [], Option, Some}
use Rattle.std.specs.Prelude.{None, length, map, slice_get}
use Rattle.std.specs.List.Sorted.{IsPermutation}
use Rattle.std.specs.Str.{bytes_eq}
use Rattle.band_balance.specs.Laws.{Pairwise}
use Rattle.band_balance.specs.Line.{Entry, Line, AreAlike, total, entry_named, rename, renamed}
use Rattle.band_balance.specs.Object.{tag, asked}
use Rattle.band_balance.specs.Rule.{has_name}
use Rattle.band_sem.specs.Request.{Joined}
use Rattle.band_sem.specs.Semaphore.{is_slot}
use Rattle.band_player.specs.Objects.{ObjectState, RequestState, IsSteady, asked_in}
use Rattle.band_player.specs.Thing.{Thing, place_at}
use Rattle.band_player.specs.Thing as things
use Rattle.band_rules.specs.Order.{IsInOrder}
use Rattle.band_rules.specs.State.{State, Named, Tag}

-- what an object of a state has under a name: whether it is its own, the request of this name, and what it
-- holds
pub record Seen : Type 0 where
  pub named : Bool
  pub request : Option (Entry Tag)
  pub holding : Option (Entry Tag)

abbrev pub seen : List ℕ → Named → Seen
seen name it = record {
  named = bytes_eq name it.name;
  request = entry_named (has_name bytes_eq name) (asked it.object);
  holding = entry_named (has_name bytes_eq name) it.object.held;
}

-- what the table has under a name, at the place that it says, and at any other
abbrev pub unseen : Seen
unseen = record { named = false; request = None; holding = None }

abbrev pub shown_of : List ℕ → Thing → Seen
shown_of name (things.Object place) = record unseen { named = true }
shown_of name (things.Request place request) =
    record unseen { request = Some (record { name = tag request.mode name; size = request.size }) }
shown_of name (things.Holding holding) =
    record unseen { holding = Some (record { name = tag holding.mode name; size = holding.count }) }

abbrev pub shown : ℕ → List ℕ → Option Thing → Seen
shown place name None = unseen
shown place name (Some thing) = if place_at thing == place then shown_of name thing else unseen

-- the line once its wakes are taken
abbrev pub quiet : {N : Type 0} → Line N → Line N
quiet line = record line { wakes = [] }

-- a request of the table has its slot among those of its object, and the slot its name and mode
pub record HasSlot (tags : ℕ → Tag) (place : ℕ) (entries : List (Entry ℕ)) (name : List ℕ)
    (request : RequestState) : Type 0 where
  pub slot : ℕ
  pub joined : request.stage ≡ Joined slot
  pub of : request.of ≡ place
  pub own : entry_named (is_slot slot) entries ≡ Some (record { name = slot; size = request.size })
  pub tagged : tags slot ≡ tag request.mode name

abbrev pub HasSlotAt : (ℕ → Tag) → ℕ → List (Entry ℕ) → List ℕ → Option Thing → Type 0
HasSlotAt tags place entries name (Some (things.Request at request)) =
    at ≡ place → HasSlot tags place entries name request
HasSlotAt tags place entries name thing = Unit {0}

-- what is kept of an object stands for it, by the names of its slots
pub record StandsAt (tags : ℕ → Tag) (table : List ℕ → Option Thing) (place : ℕ) (kept : ObjectState)
    (named : Named) : Type 0 where
  pub kind : named.object.kind ≡ kept.kind
  pub number : kept.number ≡ place
  pub line : AreAlike (rename tags (quiet kept.line)) named.object.line
  pub closed : named.object.closed ≡ kept.closed
  pub ended : IsPermutation (map (renamed tags) kept.ended) named.object.ended
  pub held : total named.object.held ≡ kept.held
  pub held_once : Pairwise (λ (a b : Entry Tag). bytes_eq a.name.name b.name.name ≡ false) named.object.held
  pub steady : IsSteady kept
  pub every : (name : List ℕ) → seen name named ≡ shown place name (table name)
  pub slots : (name : List ℕ) → HasSlotAt tags place (asked_in kept) name (table name)

pub record StandsUnder (tags : ℕ → ℕ → Tag) (table : List ℕ → Option Thing) (kept : List ObjectState)
    (state : State) : Type 0 where
  pub order : IsInOrder state
  pub size : length kept ≡ length state
  pub each : (place : ℕ) (object : ObjectState) (named : Named) → slice_get kept place ≡ Some object
      → slice_get state place ≡ Some named
      → StandsAt (tags place) table place object named
  pub there : (name : List ℕ) (thing : Thing) → table name ≡ Some thing → place_at thing < length kept
