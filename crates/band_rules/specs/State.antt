-- The state of a script: its objects by name, and what a name is in it.
use Rattle.std.specs.Prelude.{ℕ, Bool, true, false, List, [], ◌∷◌, Option, Some, None}
use Rattle.std.specs.Str.{bytes_eq}
use Rattle.band_balance.specs.Line.{Entry, entry_named}
use Rattle.band_balance.specs.Object.{Object, asked}
use Rattle.band_balance.specs.Object as objects
use Rattle.band_balance.specs.Rule.{has_name}

-- what names an entry: a name, and what it asks for or holds
abbrev pub Tag : Type 0
Tag = objects.Tag (List ℕ)

pub record Named : Type 0 where
  pub name : List ℕ
  pub object : Object Tag

abbrev pub State : Type 0
State = List Named

-- What a name is: an object, a request of one that was not answered yet, or held of one.
pub data Standing : Type 0 where
  Absent : Standing
  AnObject : (it : Named) → Standing
  ARequest : (of : Named) (entry : Entry Tag) → Standing
  AHolding : (of : Named) (entry : Entry Tag) → Standing

-- by whether it is this object's name, and what has it among the requests and among what is held
abbrev pub standing_at : Named → Bool → Option (Entry Tag) → Option (Entry Tag) → Standing → Standing
standing_at named true request holding elsewhere = AnObject named
standing_at named false (Some entry) holding elsewhere = ARequest named entry
standing_at named false None (Some entry) elsewhere = AHolding named entry
standing_at named false None None elsewhere = elsewhere

abbrev pub standing : List ℕ → State → Standing
standing name [] = Absent
standing name (first ∷ rest) =
    let object = first.object in
    standing_at first (bytes_eq name first.name)
    (entry_named (has_name bytes_eq name) (asked object))
    (entry_named (has_name bytes_eq name) object.held)
    (standing name rest)
