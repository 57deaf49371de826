-- What the table has at a name.
use Rattle.std.specs.Prelude.{◌≡◌, ℕ, Bool, true, false, List, Option, Some, None}
use Rattle.std.specs.BTreeMap.{BTreeMap}
use Rattle.std.specs.Str.{bytes_eq}
use Rattle.band_player.specs.Apart.{at}
use Rattle.band_player.specs.Thing.{Thing}
use Rattle.band_player.specs.Thing as things
use Rattle.band_player.specs.Token.{TokenState, thing_of}
use Rattle.band_player.specs.declared.names.Names.{Names}

-- the object at a place, and else what a token is
abbrev pub thing_from : Option ℕ → Option TokenState → Option Thing
thing_from (Some place) token = Some (things.Object place)
thing_from None (Some token) = Some (thing_of token)
thing_from None None = None

-- the table by names
abbrev pub table_of : BTreeMap (List ℕ) ℕ → BTreeMap (List ℕ) TokenState → List ℕ → Option Thing
table_of objects tokens name = thing_from (at objects name) (at tokens name)

abbrev pub thing_at : Names → List ℕ → Option Thing
thing_at names name = table_of names.objects names.tokens name

-- each name is what it was
abbrev pub AreSame : Names → Names → Type 0
AreSame old new = (name : List ℕ) → thing_at new name ≡ thing_at old name

-- afterwards the table has this at the name, and at every other name what it had
pub record Updated (table table' : List ℕ → Option Thing) (name : List ℕ)
    (thing : Option Thing) : Type 0 where
  pub here : (other : List ℕ) → bytes_eq name other ≡ true → table' other ≡ thing
  pub others : (other : List ℕ) → bytes_eq name other ≡ false → table' other ≡ table other

abbrev pub is_object : Option Thing → Bool
is_object None = false
is_object (Some (things.Object place)) = true
is_object (Some (things.Request place request)) = false
is_object (Some (things.Holding holding)) = false
