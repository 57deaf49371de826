-- Which objects are closed, and which calls close them. Each call is read by its reply.
use Rattle.std.specs.Prelude.{ℕ, Bool, false, ◌||◌, List, [], ◌∷◌}
use Rattle.std.specs.Option.{option_map_or}
use Rattle.std.specs.Str.{bytes_eq}
use Rattle.band_script.specs.declared.call.Call.{Call}
use Rattle.band_script.specs.declared.call.Call.TheVariants as calls
use Rattle.band_rules.specs.declared.reply.Reply.{Reply}
use Rattle.band_rules.specs.declared.reply.Reply.TheVariants as replies
use Rattle.band_rules.specs.Permits.{object_named}
use Rattle.band_rules.specs.State.{State}
use Rattle.band_rules.specs.Step.{step}

-- an object has this name, and it is closed
abbrev pub is_closed : List ℕ → State → Bool
is_closed name state = option_map_or (λ object. object.closed) (object_named name state) false

-- a call closes the object with this name
abbrev pub closed_by : List ℕ → Call → Reply → Bool
closed_by name (calls.Close of) replies.Done = bytes_eq name of
closed_by name call reply = false

-- one of these calls from a state does
abbrev pub closed_from : List ℕ → State → List Call → Bool
closed_from name state [] = false
closed_from name state (call ∷ calls) =
    let effect = step call state in
    closed_by name call effect.reply || closed_from name effect.state calls
