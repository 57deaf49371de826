-- Permits are kept: what an object was made with and what was released to it is what is free, granted and
-- held of it, and what
-- was reduced, drained and forgotten. Each call is counted by its reply.
use Rattle.std.specs.Prelude.{ℕ, ◌+◌, if◌then◌else◌, List, [], ◌∷◌, Option, Some, None, ℤ, pos}
use Rattle.std.specs.Str.{bytes_eq}
use Rattle.band_balance.specs.Laws.{permits}
use Rattle.band_balance.specs.Object.{Object}
use Rattle.band_script.specs.declared.call.Call.{Call}
use Rattle.band_script.specs.declared.call.Call.TheVariants as calls
use Rattle.band_rules.specs.declared.reply.Reply.{Reply}
use Rattle.band_rules.specs.declared.reply.Reply.TheVariants as replies
use Rattle.band_rules.specs.Plan.{most_readers}
use Rattle.band_rules.specs.State.{State, Tag, Standing, AHolding, standing}
use Rattle.band_rules.specs.Step.{step}

-- the object with this name
abbrev pub object_named : List ℕ → State → Option (Object Tag)
object_named name [] = None
object_named name (first ∷ rest) =
    if bytes_eq name first.name then Some first.object else object_named name rest

-- its permits or shares: those that are free, less what is owed, and those granted and held
abbrev pub permits_of : Option (Object Tag) → ℤ
permits_of None = pos 0
permits_of (Some object) = permits object

-- n where the call did its work
abbrev pub if_done : Reply → ℕ → ℕ
if_done replies.Done n = n
if_done reply n = 0

abbrev pub drained_by : Reply → ℕ
drained_by (replies.Drained count) = count
drained_by reply = 0

-- how many of the object with this name are held, by what another name is
abbrev pub held_of : List ℕ → Standing → ℕ
held_of name (AHolding of entry) = if bytes_eq name of.name then entry.size else 0
held_of name standing = 0

-- what a call brings to the object with this name: what it is made with, or what is released
abbrev pub brought_by : List ℕ → Call → Reply → ℕ
brought_by name (calls.Sem made n) reply = if bytes_eq name made then if_done reply n else 0
brought_by name (calls.Mutex made) reply = if bytes_eq name made then if_done reply 1 else 0
brought_by name (calls.Rw made n) reply = if bytes_eq name made then if_done reply (most_readers n) else 0
brought_by name (calls.Release of n) reply = if bytes_eq name of then if_done reply n else 0
brought_by name call reply = 0

-- what a call in a state takes away from it for good: what is reduced, drained or forgotten
abbrev pub removed_by : List ℕ → State → Call → Reply → ℕ
removed_by name state (calls.Reduce of n) reply = if bytes_eq name of then if_done reply n else 0
removed_by name state (calls.Drain of n) reply = if bytes_eq name of then drained_by reply else 0
removed_by name state (calls.Forget permit) reply = if_done reply (held_of name (standing permit state))
removed_by name state call reply = 0

-- the same over calls from a state
abbrev pub brought_from : List ℕ → State → List Call → ℕ
brought_from name state [] = 0
brought_from name state (call ∷ calls) =
    let effect = step call state in
    brought_by name call effect.reply + brought_from name effect.state calls

abbrev pub removed_from : List ℕ → State → List Call → ℕ
removed_from name state [] = 0
removed_from name state (call ∷ calls) =
    let effect = step call state in
    removed_by name state call effect.reply + removed_from name effect.state calls
