-- Who joined a line before whom: those that were granted from it before those that wait in it still. And how many
-- joined one.
use Rattle.std.specs.Prelude.{ℕ, ◌+◌, ◌<◌, if◌then◌else◌, Bool, false, is_some, List, [], ◌∷◌, Option, Some, None}
use Rattle.std.specs.List.{AllByRecursion}
use Rattle.std.specs.Str.{bytes_eq}
use Rattle.band_balance.specs.Laws.{Pairwise}
use Rattle.band_balance.specs.Line.{Entry, Waiting, Line, requests}
use Rattle.band_balance.specs.Rule.{joiner}
use Rattle.band_script.specs.declared.call.Call.{Call}
use Rattle.band_rules.specs.Plan.{Plan, Act, plan}
use Rattle.band_rules.specs.State.{State, Tag}
use Rattle.band_rules.specs.Step.{step}

-- does a plan put a request of this name into a line?
abbrev pub is_joiner : List ℕ → Option (List ℕ) → Bool
is_joiner name None = false
is_joiner name (Some joiner) = bytes_eq name joiner

abbrev pub joins : List ℕ → Plan → Bool
joins name (Act of rule) = is_joiner name (joiner rule of.object)
joins name plan = false

-- the number of the last call at which a name joined a line, where the next call has the number `now`, and
-- `last` is the one so far
abbrev pub joined_from : List ℕ → ℕ → ℕ → State → List Call → ℕ
joined_from name last now state [] = last
joined_from name last now state (call ∷ calls) =
    joined_from name (if joins name (plan call state) then now else last) (now + 1)
    (step call state).state calls

-- the same over a script, from 1; 0 where it joined none
abbrev pub joined_at : List ℕ → List Call → ℕ
joined_at name calls = joined_from name 0 1 [] calls

-- those in a line stand in the order in which they joined it, those that were granted first
abbrev pub StandInTurn : List Call → Line Tag → Type 0
StandInTurn calls line =
    Pairwise (λ (a b : Entry Tag). joined_at a.name.name calls < joined_at b.name.name calls) (requests line)

-- so each that waits joined it after each that was granted from it
abbrev pub GrantedInTurn : List Call → Line Tag → Type 0
GrantedInTurn calls line =
    AllByRecursion (λ (waits : Waiting Tag).
    AllByRecursion
    (λ (granted : Entry Tag). joined_at granted.name.name calls < joined_at waits.name.name calls)
    line.granted) line.waiting

-- how many requests a plan puts into a line: one, or none
abbrev pub joiners_by : Plan → ℕ
joiners_by (Act of rule) = if is_some (joiner rule of.object) then 1 else 0
joiners_by plan = 0

-- how many join a line by calls from a state, and from the empty state
abbrev pub joiners_from : State → List Call → ℕ
joiners_from state [] = 0
joiners_from state (call ∷ calls) =
    joiners_by (plan call state) + joiners_from (step call state).state calls

abbrev pub joiners_of : List Call → ℕ
joiners_of calls = joiners_from [] calls
