-- What is so of an object between any two rules, and what a rule does to those in its line.
use Rattle.std.specs.Prelude.{◌≡◌, ℕ, ◌+◌, ◌<◌, ◌≤◌, Bool, true, false, List, [], ◌∷◌, ◌++◌, map, length, ℤ, pos}
use Rattle.std.specs.Prelude.{neg_ℤ, ◌+ℤ◌, ◌≤ℤ◌, ◌<ℤ◌, Option, Some, None, IfSome}
use Rattle.std.specs.List.{AllByRecursion, list_any, filter}
use Rattle.std.specs.List.Sorted.{IsPermutation}
use Rattle.band_balance.specs.Line.{Entry, Waiting, Line, AreAlike, entry_of, requests, total, u64_max}
use Rattle.band_balance.specs.Line.{without, without_waiting}
use Rattle.band_balance.specs.Object.{Object, Turn, Kind, Semaphore, Mutex, ReaderWriter, Permit, Write, Tag}
use Rattle.band_balance.specs.Object.{is_of, asked}
use Rattle.band_balance.specs.Rule.{Fits, has_name}
use Rattle.band_balance.specs.Settled.{HeadWaits}

-- R holds of each element and each later one
abbrev pub Pairwise : {X : Type 0} → (X → X → Type 0) → List X → Type 0
Pairwise R [] = Unit {0}
Pairwise R (x ∷ xs) = AllByRecursion (R x) xs × Pairwise R xs

-- what is granted and held of an object
abbrev pub in_hand : {N : Type 0} → Object N → List (Entry N)
in_hand object = object.line.granted ++ object.held

-- the permits or shares of an object: those that are free, less what is owed, and those granted and held
abbrev pub permits : {N : Type 0} → Object N → ℤ
permits object = object.line.free +ℤ pos (total object.line.granted + total object.held)

-- what is granted and held is within the largest count, also with what is free, and so is what is owed
pub record IsWithin {N : Type 0} (object : Object N) : Type 0 where
  pub in_hand : total object.line.granted + total object.held ≤ u64_max
  pub in_all : permits object ≤ℤ pos u64_max
  pub owed : neg_ℤ (pos u64_max) ≤ℤ object.line.free

-- how many shares a lock has in all
abbrev pub share_count : Kind → Option ℕ
share_count Semaphore = None
share_count Mutex = Some 1
share_count (ReaderWriter max) = Some max

-- a lock has one share at least
abbrev pub HasAShare : Kind → Type 0
HasAShare kind = IfSome (share_count kind) (λ shares. 0 < shares)

-- nothing is owed of a lock, and what is free, granted and held is all there is
pub record HasShares {N : Type 0} (object : Object N) (shares : ℕ) : Type 0 where
  pub none_owed : pos 0 ≤ℤ object.line.free
  pub adds_up : permits object ≡ pos shares

abbrev pub KeepsShares : {N : Type 0} → Object N → Type 0
KeepsShares object = IfSome (share_count object.kind) (HasShares object)

-- of a mutex one entry at most is granted or held, and a write that is granted or held of a lock is the only
-- one
abbrev pub ExclusiveAs : {K : Type 0} → Kind → List (Entry (Tag K)) → Type 0
ExclusiveAs Semaphore entries = Unit {0}
ExclusiveAs Mutex entries = length entries ≤ 1
ExclusiveAs {K} (ReaderWriter max) entries =
    AllByRecursion (λ (e : Entry (Tag K)). e.name.mode ≡ Write → entries ≡ e ∷ []) entries

abbrev pub IsExclusive : {K : Type 0} → Object (Tag K) → Type 0
IsExclusive object = ExclusiveAs object.kind (in_hand object)

-- of an open object nobody is ended, and of a closed one, which is a semaphore, nobody waits
abbrev pub EndsAs : {N : Type 0} → Bool → Object N → Type 0
EndsAs false object = object.ended ≡ []
EndsAs true object = (object.line.waiting ≡ []) × (is_of object.kind Permit ≡ true)

module _ {K : Type 0} (same : K → K → Bool) where
  -- what is so between any two rules
  pub record IsOrderly (object : Object (Tag K)) : Type 0 where
    pub none_woken : object.line.wakes ≡ []
    pub head_waits : HeadWaits object.line.free object.line.waiting
    -- a name has one request at most
    pub once : Pairwise (λ (a b : Entry (Tag K)). same a.name.name b.name.name ≡ false) (asked object)
    -- what each entry asks for or holds can be asked for of the object
    pub each_request :
        AllByRecursion (λ (e : Entry (Tag K)). Fits object.kind e.name.mode e.size) (asked object)
    pub each_held : AllByRecursion (λ (e : Entry (Tag K)). Fits object.kind e.name.mode e.size) object.held
    pub closing : EndsAs object.closed object

  abbrev pub stands_in : K → List (Entry (Tag K)) → Bool
  stands_in name entries = list_any (λ e. has_name same name e.name) entries

  -- those that waited in a line before and are granted after, in order
  abbrev pub granted_between : Line (Tag K) → Line (Tag K) → List (Waiting (Tag K))
  granted_between before after = filter (λ w. stands_in w.name.name after.granted) before.waiting

  -- those that waited for an object before and are granted or ended after, in order
  abbrev pub told_between : Object (Tag K) → Object (Tag K) → List (Waiting (Tag K))
  told_between before after =
      filter (λ w. stands_in w.name.name (after.ended ++ after.line.granted)) before.line.waiting

  -- Those granted now stood in front of those that wait still, and follow those granted before. Just `left`
  -- left the line.
  pub record GrantsAFront (left : Tag K → Bool) (before after : Line (Tag K)) : Type 0 where
    pub requested : requests after ≡ without left (requests before)
    pub waiting : without_waiting left before.waiting ≡ granted_between before after ++ after.waiting
    pub granted : after.granted ≡ without left before.granted ++ map entry_of (granted_between before after)
    -- where permits are owed still, nobody is granted
    pub owed : after.free <ℤ pos 0 → granted_between before after ≡ []

-- two objects that differ at most in the order of those granted and of those ended, and two turns that answer
-- and wake the same and leave such objects
pub record ObjectsAlike {N : Type 0} (one other : Object N) : Type 0 where
  pub kind : other.kind ≡ one.kind
  pub line : AreAlike one.line other.line
  pub held : other.held ≡ one.held
  pub closed : other.closed ≡ one.closed
  pub ended : IsPermutation one.ended other.ended

pub record TurnsAlike {N : Type 0} (one other : Turn N) : Type 0 where
  pub answer : other.answer ≡ one.answer
  pub woken : other.woken ≡ one.woken
  pub object : ObjectsAlike one.object other.object
