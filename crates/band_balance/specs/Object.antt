-- An object: its kind, its line, what is held of it, whether it is closed, and who was ended. A turn of it
-- answers, wakes some wakers in order, and leaves the object.
use Rattle.std.specs.Prelude.{ℕ, Bool, true, false, List, [], ◌∷◌, ◌++◌, ℤ, if◌then◌else◌, Option, Some, None}
use Rattle.band_balance.specs.Line.{Entry, Line, open_line, requests}

pub data Kind : Type 0 where
  Semaphore : Kind
  Mutex : Kind
  -- with the most readers at a time
  ReaderWriter : (max : ℕ) → Kind

-- what a request asks for, or what is held
pub data Mode : Type 0 where
  Permit : Mode
  Lock : Mode
  Read : Mode
  Write : Mode

pub record Object (N : Type 0) : Type 0 where
  pub kind : Kind
  pub line : Line N
  pub held : List (Entry N)
  -- only a semaphore is ever closed
  pub closed : Bool
  -- the requests that waited when it was closed, and have not polled since
  pub ended : List (Entry N)

-- what a call answers
pub data Answer : Type 0 where
  Done : Answer
  Ready : Answer
  Pending : Answer
  Nothing : Answer
  Closed : Answer
  Drained : (count : ℕ) → Answer
  Figures : (available : ℕ) (free : ℤ) (waiting granted held : ℕ) → Answer

-- the answer, the wakers woken, in order, and the object afterwards
pub record Turn (N : Type 0) : Type 0 where
  pub answer : Answer
  pub woken : List ℕ
  pub object : Object N

-- this is asked of objects of this kind
abbrev pub is_of : Kind → Mode → Bool
is_of Semaphore Permit = true
is_of Mutex Lock = true
is_of (ReaderWriter max) Read = true
is_of (ReaderWriter max) Write = true
is_of kind mode = false

-- what a request of a mode asks for, where it doesn't say
abbrev pub size_of : Kind → Mode → ℕ
size_of (ReaderWriter max) Write = max
size_of kind mode = 1

-- what names an entry, where names are of a type K: a name, and what it asks for or holds
pub record Tag (K : Type 0) : Type 0 where
  pub name : K
  pub mode : Mode

abbrev pub tag : {K : Type 0} → Mode → K → Tag K
tag mode name = record { name = name; mode = mode }

module _ {N : Type 0} where
  -- an object with so many permits or shares, and nobody there
  abbrev pub new_object : Kind → ℕ → Object N
  new_object kind count =
      record { kind = kind; line = open_line count; held = []; closed = false; ended = [] }

  -- who has asked and has not been answered: those that were ended, and those in the line
  abbrev pub asked : Object N → List (Entry N)
  asked object = object.ended ++ requests object.line

  -- the answer is given, and the wakers that the line has to wake are woken
  abbrev pub turn : Answer → Object N → Turn N
  turn answer object = record {
    answer = answer;
    woken = object.line.wakes;
    object = record object { line = record object.line { wakes = [] } };
  }

  abbrev pub hold : N → ℕ → List (Entry N) → List (Entry N)
  hold name size held = held ++ record { name = name; size = size } ∷ []

  -- the first that is meant becomes another
  abbrev pub change : (N → Bool) → (Entry N → Entry N) → List (Entry N) → List (Entry N)
  change is to [] = []
  change is to (entry ∷ rest) = if is entry.name then to entry ∷ rest else entry ∷ change is to rest

  -- the size of an entry, if there is one
  abbrev pub size_in : Option (Entry N) → ℕ
  size_in None = 0
  size_in (Some entry) = entry.size
