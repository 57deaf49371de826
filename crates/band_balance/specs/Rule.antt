-- What can be done to an object, as data: what each rule makes of it, and what is tested before it is done.
-- K is what a name is, and `same` says whether two names are one.
use Rattle.std.specs.Prelude.{◌≡◌, ℕ, ◌+◌, ◌-◌, Bool, true, false, not, ◌&&◌, ◌||◌, is_some, if◌then◌else◌, nat_le}
use Rattle.std.specs.Prelude.{length, map, [], ◌∷◌, ◌++◌, Option, Some, None, IsSome}
use Rattle.std.specs.Option.{option_map_or}
use Rattle.band_balance.specs.Line.{Entry, total, entry_of, is_served, take_permits, give_back, join}
use Rattle.band_balance.specs.Line.{available, drained}
use Rattle.band_balance.specs.Line.{overflows, owes_too_much, entry_named, without, poll_granted}
use Rattle.band_balance.specs.Line.{poll_waiting, cancel, end_waiting}
use Rattle.band_balance.specs.Object.{Object, Turn, Done, Ready, Pending, Nothing, Closed, Drained, Figures}
use Rattle.band_balance.specs.Object.{Mode, Permit, Read, Write}
use Rattle.band_balance.specs.Object.{Kind, Tag, tag, is_of, size_of, turn, hold, change, size_in, asked}

pub data Rule (K : Type 0) : Type 0 where
  -- a first poll of a new request for so much, which leaves a waker
  Ask : (made : Tag K) (size waker : ℕ) → Rule K
  -- a later poll
  Poll : (name : K) (waker : ℕ) → Rule K
  Try : (made : Tag K) (size : ℕ) → Rule K
  Drop : (name : K) → Rule K
  Release : (n : ℕ) → Rule K
  Reduce : (n : ℕ) → Rule K
  Drain : (n : ℕ) → Rule K
  Close : Rule K
  Forget : (permit : K) → Rule K
  Split : (permit made : K) (n : ℕ) → Rule K
  Merge : (kept spent : K) → Rule K
  Downgrade : (writer : K) → Rule K
  Status : Rule K

-- so much can be asked for in this mode, or held in it, of an object of this kind
abbrev pub Fits : Kind → Mode → ℕ → Type 0
Fits kind Permit size = is_of kind Permit ≡ true
Fits kind mode size = (is_of kind mode ≡ true) × (size ≡ size_of kind mode)

module _ {K : Type 0} (same : K → K → Bool) where
  -- is the tag of this name?
  abbrev pub has_name : K → Tag K → Bool
  has_name name tag = same name tag.name

  abbrev pub act : Rule K → Object (Tag K) → Turn (Tag K)
  -- a first poll: it is served at once and holds its permits, or it waits
  act (Ask made size waker) object =
      if is_served size object.line
      then turn Ready (record object {
        line = take_permits size object.line;
        held = hold made size object.held;
      })
      else turn Pending (record object { line = join made size waker object.line })
  -- a later poll: one that was ended hears of it and leaves, one that was granted holds its permits from now on,
  -- and one that waits leaves its new waker
  act (Poll name waker) object =
      option_map_or
      (λ ended. turn Closed (record object { ended = without (has_name name) object.ended }))
      (entry_named (has_name name) object.ended)
      (option_map_or
      (λ granted. turn Ready (record object {
        line = poll_granted (has_name name) object.line;
        held = object.held ++ granted ∷ [];
      }))
      (entry_named (has_name name) object.line.granted)
      (turn Pending (record object { line = poll_waiting (has_name name) waker object.line })))
  -- where a first poll would be served, the same, and else nothing changes
  act (Try made size) object =
      if is_served size object.line
      then turn Done (record object {
        line = take_permits size object.line;
        held = hold made size object.held;
      })
      else turn Nothing object
  -- letting go: what is held goes back to the free ones and the line settles; a request is cancelled
  act (Drop name) object =
      option_map_or
      (λ entry. turn Done (record object {
        line = give_back entry.size object.line;
        held = without (has_name name) object.held;
      }))
      (entry_named (has_name name) object.held)
      (turn Done (record object {
        line = cancel (has_name name) object.line;
        ended = without (has_name name) object.ended;
      }))
  act (Release n) object = turn Done (record object { line = give_back n object.line })
  act (Reduce n) object = turn Done (record object { line = take_permits n object.line })
  act (Drain n) object =
      let count = drained n object.line in
      turn (Drained count) (record object { line = take_permits count object.line })
  -- all that wait are ended, in order, and are to be woken; where it is closed already, nobody waits
  act Close object = turn Done (record object {
    line = end_waiting object.line;
    closed = true;
    ended = object.ended ++ map entry_of object.line.waiting;
  })
  -- what is held ends, and nothing comes back
  act (Forget permit) object = turn Done (record object { held = without (has_name permit) object.held })
  -- n go to a new permit; where there are fewer, nothing changes
  act (Split permit made n) object =
      let size = size_in (entry_named (has_name permit) object.held) in
      let left = change (has_name permit) (λ e. record e { size = size - n }) object.held in
      if nat_le n size
      then turn Done (record object { held = hold (tag Permit made) n left })
      else turn Nothing object
  -- the second ends, and the first has its permits too
  act (Merge kept spent) object =
      let one = size_in (entry_named (has_name kept) object.held) in
      let other = size_in (entry_named (has_name spent) object.held) in
      let grown = change (has_name kept) (λ e. record e { size = one + other }) object.held in
      turn Done (record object { held = without (has_name spent) grown })
  -- what is held for writing is held for reading from now on, of size 1, and the rest of all readers is given
  -- back
  act (Downgrade writer) object =
      turn Done (record object {
        line = give_back (size_of object.kind Write - 1) object.line;
        held = change (has_name writer) (λ e. record { name = tag Read writer; size = 1 }) object.held;
      })
  act Status object =
      let line = object.line in
      turn (Figures (available line) line.free (length line.waiting) (total line.granted)
      (total object.held)) object

  -- who leaves the line by a rule: the request that a drop cancels, and nobody by any other
  abbrev pub leaver : Rule K → Object (Tag K) → Tag K → Bool
  leaver (Drop name) object = λ tag. not
      (is_some (entry_named (has_name name) object.held)) && has_name name tag
  leaver rule object = λ tag. false

  -- no request of the object has this name, and nothing that is held of it
  pub record IsFresh (name : K) (object : Object (Tag K)) : Type 0 where
    pub asked : entry_named (has_name name) (asked object) ≡ None
    pub held : entry_named (has_name name) object.held ≡ None

  -- the name holds something of the object in this mode
  pub record Holds (mode : Mode) (name : K) (object : Object (Tag K)) : Type 0 where
    pub entry : Entry (Tag K)
    pub there : entry_named (has_name name) object.held ≡ Some entry
    pub fits : Fits object.kind mode entry.size

  -- a new request for so much: the name is free, the object is open, and so much can be asked for
  pub record MayAsk (made : Tag K) (size : ℕ) (object : Object (Tag K)) : Type 0 where
    pub fresh : IsFresh made.name object
    pub not_closed : object.closed ≡ false
    pub fits : Fits object.kind made.mode size

  -- what is tested before a rule is done
  abbrev pub IsAllowed : Rule K → Object (Tag K) → Type 0
  IsAllowed (Ask made size waker) object = MayAsk made size object
  IsAllowed (Poll name waker) object = IsSome (entry_named (has_name name) (asked object))
  IsAllowed (Try made size) object = MayAsk made size object
  IsAllowed (Drop name) object = IsSome (entry_named (has_name name) (asked object ++ object.held))
  IsAllowed (Release n) object = Fits object.kind Permit n
      × (overflows n object.line (total object.held) ≡ false)
  IsAllowed (Reduce n) object = Fits object.kind Permit n × (owes_too_much n object.line ≡ false)
  IsAllowed (Drain n) object = Fits object.kind Permit n
  IsAllowed Close object = is_of object.kind Permit ≡ true
  IsAllowed (Forget permit) object = Holds Permit permit object
  IsAllowed (Split permit made n) object = Holds Permit permit object × IsFresh made object
  IsAllowed (Merge kept spent) object =
      Holds Permit kept object × Holds Permit spent object × (same kept spent ≡ false)
  IsAllowed (Downgrade writer) object = Holds Write writer object
  IsAllowed Status object = Unit {0}

-- what a rule brings to an object, and what it takes away for good
abbrev pub brought : {K : Type 0} → Rule K → ℕ
brought (Release n) = n
brought rule = 0

abbrev pub removed : {K : Type 0} → (K → K → Bool) → Rule K → Object (Tag K) → ℕ
removed same (Reduce n) object = n
removed same (Drain n) object = drained n object.line
removed same (Forget permit) object = size_in (entry_named (has_name same permit) object.held)
removed same rule object = 0

-- the name that a rule puts into the line
abbrev pub joiner : {K : Type 0} → Rule K → Object (Tag K) → Option K
joiner (Ask made size waker) object = if is_served size object.line then None else Some made.name
joiner rule object = None

-- what may let the line settle: something comes back, or a request leaves
abbrev pub may_grant : {K : Type 0} → Rule K → Bool
may_grant (Drop name) = true
may_grant (Release n) = true
may_grant (Downgrade writer) = true
may_grant rule = false

-- what ends those that wait
abbrev pub closes : {K : Type 0} → Rule K → Bool
closes Close = true
closes rule = false

-- what may wake somebody
abbrev pub may_wake : {K : Type 0} → Rule K → Bool
may_wake rule = may_grant rule || closes rule
