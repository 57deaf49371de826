-- A partial line: an unsigned word, and a row of nodes. A node is a request that waits, or a debt. Permits are given
-- out piece by piece, so the request in front may have a part of what it asks for already.
use Rattle.std.specs.Prelude.{◌≡◌, ℕ, ◌+◌, ◌-◌, ◌<◌, ◌≤◌, Bool, if◌then◌else◌, List, [], ◌∷◌, ℤ, pos, ◌-ℤ◌, Option, Some, None, is_none, IsSome, MatchOption, ⊤}
use Rattle.std.specs.List.{AllByRecursion, filter_map, sum_by, count_by}
use Rattle.std.specs.List.Sorted.{IsPermutation}
use Rattle.std.specs.Option.{option_map}
use Rattle.band_balance.specs.Line.{Entry, Waiting, Line}

pub record Node : Type 0 where
  pub slot : ℕ
  pub size : ℕ
  -- how much it needs still
  pub needed : ℕ
  -- that of a request. A node without a waker is a debt
  pub waker : Option ℕ

-- what is available, the linked nodes from the front on, who was granted and has not polled since, and the wakers
-- to wake
pub record PartialLine : Type 0 where
  pub word : ℕ
  pub nodes : List Node
  pub granted : List (Entry ℕ)
  pub wakes : List ℕ

abbrev pub request : ℕ → ℕ → ℕ → ℕ → Node
request slot size needed waker = record { slot = slot; size = size; needed = needed; waker = Some waker }

abbrev pub debt : ℕ → ℕ → ℕ → Node
debt slot size needed = record { slot = slot; size = size; needed = needed; waker = None }

abbrev pub is_debt : Node → Bool
is_debt node = is_none node.waker

-- what a request has already
abbrev pub share_of : Node → ℕ
share_of node = if is_debt node then 0 else node.size - node.needed

-- what is still to be paid of a debt
abbrev pub owed_by : Node → ℕ
owed_by node = if is_debt node then node.needed else 0

abbrev pub shares : List Node → ℕ
shares nodes = sum_by share_of nodes

abbrev pub owed : List Node → ℕ
owed nodes = sum_by owed_by nodes

-- how many debts there are
abbrev pub debts : List Node → ℕ
debts nodes = count_by is_debt nodes

abbrev pub request_of : Node → Option (Waiting ℕ)
request_of node =
    option_map (λ waker. record { name = node.slot; size = node.size; waker = waker }) node.waker

-- those that wait, in order
abbrev pub requests_of : List Node → List (Waiting ℕ)
requests_of nodes = filter_map request_of nodes

-- What is free is the word and the shares, less what is owed.
abbrev pub free_of : ℕ → List Node → ℤ
free_of word nodes = pos (word + shares nodes) -ℤ pos (owed nodes)

-- the line that a partial line stands for
abbrev pub line_of : PartialLine → Line ℕ
line_of part = record {
  free = free_of part.word part.nodes;
  waiting = requests_of part.nodes;
  granted = part.granted;
  wakes = part.wakes;
}

abbrev pub NeedsSome : Node → Type 0
NeedsSome node = (0 < node.needed) × (node.needed ≤ node.size)

-- a request that has nothing yet
abbrev pub HasNoShare : Node → Type 0
HasNoShare node = IsSome node.waker × (0 < node.size) × (node.needed ≡ node.size)

-- Debts stand first. Of the requests behind them only the first may have a share.
abbrev pub AreInOrder : List Node → Type 0
AreInOrder [] = ⊤
AreInOrder (first ∷ rest) =
    NeedsSome first × MatchOption first.waker (AreInOrder rest) (λ waker. AllByRecursion HasNoShare rest)

-- what holds between any two moves
pub record IsSettled (part : PartialLine) : Type 0 where
  pub in_order : AreInOrder part.nodes
  -- while anything is available, no node is linked
  pub given_out : 0 < part.word → part.nodes ≡ []

-- Two are alike where they differ at most in the order of those granted.
pub record AreAlikeParts (one other : PartialLine) : Type 0 where
  pub word : other.word ≡ one.word
  pub nodes : other.nodes ≡ one.nodes
  pub granted : IsPermutation one.granted other.granted
  pub wakes : other.wakes ≡ one.wakes

-- a partial line that is settled, and the line that it stands for
pub record StandsFor (line : Line ℕ) (part : PartialLine) : Type 0 where
  pub shown : line_of part ≡ line
  pub settled : IsSettled part
