-- What each call makes of a partial line.
use Rattle.std.specs.Prelude.{◌≡◌, ℕ, ◌+◌, ◌-◌, ◌<◌, Bool, not, ◌&&◌, nat_lt, nat_le, ◌==◌, if◌then◌else◌, List, [], ◌∷◌, ◌++◌, map, length, take, drop, find, Option, Some, None}
use Rattle.std.specs.Option.{option_map_or}
use Rattle.band_balance.specs.Line.{Entry, entry_of, entry_named, without}
use Rattle.band_partial.specs.PartialLine.{Node, PartialLine, request, debt, is_debt, share_of, shares, owed, debts, requests_of}

-- nobody is in the line, and so much is available
abbrev pub open_part : ℕ → PartialLine
open_part permits = record { word = permits; nodes = []; granted = []; wakes = [] }

-- what a distribution comes to: the nodes that got all they needed and leave the row, those that stay linked, and
-- what is left
pub record Distribution : Type 0 where
  pub served : List Node
  pub linked : List Node
  pub left : ℕ

abbrev pub given : ℕ → Node → Node
given n node = record node { needed = node.needed - n }

-- this node was served before
abbrev pub after_serving : Node → Distribution → Distribution
after_serving first rest = record rest { served = first ∷ rest.served }

-- n go to the node in front, be it a debt or a request, as far as it needs them. What it doesn't need goes on to
-- the next.
abbrev pub distribute : ℕ → List Node → Distribution
distribute n [] = record { served = []; linked = []; left = n }
distribute n (first ∷ rest) =
    if nat_lt n first.needed
    then record { served = []; linked = given n first ∷ rest; left = 0 }
    else after_serving first (distribute (n - first.needed) rest)

-- the requests that were served are granted, and their wakers are to be woken; what is left is available
abbrev pub settled_to : Distribution → PartialLine → PartialLine
settled_to done part = record {
  word = done.left;
  nodes = done.linked;
  granted = part.granted ++ map entry_of (requests_of done.served);
  wakes = part.wakes ++ map (λ w. w.waker) (requests_of done.served);
}

-- what is available is given out
abbrev pub give_out : PartialLine → PartialLine
give_out part = settled_to (distribute part.word part.nodes) part

-- n come back, and are given out
abbrev pub pass_on : ℕ → PartialLine → PartialLine
pass_on n part = give_out (record part { word = part.word + n })

-- One step of it: the node in front gets all that it needs and leaves the row, or it gets all that there is.
abbrev pub first_served : Node → List Node → PartialLine → PartialLine
first_served first rest part =
    settled_to (record { served = first ∷ []; linked = rest; left = part.word - first.needed }) part

abbrev pub first_given : Node → List Node → PartialLine → PartialLine
first_given first rest part = record part { word = 0; nodes = given part.word first ∷ rest }

-- n of what is available are taken
abbrev pub draw : ℕ → PartialLine → PartialLine
draw n part = record part { word = part.word - n }

-- A first poll that is not served takes what is available as its share, and goes to the end of the row.
abbrev pub enqueue : ℕ → ℕ → ℕ → PartialLine → PartialLine
enqueue slot size waker part = record part {
  word = 0;
  nodes = part.nodes ++ request slot size (size - part.word) waker ∷ [];
}

-- A reduction takes what is available, and what isn't there is a debt at the front of the row.
abbrev pub owe : ℕ → ℕ → PartialLine → PartialLine
owe slot n part =
    if nat_le n part.word
    then draw n part
    else record part { word = 0; nodes = debt slot n (n - part.word) ∷ part.nodes }

-- it is a request, and it is meant
abbrev pub is_request : (ℕ → Bool) → Node → Bool
is_request is node = not (is_debt node) && is node.slot

-- the request that is meant leaves this waker
abbrev pub with_waker : (ℕ → Bool) → ℕ → List Node → List Node
with_waker is waker [] = []
with_waker is waker (first ∷ rest) =
    if is_request is first
    then record first { waker = Some waker } ∷ rest
    else first ∷ with_waker is waker rest

-- a later poll of a request that waits
abbrev pub leave_new_waker : (ℕ → Bool) → ℕ → PartialLine → PartialLine
leave_new_waker is waker part = record part { nodes = with_waker is waker part.nodes }

-- a later poll of a request that was granted: it takes its permits and leaves
abbrev pub collect : (ℕ → Bool) → PartialLine → PartialLine
collect is part = record part { granted = without is part.granted }

-- the nodes without the request that is meant
abbrev pub without_node : (ℕ → Bool) → List Node → List Node
without_node is [] = []
without_node is (first ∷ rest) = if is_request is first then rest else first ∷ without_node is rest

-- the share of the request that is meant
abbrev pub share_under : (ℕ → Bool) → List Node → ℕ
share_under is nodes = option_map_or share_of (find (is_request is) nodes) 0

-- A cancelled request leaves. What it was granted, or else its share, is passed on.
abbrev pub end_request : Option (Entry ℕ) → (ℕ → Bool) → PartialLine → PartialLine
end_request (Some granted) is part = pass_on granted.size (collect is part)
end_request None is part =
    pass_on (share_under is part.nodes) (record part { nodes = without_node is part.nodes })

abbrev pub cancel_request : (ℕ → Bool) → PartialLine → PartialLine
cancel_request is part = end_request (entry_named is part.granted) is part

-- a debt of n, where anything is owed
abbrev pub rest_of_debts : ℕ → ℕ → List Node
rest_of_debts slot n = if n == 0 then [] else debt slot n n ∷ []

-- All requests are ended: they leave the row, and their wakers are to be woken. Their share pays what is owed, and what is owed still is
-- one debt.
abbrev pub end_requests : ℕ → PartialLine → PartialLine
end_requests slot part = record {
  word = (part.word + shares part.nodes) - owed part.nodes;
  nodes = rest_of_debts slot (owed part.nodes - (part.word + shares part.nodes));
  granted = part.granted;
  wakes = part.wakes ++ map (λ w. w.waker) (requests_of part.nodes);
}

-- what a distribution looks at: the nodes that it serves, which stand in front, and at most one more
pub record ServesAFront (nodes : List Node) (done : Distribution) : Type 0 where
  pub front : done.served ≡ take (length done.served) nodes
  -- behind them only the first can have been given something
  pub others : drop 1 done.linked ≡ drop (length done.served + 1) nodes
  -- each that was served is a request or a debt, and so is each that stays
  pub each : length done.served ≡ length (requests_of done.served) + debts done.served
  pub waiting : requests_of nodes ≡ requests_of done.served ++ requests_of done.linked
  pub owing : debts nodes ≡ debts done.served + debts done.linked
  -- while anything is owed no request is served
  pub debts_first : 0 < debts done.linked → requests_of done.served ≡ []
  -- nothing is left where a node stays
  pub all_given : 0 < done.left → done.linked ≡ []

-- how many requests wait no longer, and how many debts are gone
abbrev pub cleared : PartialLine → PartialLine → ℕ
cleared before after =
    (length (requests_of before.nodes) - length (requests_of after.nodes))
    + (debts before.nodes - debts after.nodes)
