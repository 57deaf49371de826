-- Worked partial lines. They follow by computation.
use Rattle.std.specs.Prelude.{◌≡◌, ℕ, ◌-◌, ◌^◌, ◌==◌, List, [], ◌∷◌, pos, neg_ℤ}
use Rattle.band_balance.specs.Line.{Entry, available}
use Rattle.band_partial.specs.PartialLine.{Node, PartialLine, request, debt, line_of}
use Rattle.band_partial.specs.Moves.{open_part, pass_on, draw, enqueue, owe, leave_new_waker, collect, cancel_request, end_requests}

-- nothing is available, and nobody was granted
abbrev pub row : List Node → PartialLine
row nodes = record { word = 0; nodes = nodes; granted = []; wakes = [] }

abbrev pub entry : ℕ → ℕ → Entry ℕ
entry slot size = record { name = slot; size = size }

-- of 1 permit, after a request for 3 under slot 0: it has the one as its share
abbrev pub waiting_for_three : PartialLine
waiting_for_three = enqueue 0 3 7 (open_part 1)

-- of 5 permits, after a request for 8 and a reduction by the last number
abbrev pub owing_the_last_number : PartialLine
owing_the_last_number = owe 1 (2 ^ 64 - 1) (enqueue 0 8 1 (open_part 5))

-- a request of 3 under slot 0 was granted, and before the next one 5 are owed
abbrev pub granted_and_owing : PartialLine
granted_and_owing = record (row (debt 1 5 5 ∷ request 2 1 1 9 ∷ [])) { granted = entry 0 3 ∷ [] }

-- a debt before a request that has 3 of 4 and one that has none of 2
abbrev pub owing_one : PartialLine
owing_one = row (debt 2 1 1 ∷ request 0 4 1 10 ∷ request 1 2 2 11 ∷ [])

pub record WorkedRows : Type 0 where
  pub share : waiting_for_three ≡ row (request 0 3 2 7 ∷ [])
  -- a debt before a share: 1 is there and 2 are owed
  pub debt_before_share : owe 1 2 waiting_for_three ≡ row (debt 1 2 2 ∷ request 0 3 2 7 ∷ [])
  pub free : (line_of (owe 1 2 waiting_for_three)).free ≡ neg_ℤ (pos 1)
  pub paid : pass_on 2 (owe 1 2 waiting_for_three) ≡ waiting_for_three
  pub none_available : available (line_of waiting_for_three) ≡ 0
  pub new_waker : leave_new_waker (λ slot. slot == 0) 8 waiting_for_three ≡ row (request 0 3 2 8 ∷ [])
  pub share_comes_back : cancel_request (λ slot. slot == 0) waiting_for_three ≡ open_part 1
  -- what is there is taken, and the rest is owed
  pub drawn : draw 2 (open_part 5) ≡ open_part 3
  pub reduced : owe 0 2 (open_part 5) ≡ open_part 3
  pub reduced_below : owe 0 5 (open_part 2) ≡ row (debt 0 5 3 ∷ [])
  -- the last number is owed, and all of it is paid before the request is served
  pub last_number : owing_the_last_number
      ≡ row (debt 1 (2 ^ 64 - 1) (2 ^ 64 - 1) ∷ request 0 8 3 1 ∷ [])
  pub last_number_paid : pass_on (2 ^ 64 - 1) owing_the_last_number ≡ row (request 0 8 3 1 ∷ [])
  -- the debt made last is paid first, and one in part
  pub several_debts : pass_on 4 (owe 3 2 (owe 2 1 (owe 1 3 (open_part 0)))) ≡ row (debt 1 3 2 ∷ [])
  -- a debt is paid in part, and the share behind it stays
  pub paid_in_part : pass_on 3 (row (debt 1 5 5 ∷ request 0 4 2 9 ∷ []))
      ≡ row (debt 1 5 2 ∷ request 0 4 2 9 ∷ [])
  -- a share of 3 pays the debt, and the rest serves the next
  pub share_pays_first : cancel_request (λ slot. slot == 0) owing_one
      ≡ record { word = 0; nodes = []; granted = entry 1 2 ∷ []; wakes = 11 ∷ [] }
  -- one that waits behind the first has no share, so nobody is served
  pub nothing_comes_back : cancel_request (λ slot. slot == 1) owing_one
      ≡ row (debt 2 1 1 ∷ request 0 4 1 10 ∷ [])
  -- one that was granted takes its permits, or its cancel pays the debt
  pub collected : collect (λ slot. slot == 0) granted_and_owing ≡ row (debt 1 5 5 ∷ request 2 1 1 9 ∷ [])
  pub grant_pays_first : cancel_request (λ slot. slot == 0) granted_and_owing
      ≡ row (debt 1 5 2 ∷ request 2 1 1 9 ∷ [])
  -- the first is granted, and the next has the rest as its share
  pub next_has_a_share : pass_on 3 (row (request 0 3 1 7 ∷ request 1 4 4 8 ∷ []))
      ≡ record { word = 0; nodes = request 1 4 2 8 ∷ []; granted = entry 0 3 ∷ []; wakes = 7 ∷ [] }
  -- what nobody needs is available
  pub rest_is_available : pass_on 5 (row (request 0 3 1 7 ∷ []))
      ≡ record { word = 4; nodes = []; granted = entry 0 3 ∷ []; wakes = 7 ∷ [] }
  -- where all are ended, a share pays what is owed, and the rest is available
  pub ended : end_requests 9 owing_one ≡ record { word = 2; nodes = []; granted = []; wakes = 10 ∷ 11 ∷ [] }
  -- what is owed still is one debt
  pub one_debt_left : end_requests 9 (row (debt 1 5 5 ∷ debt 2 4 3 ∷ request 0 4 2 9 ∷ []))
      ≡ record { word = 0; nodes = debt 9 6 6 ∷ []; granted = []; wakes = 9 ∷ [] }
  pub nobody_ended : end_requests 9 (open_part 5) ≡ open_part 5
