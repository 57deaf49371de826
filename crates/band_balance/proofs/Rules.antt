-- The laws of an object, for any comparison that tells names apart.
use Rattle.std.proofs.Common.{◌≡◌, ℕ, ◌≤◌, Bool, false, true, [], pos, neg_ℤ, ◌+ℤ◌, ◌≤ℤ◌, ◌||◌, refl, sym, ap, subst, ◌∙◌, arith}
use Rattle.std.specs.Str.{bytes_eq}
use Rattle.std.proofs.lemmas.Bool.{cond-true, cond-false, or_parts}
use Rattle.std.proofs.lemmas.Int.{ints}
use Rattle.std.proofs.lemmas.Slice.Eq.{bytes_eq-Decides}
use Rattle.band_balance.specs.Line.{requests, u64_max}
use Rattle.band_balance.specs.Object.{Object, Turn, Kind, Semaphore, Mutex, ReaderWriter, Tag, new_object}
use Rattle.band_balance.specs.Rule.{Rule, Close, closes, IsAllowed, act, leaver, brought, removed, joiner, may_grant, may_wake}
use Rattle.band_balance.specs.Laws.{permits, IsWithin, HasAShare, KeepsShares, IsOrderly, told_between, GrantsAFront}
use Rattle.band_balance.proofs.Accounts.{accounts}
use Rattle.band_balance.proofs.Fronts.{Wakes, wakes-by, told-by}
use Rattle.band_balance.proofs.Held.{TellsApart}
use Rattle.band_balance.proofs.Orderly.{Queues, queues, orderly-by}
use Rattle.band_balance.proofs.Shares.{within-by, shares-by}
use Rattle.band_balance.proofs.Settle.{wakers}
use Rattle.band_balance.proofs.Turns.{TurnsBy, turns_by, gives, is_shut, closed_by}

-- a close closes, and nothing else
closing_by : {K : Type 0} (same : K → K → Bool) (rule : Rule K) (object : Object (Tag K)) → is_shut (gives same rule object) ≡ closes rule
closing_by same Close object = refl
closing_by same rule object = refl

module _ {K : Type 0} (same : K → K → Bool) (told : TellsApart same) (rule : Rule K) (object : Object (Tag K)) (allowed : IsAllowed same rule object) where
  by : TurnsBy same object rule
  by = turns_by same object rule allowed

  -- what holds of what the rule becomes holds of its turn
  of_turn : (P : Turn (Tag K) → Type 0) → P (record { answer = by.answer; woken = by.line.wakes; object = record object { line = record by.line { wakes = [] }; held = by.held; closed = by.closed; ended = by.ended } })
      → P (act same rule object)
  of_turn P is = subst P (sym by.turns) is

  pub adds_up-act : HasAShare object.kind → permits (act same rule object).object +ℤ pos (removed same rule object) ≡ permits object +ℤ pos (brought rule)
  adds_up-act lets =
      of_turn (λ t. permits t.object +ℤ pos (removed same rule object) ≡ permits object +ℤ pos (brought rule)) (accounts same told object lets by.becomes).sum

  pub orderly-act : IsOrderly same object → IsOrderly same (act same rule object).object
  orderly-act orderly = of_turn (λ t. IsOrderly same t.object) (orderly-by same object told orderly by.becomes)

  pub within-act : HasAShare object.kind → IsWithin object → IsWithin (act same rule object).object
  within-act lets within = of_turn (λ t. IsWithin t.object) (within-by same told object lets within by.becomes)

  pub shares-act : HasAShare object.kind → KeepsShares object → KeepsShares (act same rule object).object
  shares-act lets has = of_turn (λ t. KeepsShares t.object) (shares-by same told object lets has by.becomes)

  -- it is an object of the same kind
  pub kind-act : (act same rule object).object.kind ≡ object.kind
  kind-act = of_turn (λ t. t.object.kind ≡ object.kind) refl

  pub closed-act : (act same rule object).object.closed ≡ closes rule || object.closed
  closed-act = of_turn (λ t. t.object.closed ≡ closes rule || object.closed) (closed_by same object by.becomes ∙ ap (λ c. c || object.closed) (closing_by same rule object))

  pub queues-act : Queues same object (joiner rule object) (requests (act same rule object).object.line)
  queues-act = of_turn (λ t. Queues same object (joiner rule object) (requests t.object.line)) (queues same object by.becomes)

  module _ (orderly : IsOrderly same object) where
    wakes : Wakes same told object orderly (gives same rule object) by.line
    wakes = wakes-by same told object orderly by.becomes

    pub woken-act : (act same rule object).woken ≡ wakers (told_between same object (act same rule object).object)
    woken-act = of_turn (λ t. t.woken ≡ wakers (told_between same object t.object)) (told-by same told object orderly by.becomes)

    pub nobody-act : may_wake rule ≡ false → (act same rule object).woken ≡ []
    nobody-act none =
        of_turn (λ t. t.woken ≡ [])
        (let neither = or_parts (may_grant rule) (closes rule) none in
        subst (λ back. Wakes same told object orderly back by.line) (cond-false _ _ _ neither.0 ∙ cond-false _ _ _ neither.1) wakes).0

    pub front-act : may_grant rule ≡ true → GrantsAFront same (leaver same rule object) object.line (act same rule object).object.line
    front-act gives_back = of_turn (λ t. GrantsAFront same (leaver same rule object) object.line t.object.line) (still (subst (λ back. Wakes same told object orderly back by.line) (cond-true _ _ _ gives_back) wakes).1)
      where
        still : GrantsAFront same (leaver same rule object) object.line by.line → GrantsAFront same (leaver same rule object) object.line (record by.line { wakes = [] })
        still front = record { requested = front.requested; waiting = front.waiting; granted = front.granted; owed = front.owed }

-- A new object is in order, within the bounds, and has all of its shares.
pub record NewObject {K : Type 0} (same : K → K → Bool) (object : Object (Tag K)) : Type 0 where
  pub nobody : requests object.line ≡ []
  pub orderly : IsOrderly same object
  pub keeps_shares : KeepsShares object

module _ {K : Type 0} (same : K → K → Bool) where
  none_owed : (n : ℕ) → pos 0 ≤ℤ pos n
  none_owed n = omega (arith, ints)

  adds_up : (n : ℕ) → pos n +ℤ pos 0 ≡ pos n
  adds_up n = omega (arith, ints)

  pub new_semaphore_is : (n : ℕ) → NewObject same (new_object Semaphore n)
  new_semaphore_is n = record { nobody = refl; orderly = record { none_woken = refl; head_waits = tt; once = tt; each_request = tt; each_held = tt; closing = refl }; keeps_shares = tt }

  pub new_mutex_is : NewObject same (new_object Mutex 1)
  new_mutex_is = record {
    nobody = refl;
    orderly = record { none_woken = refl; head_waits = tt; once = tt; each_request = tt; each_held = tt; closing = refl };
    keeps_shares = record { none_owed = none_owed 1; adds_up = adds_up 1 };
  }

  pub new_reader_writer_is : (max : ℕ) → NewObject same (new_object (ReaderWriter max) max)
  new_reader_writer_is max = record {
    nobody = refl;
    orderly = record { none_woken = refl; head_waits = tt; once = tt; each_request = tt; each_held = tt; closing = refl };
    keeps_shares = record { none_owed = none_owed max; adds_up = adds_up max };
  }

-- one of so many permits or shares, and nobody there, is within the bounds
pub within_new : {N : Type 0} (kind : Kind) (n : ℕ) → n ≤ u64_max → IsWithin {N = N} (record { kind = kind; line = record { free = pos n; waiting = []; granted = []; wakes = [] }; held = []; closed = false; ended = [] })
within_new kind n small = record { in_hand = omega arith; in_all = few n small; owed = enough n }
  where
    few : (n : ℕ) → n ≤ u64_max → (pos n +ℤ pos 0) ≤ℤ pos u64_max
    few n small = omega (arith, ints)

    enough : (n : ℕ) → neg_ℤ (pos u64_max) ≤ℤ pos n
    enough n = omega (arith, ints)

-- names as bytes are told apart
pub bytes_told : TellsApart bytes_eq
bytes_told = record { itself = λ a. (bytes_eq-Decides a a).1 refl; equal = λ a b h. (bytes_eq-Decides a b).0 h }
