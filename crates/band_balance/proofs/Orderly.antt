-- An object stays in order by each rule: the first that waits waits for more than is free, a name has one request, each entry fits, and of
-- a closed one nobody waits.
use Rattle.std.proofs.Common.{◌≡◌, ℕ, ◌+◌, ◌-◌, Bool, true, false, List, [], ◌∷◌, ◌++◌, map, Option, Some, None, IfSome, refl, sym, append_assoc, append-nil, ap, ◌∙◌}
use Rattle.std.specs.List.{AllByRecursion}
use Rattle.std.proofs.lemmas.Bool.{cond_both, false≢true}
use Rattle.band_balance.specs.Line.{Entry, Line, requests, entry_of, drained, without, without_waiting, leave_waker, settle, add_permits, withdraw, cancel, entry_named}
use Rattle.band_balance.specs.Object.{Object, Kind, Semaphore, Mutex, ReaderWriter, Mode, Permit, Lock, Read, Write, Tag, is_of, change, asked}
use Rattle.band_balance.specs.Rule.{Fits, has_name, MayAsk}
use Rattle.band_balance.specs.Laws.{Pairwise, IsOrderly, EndsAs}
use Rattle.band_balance.specs.Settled.{HeadWaits}
use Rattle.band_balance.proofs.Held.{TellsApart, other_way, all-change}
use Rattle.band_balance.proofs.AnyOrder.{ended_in_order, pairwise-order, pairwise_front}
use Rattle.band_balance.proofs.Rename.{all_of_first, all_of_second, all_of_both}
use Rattle.band_balance.proofs.Requests.{all-weaker, all-without, all-found, all-not_named, requests-join, requests-give_back, requests-poll_waiting, requests-poll_granted, requests-cancel}
use Rattle.band_balance.proofs.Settle.{left, waiting-settle, HeadWaits-give_back, HeadWaits-cancel, HeadWaits-take_permits, HeadWaits-poll_granted, HeadWaits-poll_waiting, HeadWaits-join}
use Rattle.band_balance.proofs.Turns.{Becomes, takes, joins, receives, rewakes, returns, ends, comes, goes, drains, forgets, splits, merges, lowers, tells, closes, Effect}

-- What holds pairwise goes on where one leaves, where one joins, and where it says more.
module _ {X : Type 0} where
  pub pairwise-push : (R : X → X → Type 0) (xs : List X) (new : X) → Pairwise R xs → AllByRecursion (λ x. R x new) xs → Pairwise R (xs ++ new ∷ [])
  pairwise-push R [] new each last = (tt, tt)
  pairwise-push R (x ∷ xs) new each last = (all_of_both (R x) xs (new ∷ []) each.0 (last.0, tt), pairwise-push R xs new each.1 last.1)

  pub pairwise-weaker : (P : X → Type 0) (R Q : X → X → Type 0) → ((x y : X) → P x → P y → R x y → Q x y) → (xs : List X) → AllByRecursion P xs → Pairwise R xs → Pairwise Q xs
  pairwise-weaker P R Q weaker [] all each = tt
  pairwise-weaker P R Q weaker (x ∷ xs) all each = (later xs all.1 each.0, pairwise-weaker P R Q weaker xs all.1 each.1)
    where
      later : (ys : List X) → AllByRecursion P ys → AllByRecursion (R x) ys → AllByRecursion (Q x) ys
      later [] ps rs = tt
      later (y ∷ ys) ps rs = (weaker x y all.0 ps.0 rs.0, later ys ps.1 rs.1)

pub pairwise-without : {N : Type 0} (R : Entry N → Entry N → Type 0) (is : N → Bool) (es : List (Entry N)) → Pairwise R es → Pairwise R (without is es)
pairwise-without R is [] each = tt
pairwise-without R is (e ∷ es) each =
    cond_both (is e.name) _ _ (Pairwise R) (λ h. each.1) (λ h. (all-without (R e) is es each.0, pairwise-without R is es each.1))

-- the same, where one leaves the front or the back of a list
module _ {N : Type 0} (is : N → Bool) where
  all-front : (P : Entry N → Type 0) (xs ys : List (Entry N)) → AllByRecursion P (xs ++ ys) → AllByRecursion P (without is xs ++ ys)
  all-front P xs ys each = all_of_both P (without is xs) ys (all-without P is xs (all_of_first P xs ys each)) (all_of_second P xs ys each)

  all-back : (P : Entry N → Type 0) (xs ys : List (Entry N)) → AllByRecursion P (xs ++ ys) → AllByRecursion P (xs ++ without is ys)
  all-back P xs ys each = all_of_both P xs (without is ys) (all_of_first P xs ys each) (all-without P is ys (all_of_second P xs ys each))

  pairwise-front : (R : Entry N → Entry N → Type 0) (xs ys : List (Entry N)) → Pairwise R (xs ++ ys) → Pairwise R (without is xs ++ ys)
  pairwise-front R [] ys each = each
  pairwise-front R (x ∷ xs) ys each =
      cond_both (is x.name) _ _ (λ (rest : List (Entry N)). Pairwise R (rest ++ ys)) (λ h. each.1) (λ h. (all-front (R x) xs ys each.0, pairwise-front R xs ys each.1))

  pairwise-back : (R : Entry N → Entry N → Type 0) (xs ys : List (Entry N)) → Pairwise R (xs ++ ys) → Pairwise R (xs ++ without is ys)
  pairwise-back R [] ys each = pairwise-without R is ys each
  pairwise-back R (x ∷ xs) ys each = (all-back (R x) xs ys each.0, pairwise-back R xs ys each.1)

-- of what permits are asked, any size of a mode that fits fits
size_free : (kind : Kind) (mode : Mode) (size other : ℕ) → Fits kind mode size → is_of kind Permit ≡ true → Fits kind mode other
size_free Semaphore Permit size other fits permits = refl
size_free Semaphore Lock size other fits permits = absurd (false≢true fits.0)
size_free Semaphore Read size other fits permits = absurd (false≢true fits.0)
size_free Semaphore Write size other fits permits = absurd (false≢true fits.0)
size_free Mutex mode size other fits permits = absurd (false≢true permits)
size_free (ReaderWriter max) mode size other fits permits = absurd (false≢true permits)

-- Who is in the line afterwards: the same, the same without one, one more at the end, or those granted alone.
pub data Queues {K : Type 0} (same : K → K → Bool) (object : Object (Tag K)) : Option K → List (Entry (Tag K)) → Type 0 where
  nobody : Queues same object None (requests object.line)
  leaves : (is : Tag K → Bool) → Queues same object None (without is (requests object.line))
  joined : (made : Tag K) (size : ℕ) → Queues same object (Some made.name) (requests object.line ++ record { name = made; size = size } ∷ [])
  cut : Queues same object None (object.line.granted ++ [])

-- Who has asked afterwards: the same, without one that heard that it was ended, without one of the line, without one wherever it stood,
-- one more at the end, or all that waited among the ended.
pub data Asking {K : Type 0} (same : K → K → Bool) (object : Object (Tag K)) : List (Entry (Tag K)) → Type 0 where
  as_before : Asking same object (asked object)
  heard : (is : Tag K → Bool) → Asking same object (without is object.ended ++ requests object.line)
  parted : (is : Tag K → Bool) → Asking same object (object.ended ++ without is (requests object.line))
  withdrawn : (is : Tag K → Bool) → Asking same object (without is object.ended ++ without is (requests object.line))
  asks : (made : Tag K) (size : ℕ) → MayAsk same made size object → Asking same object (object.ended ++ (requests object.line ++ record { name = made; size = size } ∷ []))
  told_all : Asking same object ((object.ended ++ map entry_of object.line.waiting) ++ (object.line.granted ++ []))

-- where nobody waits, nobody waits once the line has settled
module _ {N : Type 0} where
  pub none-settle : (line : Line N) → line.waiting ≡ [] → (settle line).waiting ≡ []
  none-settle line none = waiting-settle line ∙ ap (left line.free) none

  pub none-cancel : (is : N → Bool) (line : Line N) → line.waiting ≡ [] → (cancel is line).waiting ≡ []
  none-cancel is line none = go (entry_named is line.granted)
    where
      go : (found : Option (Entry N)) → (settle (withdraw found is line)).waiting ≡ []
      go (Some entry) = none-settle (withdraw (Some entry) is line) none
      go None = none-settle (withdraw None is line) (ap (without_waiting is) none)

module _ {K : Type 0} (same : K → K → Bool) (object : Object (Tag K)) where
  pub queues : {back : Effect (Tag K)} {came gone : ℕ} {who : Option K} {line : Line (Tag K)} {held : List (Entry (Tag K))} {closed : Bool} {ended : List (Entry (Tag K))} → Becomes same object back came gone who line held closed ended
      → Queues same object who (requests line)
  queues (joins made size waker waits may) = rw (requests-join made size waker object.line) (joined made size)
  queues (receives name entry there) = rw (requests-poll_granted (has_name same name) object.line entry there) (leaves (has_name same name))
  queues (rewakes name waker) = rw (requests-poll_waiting (has_name same name) waker object.line) nobody
  queues (returns name entry there) = rw (requests-give_back entry.size object.line) nobody
  queues (ends name) = rw (requests-cancel (has_name same name) object.line) (leaves (has_name same name))
  queues (comes n fits under) = rw (requests-give_back n object.line) nobody
  queues (lowers name max kind it) = rw (requests-give_back (max - 1) object.line) nobody
  queues (closes permits) = cut
  queues by = nobody

  asking : {back : Effect (Tag K)} {came gone : ℕ} {who : Option K} {line : Line (Tag K)} {held : List (Entry (Tag K))} {closed : Bool} {ended : List (Entry (Tag K))}
      → Becomes same object back came gone who line held closed ended → Asking same object (ended ++ requests line)
  asking (joins made size waker waits may) = rw (requests-join made size waker object.line) (asks made size may)
  asking (receives name entry there) = rw (requests-poll_granted (has_name same name) object.line entry there) (parted (has_name same name))
  asking (rewakes name waker) = rw (requests-poll_waiting (has_name same name) waker object.line) as_before
  asking (returns name entry there) = rw (requests-give_back entry.size object.line) as_before
  asking (ends name) = rw (requests-cancel (has_name same name) object.line) (withdrawn (has_name same name))
  asking (comes n fits under) = rw (requests-give_back n object.line) as_before
  asking (lowers name max kind it) = rw (requests-give_back (max - 1) object.line) as_before
  asking (tells name) = heard (has_name same name)
  asking (closes permits) = told_all
  asking by = as_before

  pub pairwise-by : (R : K → K → Type 0) {who : Option K} {es : List (Entry (Tag K))} → Queues same object who es → Pairwise (λ (a b : Entry (Tag K)). R a.name.name b.name.name) (requests object.line)
      → IfSome who (λ name. AllByRecursion (λ (e : Entry (Tag K)). R e.name.name name) (requests object.line)) → Pairwise (λ (a b : Entry (Tag K)). R a.name.name b.name.name) es
  pairwise-by R nobody each last = each
  pairwise-by R (leaves is) each last = pairwise-without _ is (requests object.line) each
  pairwise-by R cut each last = rw append-nil (pairwise_front _ object.line.granted (map entry_of object.line.waiting) each)
  pairwise-by R (joined made size) each last = pairwise-push _ (requests object.line) (record { name = made; size = size }) each last

  pub all-by : (P : K → Type 0) {who : Option K} {es : List (Entry (Tag K))} → Queues same object who es → AllByRecursion (λ (e : Entry (Tag K)). P e.name.name) (requests object.line)
      → IfSome who P → AllByRecursion (λ (e : Entry (Tag K)). P e.name.name) es
  all-by P nobody each last = each
  all-by P (leaves is) each last = all-without _ is (requests object.line) each
  all-by P cut each last = all_of_both _ object.line.granted [] (all_of_first _ object.line.granted (map entry_of object.line.waiting) each) tt
  all-by P (joined made size) each last = all_of_both _ (requests object.line) _ each (last, tt)

  abbrev EachFits : List (Entry (Tag K)) → Type 0
  EachFits es = AllByRecursion (λ (e : Entry (Tag K)). Fits object.kind e.name.mode e.size) es

  requests_fit : {es : List (Entry (Tag K))} → Asking same object es → EachFits (asked object) → EachFits es
  requests_fit as_before each = each
  requests_fit (heard is) each = all-front is _ object.ended (requests object.line) each
  requests_fit (parted is) each = all-back is _ object.ended (requests object.line) each
  requests_fit (withdrawn is) each = all-front is _ object.ended _ (all-back is _ object.ended (requests object.line) each)
  requests_fit (asks made size may) each =
      rw (sym (append_assoc object.ended (requests object.line) (record { name = made; size = size } ∷ []))) (all_of_both _ (asked object) _ each (may.fits, tt))
  requests_fit told_all each =
      let line = all_of_second _ object.ended (requests object.line) each in
      all_of_both _ (object.ended ++ map entry_of object.line.waiting) (object.line.granted ++ [])
      (all_of_both _ object.ended _ (all_of_first _ object.ended (requests object.line) each) (all_of_second _ object.line.granted (map entry_of object.line.waiting) line))
      (all_of_both _ object.line.granted [] (all_of_first _ object.line.granted (map entry_of object.line.waiting) line) tt)

  module _ (told : TellsApart same) (orderly : IsOrderly same object) where
    abbrev Apart : Entry (Tag K) → Entry (Tag K) → Type 0
    Apart a b = same a.name.name b.name.name ≡ false

    once-by : {es : List (Entry (Tag K))} → Asking same object es → Pairwise Apart es
    once-by as_before = orderly.once
    once-by (heard is) = pairwise-front is Apart object.ended (requests object.line) orderly.once
    once-by (parted is) = pairwise-back is Apart object.ended (requests object.line) orderly.once
    once-by (withdrawn is) = pairwise-front is Apart object.ended _ (pairwise-back is Apart object.ended (requests object.line) orderly.once)
    once-by (asks made size may) =
        rw (sym (append_assoc object.ended (requests object.line) (record { name = made; size = size } ∷ [])))
        (pairwise-push Apart (asked object) (record { name = made; size = size }) orderly.once
        (all-weaker _ (λ (e : Entry (Tag K)). same e.name.name made.name ≡ false) (λ e apart. other_way same told made.name e.name.name apart) (asked object)
        (all-not_named (has_name same made.name) (asked object) may.fresh.asked)))
    once-by told_all = pairwise-order Apart (λ a b apart. other_way same told a.name.name b.name.name apart) (asked object) _ (ended_in_order object.ended object.line.granted (map entry_of object.line.waiting)) orderly.once

    -- of an open object nobody is ended but by a close, and of a closed one nobody joins
    closing-as : (shut : Bool) → object.closed ≡ shut → EndsAs shut object
        → {back : Effect (Tag K)} {came gone : ℕ} {who : Option K} {line : Line (Tag K)} {held : List (Entry (Tag K))} {closed : Bool} {ended : List (Entry (Tag K))}
        → Becomes same object back came gone who line held closed ended → EndsAs closed (record object { line = record line { wakes = [] }; held = held; closed = closed; ended = ended })
    closing-as false is none (closes permits) = (refl, permits)
    closing-as false is none (ends name) = rw is (ap (without (has_name same name)) none)
    closing-as false is none (tells name) = rw is (ap (without (has_name same name)) none)
    closing-as false is none by = rw is none
    closing-as true is shut (joins made size waker waits may) = absurd (false≢true (sym may.not_closed ∙ is))
    closing-as true is shut (rewakes name waker) = rw is (ap (leave_waker (has_name same name) waker) shut.0, shut.1)
    closing-as true is shut (returns name entry there) = rw is (none-settle (add_permits entry.size object.line) shut.0, shut.1)
    closing-as true is shut (ends name) = rw is (none-cancel (has_name same name) object.line shut.0, shut.1)
    closing-as true is shut (comes n fits under) = rw is (none-settle (add_permits n object.line) shut.0, shut.1)
    closing-as true is shut (lowers name max kind it) = rw is (none-settle (add_permits (max - 1) object.line) shut.0, shut.1)
    closing-as true is shut (closes permits) = (refl, permits)
    closing-as true is shut by = rw is shut

    -- where one is held in another size, or in another mode
    resized_fit : (name : K) (size : ℕ) → is_of object.kind Permit ≡ true → EachFits (change (has_name same name) (λ e. record e { size = size }) object.held)
    resized_fit name size permits =
        all-change (has_name same name) (λ e. record e { size = size }) _ _ object.held (λ e fits means. size_free object.kind e.name.mode e.size size fits permits) orderly.each_held
        (all-without _ (has_name same name) object.held orderly.each_held)

    held_fits : {back : Effect (Tag K)} {came gone : ℕ} {who : Option K} {line : Line (Tag K)} {held : List (Entry (Tag K))} {closed : Bool} {ended : List (Entry (Tag K))} → Becomes same object back came gone who line held closed ended → EachFits held
    held_fits (takes made size served fits) = all_of_both _ object.held _ orderly.each_held (fits, tt)
    held_fits (receives name entry there) =
        all_of_both _ object.held _ orderly.each_held
        (all-found _ (has_name same name) object.line.granted entry (all_of_first _ object.line.granted (map entry_of object.line.waiting) (all_of_second _ object.ended (requests object.line) orderly.each_request)) there, tt)
    held_fits (returns name entry there) = all-without _ (has_name same name) object.held orderly.each_held
    held_fits (forgets name it) = all-without _ (has_name same name) object.held orderly.each_held
    held_fits (splits name made n it enough) = all_of_both _ _ _ (resized_fit name (it.entry.size - n) it.fits) (it.fits, tt)
    held_fits (merges kept spent it other apart) = all-without _ (has_name same spent) _ (resized_fit kept (it.entry.size + other.entry.size) it.fits)
    held_fits (lowers name max kind it) =
        all-change (has_name same name) _ _ _ object.held (λ e fits means. rw kind (refl, refl)) orderly.each_held (all-without _ (has_name same name) object.held orderly.each_held)
    held_fits by = orderly.each_held

    heads : {back : Effect (Tag K)} {came gone : ℕ} {who : Option K} {line : Line (Tag K)} {held : List (Entry (Tag K))} {closed : Bool} {ended : List (Entry (Tag K))} → Becomes same object back came gone who line held closed ended
        → HeadWaits line.free line.waiting
    heads (takes made size served fits) = HeadWaits-take_permits size object.line orderly.head_waits
    heads (joins made size waker waits may) = HeadWaits-join made size waker object.line orderly.head_waits waits
    heads (receives name entry there) = HeadWaits-poll_granted (has_name same name) object.line orderly.head_waits
    heads (rewakes name waker) = HeadWaits-poll_waiting (has_name same name) waker object.line orderly.head_waits
    heads (returns name entry there) = HeadWaits-give_back entry.size object.line
    heads (ends name) = HeadWaits-cancel (has_name same name) object.line
    heads (comes n fits under) = HeadWaits-give_back n object.line
    heads (goes n fits over) = HeadWaits-take_permits n object.line orderly.head_waits
    heads (drains n fits) = HeadWaits-take_permits (drained n object.line) object.line orderly.head_waits
    heads (lowers name max kind it) = HeadWaits-give_back (max - 1) object.line
    heads (closes permits) = tt
    heads by = orderly.head_waits

    pub orderly-by : {back : Effect (Tag K)} {came gone : ℕ} {who : Option K} {line : Line (Tag K)} {held : List (Entry (Tag K))} {closed : Bool} {ended : List (Entry (Tag K))} → Becomes same object back came gone who line held closed ended
        → IsOrderly same (record object { line = record line { wakes = [] }; held = held; closed = closed; ended = ended })
    orderly-by by = record {
      none_woken = refl;
      head_waits = heads by;
      once = once-by (asking by);
      each_request = requests_fit (asking by) orderly.each_request;
      each_held = held_fits by;
      closing = closing-as object.closed refl orderly.closing by;
    }
