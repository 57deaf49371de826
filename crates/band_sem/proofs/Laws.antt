-- The calls keep the order of the line, and who leaves it changes nothing for the others.
use Rattle.std.proofs.Common.{◌≡◌, refl, ℕ, Bool, true, false, cond, List, [], ◌∷◌, ◌++◌, map, pos, ◌+ℤ◌, Option, Some, None, Result, Ok, Err, inl, inr, nat_eq, ap, ap₂, sym, ◌∙◌, append-nil}
use Rattle.std.specs.List.{IsDistinct}
use Rattle.std.specs.List.Sorted.{IsPermutation}
use Rattle.std.proofs.lemmas.List.{map-append}
use Rattle.std.proofs.lemmas.List.Sorted.{IsPermutation-refl, IsPermutation-trans}
use Rattle.band_balance.specs.Line.{Entry, Waiting, Line, AreAlike, entry_of, requests, total, add_permits, take_permits, give_back, join, entry_named, without, without_waiting, poll_granted, poll_waiting, settle, withdraw, cancel}
use Rattle.band_balance.proofs.Alike.{total-alike, requests-alike}
use Rattle.band_balance.proofs.Settle.{passed, left, passed-left, le_false_from_lt, granted-settle, waiting-settle, wakes-settle, free-total-cancel}
use Rattle.band_balance.proofs.Requests.{entries-leave_waker, entries-without_waiting, requests-cancel}
use Rattle.band_base.specs.declared.poll.Poll.{Poll}
use Rattle.band_base.specs.declared.poll.Poll.TheVariants.{Ready, Pending}
use Rattle.band_base.specs.declared.poll.PollError.{PollError}
use Rattle.band_base.specs.declared.poll.PollError.TheVariants as errors
use Rattle.band_sem.proofs.Slots.{stands_once, distinct_behind, without-nobody}
use Rattle.band_balance.proofs.Requests.{not_behind}
use Rattle.band_sem.specs.Laws.{IsSublist, KeepsOrder, IsBehind, MakesRoomFor, LeavesOthers}
use Rattle.band_sem.specs.Permit.{Permit}
use Rattle.band_sem.specs.Request.{Request}
use Rattle.band_balance.specs.Settled.{HeadWaits}
use Rattle.band_sem.specs.Semaphore.{SemaphoreState, IsLike, IsLawful, FirstPoll, LaterPoll, is_slot, without_request}

IsPermutation-equal : (xs ys : List (Entry ℕ)) → ys ≡ xs → IsPermutation xs ys
IsPermutation-equal xs ys same = rw same (IsPermutation-refl xs)

IsSublist-more : (e : Entry ℕ) (xs ys : List (Entry ℕ)) → IsSublist xs ys → IsSublist xs (e ∷ ys)
IsSublist-more e [] ys h = tt
IsSublist-more e (x ∷ xs) ys h = inr h

IsSublist-itself : (xs : List (Entry ℕ)) → IsSublist xs xs
IsSublist-itself [] = tt
IsSublist-itself (x ∷ xs) = inl (refl, IsSublist-itself xs)

IsSublist-without : (is : ℕ → Bool) (xs : List (Entry ℕ)) → IsSublist (without is xs) xs
IsSublist-without is [] = tt
IsSublist-without is (x ∷ xs) = go (is x.name) (IsSublist-without is xs)
  where
    go : (b : Bool) → IsSublist (without is xs) xs → IsSublist (cond b xs (x ∷ without is xs)) (x ∷ xs)
    go true h = IsSublist-more x xs xs (IsSublist-itself xs)
    go false h = inl (refl, h)

-- who is in the line stays there, but for its wakers
stays : (old new : Line ℕ) → map entry_of new.waiting ≡ map entry_of old.waiting → new.granted ≡ old.granted → KeepsOrder old new
stays old new waiting granted = record {
  granted_now = [];
  stayed = map entry_of old.waiting;
  waited = IsSublist-itself (map entry_of old.waiting);
  joined = [];
  are_new = tt;
  waiting = waiting ∙ sym (append-nil (map entry_of old.waiting));
  kept = old.granted;
  granted_before = IsSublist-itself old.granted;
  granted = IsPermutation-equal (old.granted ++ []) new.granted (granted ∙ sym (append-nil old.granted));
}

pub KeepsOrder-same : (old new : Line ℕ) → new ≡ old → KeepsOrder old new
KeepsOrder-same old new same = stays old new (ap (λ (l : Line ℕ). map entry_of l.waiting) same) (ap (λ (l : Line ℕ). l.granted) same)

KeepsOrder-join : (slot size waker : ℕ) (old : Line ℕ) → entry_named (is_slot slot) (requests old) ≡ None → KeepsOrder old (join slot size waker old)
KeepsOrder-join slot size waker old nobody = record {
  granted_now = [];
  stayed = map entry_of old.waiting;
  waited = IsSublist-itself (map entry_of old.waiting);
  joined = record { name = slot; size = size } ∷ [];
  are_new = (nobody, tt);
  waiting = map-append entry_of old.waiting (record { name = slot; size = size; waker = waker } ∷ []);
  kept = old.granted;
  granted_before = IsSublist-itself old.granted;
  granted = IsPermutation-equal (old.granted ++ []) old.granted (sym (append-nil old.granted));
}

-- one that was granted leaves
KeepsOrder-poll_granted : (slot : ℕ) (old : Line ℕ) → KeepsOrder old (poll_granted (is_slot slot) old)
KeepsOrder-poll_granted slot old = record {
  granted_now = [];
  stayed = map entry_of old.waiting;
  waited = IsSublist-itself (map entry_of old.waiting);
  joined = [];
  are_new = tt;
  waiting = sym (append-nil (map entry_of old.waiting));
  kept = without (is_slot slot) old.granted;
  granted_before = IsSublist-without (is_slot slot) old.granted;
  granted = IsPermutation-equal (without (is_slot slot) old.granted ++ []) _ (sym (append-nil (without (is_slot slot) old.granted)));
}

-- a line settles, of which nobody left or one did
settles : (old base : Line ℕ) → IsSublist (map entry_of base.waiting) (map entry_of old.waiting) → IsSublist base.granted old.granted → KeepsOrder old (settle base)
settles old base waiting granted =
    let front = passed base.free base.waiting in
    let rest = left base.free base.waiting in
    record {
      granted_now = map entry_of front;
      stayed = map entry_of rest;
      waited = rw (← map-append entry_of front rest, passed-left base.free base.waiting) waiting;
      joined = [];
      are_new = tt;
      waiting = ap (map entry_of) (waiting-settle base) ∙ sym (append-nil (map entry_of rest));
      kept = base.granted;
      granted_before = granted;
      granted = IsPermutation-equal (base.granted ++ map entry_of front) (settle base).granted (granted-settle base);
    }

KeepsOrder-give_back : (n : ℕ) (old : Line ℕ) → KeepsOrder old (give_back n old)
KeepsOrder-give_back n old = settles old (add_permits n old) (IsSublist-itself (map entry_of old.waiting)) (IsSublist-itself old.granted)

KeepsOrder-cancel : (slot : ℕ) (old : Line ℕ) → KeepsOrder old (cancel (is_slot slot) old)
KeepsOrder-cancel slot old = at (entry_named (is_slot slot) old.granted)
  where
    at : (found : Option (Entry ℕ)) → KeepsOrder old (settle (withdraw found (is_slot slot) old))
    at (Some entry) = settles old (withdraw (Some entry) (is_slot slot) old) (IsSublist-itself (map entry_of old.waiting)) (IsSublist-without (is_slot slot) old.granted)
    at None = settles old (withdraw None (is_slot slot) old)
        (rw (entries-without_waiting (is_slot slot) old.waiting) (IsSublist-without (is_slot slot) (map entry_of old.waiting))) (IsSublist-itself old.granted)

-- The same up to the order of those granted.
KeepsOrder-alike : (old one other : Line ℕ) → AreAlike one other → KeepsOrder old one → KeepsOrder old other
KeepsOrder-alike old one other alike h = record {
  granted_now = h.granted_now;
  stayed = h.stayed;
  waited = h.waited;
  joined = h.joined;
  are_new = h.are_new;
  waiting = ap (map entry_of) alike.waiting ∙ h.waiting;
  kept = h.kept;
  granted_before = h.granted_before;
  granted = IsPermutation-trans _ _ _ h.granted alike.granted;
}

pub KeepsOrder-gives_back : (n : ℕ) (old new : Line ℕ) → AreAlike (give_back n old) new → KeepsOrder old new
KeepsOrder-gives_back n old new alike = KeepsOrder-alike old (give_back n old) new alike (KeepsOrder-give_back n old)

pub KeepsOrder-cancels : (slot : ℕ) (old new : Line ℕ) → AreAlike (cancel (is_slot slot) old) new → KeepsOrder old new
KeepsOrder-cancels slot old new alike = KeepsOrder-alike old (cancel (is_slot slot) old) new alike (KeepsOrder-cancel slot old)

-- the order is kept from the old state to any that is the same as the new one
module _ (old new : SemaphoreState) where
  ordered_as : (other : SemaphoreState) → new ≡ other → KeepsOrder old.line other.line → KeepsOrder old.line new.line
  ordered_as other same h = rw same h

  unchanged : new ≡ old → KeepsOrder old.line new.line
  unchanged same = ordered_as old same (KeepsOrder-same old.line old.line refl)

  pub KeepsOrder-first_poll : (request request' : Request) (waker : ℕ) (result : Result (Poll Permit) PollError) → FirstPoll request waker old result request' new → KeepsOrder old.line new.line
  KeepsOrder-first_poll request request' waker (Ok (Ready permit)) h = ordered_as _ h.3 (stays old.line (take_permits request.size old.line) refl refl)
  KeepsOrder-first_poll request request' waker (Ok Pending) h =
      ordered_as _ h.2.2 (KeepsOrder-join h.2.0 request.size waker old.line (not_behind (is_slot h.2.0) old.ended (requests old.line) h.2.1))
  KeepsOrder-first_poll request request' waker (Err errors.NoMemory) h = unchanged h.2
  KeepsOrder-first_poll request request' waker (Err errors.Closed) h = unchanged h.1
  KeepsOrder-first_poll request request' waker (Err error) h = absurd h

  pub KeepsOrder-later_poll : (slot : ℕ) (request request' : Request) (waker : ℕ) (result : Result (Poll Permit) PollError) → LaterPoll slot request waker old result request' new → KeepsOrder old.line new.line
  KeepsOrder-later_poll slot request request' waker (Ok (Ready permit)) h = ordered_as _ h.3 (KeepsOrder-poll_granted slot old.line)
  KeepsOrder-later_poll slot request request' waker (Ok Pending) h = ordered_as _ h.2 (stays old.line (poll_waiting (is_slot slot) waker old.line) (entries-leave_waker (is_slot slot) waker old.line.waiting) refl)
  KeepsOrder-later_poll slot request request' waker (Err errors.Closed) h = ordered_as _ h.1 (KeepsOrder-same old.line old.line refl)
  KeepsOrder-later_poll slot request request' waker (Err error) h = absurd h

without_waiting-nobody : (is : ℕ → Bool) (ws : List (Waiting ℕ)) → entry_named is (map entry_of ws) ≡ None → without_waiting is ws ≡ ws
without_waiting-nobody is [] h = refl
without_waiting-nobody is (w ∷ ws) h = go (is w.name) h (without_waiting-nobody is ws)
  where
    go : (b : Bool) → cond b (Some (entry_of w)) (entry_named is (map entry_of ws)) ≡ None → (entry_named is (map entry_of ws) ≡ None → without_waiting is ws ≡ ws) →
        cond b ws (w ∷ without_waiting is ws) ≡ w ∷ ws
    go true e k = cc
    go false e k = ap (λ vs. w ∷ vs) (k e)

module _ (slot : ℕ) (line : Line ℕ) (distinct : IsDistinct nat_eq (map (λ e. e.name) (requests line))) (head : HeadWaits line.free line.waiting) where
  -- one that waited behind another makes room for nobody
  behind : (ws : List (Waiting ℕ)) → HeadWaits line.free ws → IsBehind slot ws → passed line.free (without_waiting (is_slot slot) ws) ≡ []
  behind [] k b = absurd b
  behind (first ∷ rest) k b = rw (b, le_false_from_lt first.size line.free k) refl

  abbrev room : Option (Entry ℕ) → List (Waiting ℕ)
  room found = passed (withdraw found (is_slot slot) line).free (withdraw found (is_slot slot) line).waiting

  makes_room : (found : Option (Entry ℕ)) → entry_named (is_slot slot) line.granted ≡ found →
      (settle (withdraw found (is_slot slot) line)).free +ℤ pos (total (settle (withdraw found (is_slot slot) line)).granted) ≡ line.free +ℤ pos (total line.granted) →
      MakesRoomFor slot line (settle (withdraw found (is_slot slot) line)) (room found)
  makes_room (Some e) h sum =
      let base = withdraw (Some e) (is_slot slot) line in
      record {
        waiting = without_waiting-nobody (is_slot slot) line.waiting (stands_once slot line.granted (map entry_of line.waiting) distinct e h) ∙ sym (passed-left base.free line.waiting) ∙ ap (λ ws. passed base.free line.waiting ++ ws) (sym (waiting-settle base));
        granted = IsPermutation-equal _ (settle base).granted (granted-settle base);
        wakes = wakes-settle base;
        sum = sum;
        none_behind = λ none b. absurd (some_is_none (entry_named (is_slot slot) line.granted) e none h);
      }
    where
      some_is_none : (found : Option (Entry ℕ)) (e : Entry ℕ) → found ≡ None → found ≡ Some e → ⊥
      some_is_none found e p q = cc
  makes_room None h sum =
      let base = withdraw None (is_slot slot) line in
      record {
        waiting = sym (passed-left base.free base.waiting) ∙ ap (λ ws. passed base.free base.waiting ++ ws) (sym (waiting-settle base));
        granted = IsPermutation-equal _ (settle base).granted
            (granted-settle base ∙ ap (λ es. es ++ map entry_of (passed base.free base.waiting)) (sym (without-nobody (is_slot slot) line.granted h)));
        wakes = wakes-settle base;
        sum = sum;
        none_behind = λ none b. behind line.waiting head b;
      }

  pub MakesRoomFor-cancel : (granted_now : List (Waiting ℕ)) × MakesRoomFor slot line (cancel (is_slot slot) line) granted_now
  MakesRoomFor-cancel = (room (entry_named (is_slot slot) line.granted), makes_room (entry_named (is_slot slot) line.granted) refl (free-total-cancel (is_slot slot) line))

MakesRoomFor-alike : (slot : ℕ) (old one other : Line ℕ) (granted_now : List (Waiting ℕ)) → AreAlike one other → MakesRoomFor slot old one granted_now → MakesRoomFor slot old other granted_now
MakesRoomFor-alike slot old one other granted_now alike h = record {
  waiting = h.waiting ∙ ap (λ ws. granted_now ++ ws) (sym alike.waiting);
  granted = IsPermutation-trans _ _ _ h.granted alike.granted;
  wakes = alike.wakes ∙ h.wakes;
  sum = ap₂ (λ free sum. free +ℤ pos sum) alike.free (total-alike one other alike) ∙ h.sum;
  none_behind = h.none_behind;
}

pub LeavesOthers-cancels : (slot : ℕ) (old new : SemaphoreState) → IsLawful old → IsLike (without_request slot old) new → LeavesOthers slot old new
LeavesOthers-cancels slot old new lawful like =
    let room = MakesRoomFor-cancel slot old.line (distinct_behind old.ended (requests old.line) lawful.one_each) lawful.head_waits in (
      like.number,
      like.held,
      like.closed,
      like.ended,
      IsPermutation-trans _ _ _ (IsPermutation-equal _ _ (requests-cancel (is_slot slot) old.line)) (requests-alike (cancel (is_slot slot) old.line) new.line like.line),
      (room.0, MakesRoomFor-alike slot old.line (cancel (is_slot slot) old.line) new.line room.0 like.line room.1),
    )
