-- What the calls of a queue keep.
use Rattle.std.proofs.Common.{◌≡◌, ◌≢◌, refl, ℕ, suc, ◌-◌, List, [], ◌∷◌, ◌++◌, append_assoc, append-nil, length, map, drop, get_or, arith, ap, sym, ◌∙◌, subst, Option, Some, None, is_some, Bool, true, false}
use Rattle.std.specs.Prelude.{◌==◌, flat_map, Result, Ok}
use Rattle.std.specs.Option.{option_map}
use Rattle.std.proofs.Math.Seq.{map-set_same}
use Rattle.std.proofs.lemmas.Bool.Decides.{nat_tests}
use Rattle.band_base.specs.declared.poll.Poll.{Poll}
use Rattle.band_base.specs.declared.poll.Poll.TheVariants.{Ready}
use Rattle.band_base.specs.declared.poll.PollError.{PollError}
use Rattle.band_base.specs.declared.waker.Waker.{Waker}
use Rattle.band_line.specs.Arena.{KeepsOthers, arena_map}
use Rattle.band_line.specs.WaitList.{WaitListState, IsWaitList, IsUnlinked, waiter_at, is_linked, first_waiter, unlinked, removed_waiter}
use Rattle.band_event.specs.declared.place.Place.{Place}
use Rattle.band_event.specs.declared.place.Place.TheVariants.{Queued, Called}
use Rattle.band_event.specs.Event.{QueueState, EventState, IsEvent, IsQueue, AreQueued, is_queued, is_called, wakers_of, all_called, Polls, LaterPoll}
use Rattle.band_signal.specs.Waits.{Life, Registered}
use Rattle.band_signal.specs.WaitQueue.{place_at}
use Rattle.band_event.specs.Kept.Queue.{IsKept}
use Rattle.band_line.proofs.Leaving.{first-split}

-- exactly those in line are queued, seen at one slot and at the others
by_slot : (line : WaitListState Place) (slot : ℕ)
    → is_queued (waiter_at slot line) ≡ is_linked slot line
    → ((other : ℕ) → other ≢ slot → is_queued (waiter_at other line) ≡ is_linked other line)
    → AreQueued line
by_slot line slot here others other = by_test (other == slot) refl
  where
    by_test : (b : Bool) → (other == slot) ≡ b → is_queued (waiter_at other line) ≡ is_linked other line
    by_test true e =
        let same : slot ≡ other = grind (arith, nat_tests) in
        subst (λ s. is_queued (waiter_at s line) ≡ is_linked s line) same here
    by_test false e = let differs : other ≢ slot = grind (arith, nat_tests) in others other differs

-- a slot still has something, and if that was called, so it stays
abbrev pub StaysAt : ℕ → WaitListState Place → WaitListState Place → Type 0
StaysAt slot old line =
    (is_some (waiter_at slot line) ≡ is_some (waiter_at slot old)) × (is_called (waiter_at slot old) ≡ true → is_called (waiter_at slot line) ≡ true)

pub stay-called : (old line : WaitListState Place) (slot : ℕ) (place : Place) → waiter_at slot old ≡ Some place → IsUnlinked slot Called old line
    → (other : ℕ) → StaysAt other old line
stay-called old line slot place here unlinked other = by_test (other == slot) refl
  where
    by_test : (b : Bool) → (other == slot) ≡ b → StaysAt other old line
    by_test true e =
        let same : slot ≡ other = grind (arith, nat_tests) in
        subst (λ s. StaysAt s old line) same (ap is_some unlinked.value ∙ sym (ap is_some here), λ was. ap is_called unlinked.value)
    by_test false e =
        let differs : other ≢ slot = grind (arith, nat_tests) in
        let kept = unlinked.others other differs in
        (ap is_some kept, λ was. ap is_called kept ∙ was)

pub queued-gone : (old line after : WaitListState Place) (slot : ℕ) → AreQueued old → IsUnlinked slot Called old line
    → after ≡ removed_waiter slot line → waiter_at slot after ≡ None → KeepsOthers slot line.nodes after.nodes → AreQueued after
queued-gone old line after slot queued unlinked is vacant others =
    let links : after.linked ≡ line.linked = ap (λ l. l.linked) is in
    by_slot after slot
    (ap is_queued vacant ∙ sym unlinked.detached.not_linked ∙ ap (λ ids. is_linked slot (record line { linked = ids })) (sym links))
    (λ other differs. ap is_queued (others other differs ∙ unlinked.others other differs) ∙ queued other
    ∙ sym (unlinked.linked other differs) ∙ ap (λ ids. is_linked other (record line { linked = ids })) (sym links))

-- a first one that is called leaves the others to be called
pub all-called : (old : QueueState) (line : WaitListState Place) (slot : ℕ) (waker : Waker)
    → IsWaitList old.line → first_waiter old.line ≡ Some slot → waiter_at slot old.line ≡ Some (Queued waker)
    → IsUnlinked slot Called old.line line
    → all_called (record { line = line; wakes = old.wakes ++ waker.0 ∷ []; room = old.room }) ≡ all_called old
all-called old line slot waker sound first here unlinked =
    let nodes : arena_map (λ (place : Place). Called) line.nodes ≡ arena_map (λ place. Called) old.line.nodes =
    ap (λ l. arena_map (λ (place : Place). Called) l.nodes) unlinked.state
    ∙ ap (λ slots. record { slots = slots; vacated = old.line.nodes.vacated; spare = old.line.nodes.spare })
    (map-set_same (option_map (λ (place : Place). Called)) old.line.nodes.slots slot (Some Called) None (rw here refl)) in
    let now : ℕ → List ℕ = λ s. wakers_of (waiter_at s line) in
    let before : ℕ → List ℕ = λ s. wakers_of (waiter_at s old.line) in
    let split = first-split now before slot (λ other differs. ap wakers_of (unlinked.others other differs)) old.line.linked sound.once first in
    let woken : before slot ≡ waker.0 ∷ [] = ap wakers_of here in
    let wakes : (old.wakes ++ waker.0 ∷ []) ++ flat_map now line.linked ≡ old.wakes ++ flat_map before old.line.linked =
    ap (λ ids. (old.wakes ++ waker.0 ∷ []) ++ flat_map now ids) (unlinked.first first)
    ∙ append_assoc old.wakes (waker.0 ∷ []) (flat_map now (drop 1 old.line.linked))
    ∙ ap (λ ws. old.wakes ++ ws) (ap (λ ws. ws ++ flat_map now (drop 1 old.line.linked)) (sym woken) ∙ split) in
    ap (λ n. record old { line = record { nodes = n; linked = [] }; wakes = (old.wakes ++ waker.0 ∷ []) ++ flat_map now line.linked }) nodes
    ∙ ap (λ ws. record old { line = record { nodes = arena_map (λ place. Called) old.line.nodes; linked = [] }; wakes = ws }) wakes

-- with nobody in line all are called
pub nobody-queued : (queue : QueueState) → IsQueue queue → queue.line.linked ≡ [] → all_called queue ≡ queue
nobody-queued queue queued none =
    let slots = at queue.line.nodes.slots (λ slot. queued slot ∙ ap (λ ids. is_linked slot (record queue.line { linked = ids })) none) in
    ap (λ ids. record queue {
      line = record { nodes = arena_map (λ place. Called) queue.line.nodes; linked = [] };
      wakes = queue.wakes ++ flat_map (λ slot. wakers_of (place_at slot queue)) ids;
    }) none
    ∙ ap (λ s. record queue { line = record { nodes = record queue.line.nodes { slots = s }; linked = [] }; wakes = queue.wakes ++ [] }) slots
    ∙ ap (λ ids. record queue { line = record { nodes = queue.line.nodes; linked = ids }; wakes = queue.wakes ++ [] }) (sym none)
    ∙ ap (λ ws. record queue { wakes = ws }) (append-nil queue.wakes)
  where
    same : (slot : Option Place) → is_queued slot ≡ false → option_map (λ place. Called) slot ≡ slot
    same None e = refl
    same (Some Called) e = refl
    same (Some (Queued waker)) e = absurd (cc)

    at : (slots : List (Option Place)) → ((slot : ℕ) → is_queued (get_or slots slot None) ≡ false)
        → map (option_map (λ place. Called)) slots ≡ slots
    at [] none = refl
    at (x ∷ xs) none =
        ap (λ y. y ∷ map (option_map (λ (place : Place). Called)) xs) (same x (none 0))
        ∙ ap (λ ys. x ∷ ys) (at xs (λ slot. none (suc slot)))

-- one that was queued is counted no more, once it is gone
pub kept-queued : (old line after : WaitListState Place) (slot waiting spare : ℕ) (waker : Waker)
    → IsKept old waiting spare → IsUnlinked slot Called old line → waiter_at slot old ≡ Some (Queued waker)
    → after ≡ removed_waiter slot line → waiter_at slot after ≡ None → KeepsOthers slot line.nodes after.nodes
    → IsKept after (waiting - 1) spare
kept-queued old line after slot waiting spare waker kept unlinked here is vacant others =
    let linked : is_linked slot old ≡ true = sym (kept.queued slot) ∙ ap is_queued here in
    let fewer = unlinked.fewer linked in
    let count = ap (λ l. length l.linked) is in
    let counted = kept.counted in
    let room = kept.room in
    record {
      queued = queued-gone old line after slot kept.queued unlinked is vacant others;
      counted = omega arith;
      room = omega arith;
    }

-- one that was called was not counted
pub kept-called : (old line after : WaitListState Place) (slot waiting spare : ℕ)
    → IsKept old waiting spare → IsUnlinked slot Called old line → waiter_at slot old ≡ Some Called
    → after ≡ removed_waiter slot line → waiter_at slot after ≡ None → KeepsOthers slot line.nodes after.nodes
    → IsKept after waiting spare
kept-called old line after slot waiting spare kept unlinked here is vacant others =
    let out : is_linked slot old ≡ false = sym (kept.queued slot) ∙ ap is_queued here in
    let count = ap (λ l. length l.linked) is ∙ ap length (unlinked.already out) in
    let counted = kept.counted in
    let room = kept.room in
    record {
      queued = queued-gone old line after slot kept.queued unlinked is vacant others;
      counted = omega arith;
      room = room;
    }

-- who is queued waits for an event that is not set
pub queued-unset : (event : EventState) → IsEvent event → (slot : ℕ) → is_queued (place_at slot event.queue) ≡ true → event.is_set ≡ false
queued-unset event sound slot queued = by_test event.is_set refl
  where
    by_test : (b : Bool) → event.is_set ≡ b → b ≡ false
    by_test false e = refl
    by_test true e =
        let out : is_linked slot event.queue.line ≡ false =
        ap (λ ids. is_linked slot (record event.queue.line { linked = ids })) (sound.stored e) in
        let never : true ≡ false = sym queued ∙ sound.queued slot ∙ out in
        absurd (cc)

-- who was called is ready, set or not
pub called-ready : (is_set rest : Bool) (slot : ℕ) (waker : Waker) (old new : EventState) (result : Result (Poll Unit) PollError) (life : Life)
    → place_at slot old.queue ≡ Some Called → Polls is_set rest (Registered slot) waker old result life new → result ≡ Ok (Ready tt)
called-ready is_set rest slot waker old new result life called polls = by_set is_set polls
  where
    by_place : (place : Option Place) → place ≡ Some Called → LaterPoll place slot waker old.queue result life new.queue
        → result ≡ Ok (Ready tt)
    by_place (Some Called) e h = h.0
    by_place (Some (Queued before)) e h = absurd (cc)
    by_place None e h = absurd h

    by_set : (b : Bool) → Polls b rest (Registered slot) waker old result life new → result ≡ Ok (Ready tt)
    by_set true h = by_place (place_at slot old.queue) called h.0
    by_set false h = by_place (place_at slot old.queue) called h.0
