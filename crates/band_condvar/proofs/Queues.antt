-- What the calls of a queue keep.
use Rattle.std.proofs.Common.{◌≡◌, ◌≢◌, refl, ℕ, suc, List, [], ◌∷◌, ◌++◌, append_assoc, append-nil, map, drop, get_or, arith, ap, sym, ◌∙◌, subst, Option, Some, None, is_some, Bool, true, false}
use Rattle.std.specs.Prelude.{◌==◌, flat_map}
use Rattle.std.specs.Option.{option_map}
use Rattle.std.proofs.Math.Seq.{map-set_same}
use Rattle.std.proofs.lemmas.Bool.Decides.{nat_tests}
use Rattle.band_base.specs.declared.waker.Waker.{Waker}
use Rattle.band_line.specs.Arena.{arena_map}
use Rattle.band_line.specs.WaitList.{WaitListState, IsWaitList, IsUnlinked, waiter_at, is_linked, first_waiter, unlinked}
use Rattle.band_condvar.specs.declared.place.Place.{Place}
use Rattle.band_condvar.specs.declared.place.Place.TheVariants.{Queued, Chosen, Released}
use Rattle.band_condvar.specs.Condvar.{CondvarState, StaysAt, AllStay, AreQueued, is_queued, wakers_of, released, all_notified}
use Rattle.band_line.proofs.Leaving.{first-split}
use Rattle.band_signal.specs.WaitQueue.{place_at}

pub stay-called : (old line : WaitListState Place) (slot : ℕ) (place : Place) (waker : Waker) → waiter_at slot old ≡ Some (Queued waker)
    → IsUnlinked slot place old line → (wakes more : List ℕ) (room left : ℕ)
    → AllStay (record { line = old; wakes = wakes; room = room }) (record { line = line; wakes = more; room = left })
stay-called old line slot place waker here unlinked wakes more room left other = by_test (other == slot) refl
  where
    before : CondvarState
    before = record { line = old; wakes = wakes; room = room }

    after : CondvarState
    after = record { line = line; wakes = more; room = left }

    by_test : (b : Bool) → (other == slot) ≡ b → StaysAt other before after
    by_test true e =
        let same : slot ≡ other = grind (arith, nat_tests) in
        subst (λ s. StaysAt s before after) same (record {
          here = ap is_some unlinked.value ∙ sym (ap is_some here);
          called = λ was. absurd (let never : true ≡ false = sym (ap is_queued here) ∙ was in cc);
        })
    by_test false e =
        let differs : other ≢ slot = grind (arith, nat_tests) in
        let kept = unlinked.others other differs in
        record { here = ap is_some kept; called = λ was. kept }

-- a first one that is released leaves the others to be released
pub all-notified : (line : WaitListState Place) (old : CondvarState) (slot : ℕ) (waker : Waker)
    → IsWaitList old.line → first_waiter old.line ≡ Some slot → waiter_at slot old.line ≡ Some (Queued waker)
    → IsUnlinked slot Released old.line line
    → all_notified (record { line = line; wakes = old.wakes ++ waker.0 ∷ []; room = old.room }) ≡ all_notified old
all-notified line old slot waker sound first here unlinked =
    let nodes : arena_map released line.nodes ≡ arena_map released old.line.nodes =
    ap (λ l. arena_map released l.nodes) unlinked.state
    ∙ ap (λ slots. record { slots = slots; vacated = old.line.nodes.vacated; spare = old.line.nodes.spare })
    (map-set_same (option_map released) old.line.nodes.slots slot (Some Released) None (rw here refl)) in
    let now : ℕ → List ℕ = λ s. wakers_of (waiter_at s line) in
    let before : ℕ → List ℕ = λ s. wakers_of (waiter_at s old.line) in
    let split = first-split now before slot (λ other differs. ap wakers_of (unlinked.others other differs)) old.line.linked sound.once first in
    let woken : before slot ≡ waker.0 ∷ [] = ap wakers_of here in
    let wakes : (old.wakes ++ waker.0 ∷ []) ++ flat_map now line.linked ≡ old.wakes ++ flat_map before old.line.linked =
    ap (λ ids. (old.wakes ++ waker.0 ∷ []) ++ flat_map now ids) (unlinked.first first)
    ∙ append_assoc old.wakes (waker.0 ∷ []) (flat_map now (drop 1 old.line.linked))
    ∙ ap (λ ws. old.wakes ++ ws) (ap (λ ws. ws ++ flat_map now (drop 1 old.line.linked)) (sym woken) ∙ split) in
    ap (λ n. record old { line = record { nodes = n; linked = [] }; wakes = (old.wakes ++ waker.0 ∷ []) ++ flat_map now line.linked }) nodes
    ∙ ap (λ ws. record old { line = record { nodes = arena_map released old.line.nodes; linked = [] }; wakes = ws }) wakes

-- with nobody in line all are released
pub nobody-queued : (state : CondvarState) → AreQueued state.line → state.line.linked ≡ [] → all_notified state ≡ state
nobody-queued state queued none =
    let slots = at state.line.nodes.slots (λ slot. queued slot ∙ ap (λ ids. is_linked slot (record state.line { linked = ids })) none) in
    ap (λ ids. record state {
      line = record { nodes = arena_map released state.line.nodes; linked = [] };
      wakes = state.wakes ++ flat_map (λ slot. wakers_of (place_at slot state)) ids;
    }) none
    ∙ ap (λ s. record state { line = record { nodes = record state.line.nodes { slots = s }; linked = [] }; wakes = state.wakes ++ [] }) slots
    ∙ ap (λ ids. record state { line = record { nodes = state.line.nodes; linked = ids }; wakes = state.wakes ++ [] }) (sym none)
    ∙ ap (λ ws. record state { wakes = ws }) (append-nil state.wakes)
  where
    same : (slot : Option Place) → is_queued slot ≡ false → option_map released slot ≡ slot
    same None e = refl
    same (Some Chosen) e = refl
    same (Some Released) e = refl
    same (Some (Queued waker)) e = absurd (cc)

    at : (slots : List (Option Place)) → ((slot : ℕ) → is_queued (get_or slots slot None) ≡ false)
        → map (option_map released) slots ≡ slots
    at [] none = refl
    at (x ∷ xs) none =
        ap (λ y. y ∷ map (option_map released) xs) (same x (none 0))
        ∙ ap (λ ys. x ∷ ys) (at xs (λ slot. none (suc slot)))
