-- How many batons there are after each call.
use Rattle.std.proofs.Common.{◌≡◌, ◌≢◌, refl, ℕ, zero, suc, ◌+◌, ◌<◌, List, [], ◌∷◌, length, map, sum, get_or, get_or-set_other, arith, ap, sym, ◌∙◌, Option, Some, None, Bool, true, false, not, Result, Ok, Err}
use Rattle.std.specs.Prelude.{◌==◌, sum_by, filter, slice_get, slice_set}
use Rattle.std.specs.Option.{option_map}
use Rattle.std.proofs.Math.Seq.{map-set_same}
use Rattle.std.proofs.lemmas.Bool.Decides.{nat_tests}
use Rattle.std.proofs.lemmas.List.Sums.{sum-map, sum_by-set, sum_by-append}
use Rattle.band_base.specs.declared.poll.Poll.{Poll}
use Rattle.band_base.specs.declared.poll.Poll.TheVariants.{Ready, Pending}
use Rattle.band_base.specs.declared.poll.PollError.{PollError}
use Rattle.band_base.specs.declared.poll.PollError.TheVariants as errors
use Rattle.band_base.specs.declared.waker.Waker.{Waker}
use Rattle.band_line.specs.Arena.{filled, next_slot}
use Rattle.band_line.specs.WaitList.{first_waiter}
use Rattle.band_sem.specs.Permit.{Permit}
use Rattle.band_condvar.specs.declared.place.Place.{Place}
use Rattle.band_condvar.specs.declared.place.Place.TheVariants.{Queued, Chosen, Released}
use Rattle.band_signal.specs.WaitQueue.{place_at}
use Rattle.band_condvar.specs.Batons.{baton_in, chosen_count, batons, ended, ended_while}
use Rattle.band_condvar.specs.Condvar.{CondvarState, IsCondvar, is_queued, is_chosen, called, chosen_at, one_notified, released, all_notified, joined, without}
use Rattle.band_condvar.specs.Waits.{Stage, Enqueue, Registered, Reacquiring, Finished, Monitor, with_wakes_of, Leaves, PollsPlace, PollsAt, Acquires, has_baton, uncalled, cancelled}
use Rattle.band_line.proofs.Leaving.{is_in, in_first}

-- A slot is written.
in_range : (slots : List (Option Place)) (slot : ℕ) (place : Place) → get_or slots slot None ≡ Some place → slot < length slots
in_range [] slot place here = absurd (cc)
in_range (x ∷ xs) zero place here = omega arith
in_range (x ∷ xs) (suc slot) place here = let rest = in_range xs slot place here in omega arith

changed : (slots : List (Option Place)) (slot : ℕ) (place : Place) (last : Option Place) → get_or slots slot None ≡ Some place
    → sum_by baton_in (slice_set slots slot last) + baton_in (Some place) ≡ sum_by baton_in slots + baton_in last
changed slots slot place last here =
    ap (λ p. sum_by baton_in (slice_set slots slot last) + baton_in p) (sym here) ∙ sum_by-set baton_in slots slot last None (in_range slots slot place here)

same : (slots : List (Option Place)) (slot : ℕ) (last : Option Place) → baton_in last ≡ baton_in (get_or slots slot None)
    → sum_by baton_in (slice_set slots slot last) ≡ sum_by baton_in slots
same slots slot last alike =
    sym (sum-map baton_in (slice_set slots slot last)) ∙ ap sum (map-set_same baton_in slots slot last None alike) ∙ sum-map baton_in slots

-- The first in line is chosen.
pub one-more : (state : CondvarState) (slot : ℕ) → is_queued (place_at slot state) ≡ true → chosen_count (called Chosen slot state) ≡ chosen_count state + 1
one-more state slot queued = by_place (place_at slot state) refl queued
  where
    by_place : (place : Option Place) → place_at slot state ≡ place → is_queued place ≡ true → chosen_count (called Chosen slot state) ≡ chosen_count state + 1
    by_place (Some (Queued waker)) here e = let written = changed state.line.nodes.slots slot (Queued waker) (Some Chosen) here in omega (arith, written)
    by_place (Some Chosen) here e = absurd (cc)
    by_place (Some Released) here e = absurd (cc)
    by_place None here e = absurd (cc)

one-notified : (state : CondvarState) (slot : ℕ) → first_waiter state.line ≡ Some slot → is_queued (place_at slot state) ≡ true
    → chosen_count (one_notified state) ≡ chosen_count state + 1
one-notified state slot first queued = ap (λ f. chosen_count (chosen_at f state)) first ∙ one-more state slot queued

pub notify-one : (state : CondvarState) (slot : ℕ) → IsCondvar state → first_waiter state.line ≡ Some slot → chosen_count (one_notified state) ≡ chosen_count state + 1
notify-one state slot sound first = one-notified state slot first (sound.queued slot ∙ in_first state.line.linked slot first)

pub notify-all : (state : CondvarState) → chosen_count (all_notified state) ≡ chosen_count state
notify-all state =
    sym (sum-map baton_in (map (option_map released) state.line.nodes.slots)) ∙ ap sum (at state.line.nodes.slots) ∙ sum-map baton_in state.line.nodes.slots
  where
    alike : (slot : Option Place) → baton_in (option_map released slot) ≡ baton_in slot
    alike None = refl
    alike (Some Chosen) = refl
    alike (Some Released) = refl
    alike (Some (Queued waker)) = refl

    at : (slots : List (Option Place)) → map baton_in (map (option_map released) slots) ≡ map baton_in slots
    at [] = refl
    at (x ∷ xs) = ap (λ n. n ∷ map baton_in (map (option_map released) xs)) (alike x) ∙ ap (λ ns. baton_in x ∷ ns) (at xs)

-- A poll.
pub joins : (waker : Waker) (spare room : ℕ) (state : CondvarState) → place_at (next_slot state.line.nodes) state ≡ None → chosen_count (joined waker spare room state) ≡ chosen_count state
joins waker spare room state vacant = by_vacated state.line.nodes.vacated refl
  where
    by_vacated : (vacated : List ℕ) → state.line.nodes.vacated ≡ vacated → sum_by baton_in (filled (Queued waker) state.line.nodes.slots state.line.nodes.vacated) ≡ sum_by baton_in state.line.nodes.slots
    by_vacated [] is =
        ap (λ v. sum_by baton_in (filled (Queued waker) state.line.nodes.slots v)) is ∙ sum_by-append baton_in state.line.nodes.slots (Some (Queued waker) ∷ []) ∙ omega arith
    by_vacated (id ∷ others) is =
        let free : get_or state.line.nodes.slots id None ≡ None = ap (λ v. place_at (next_slot (record state.line.nodes { vacated = v })) state) (sym is) ∙ vacant in
        ap (λ v. sum_by baton_in (filled (Queued waker) state.line.nodes.slots v)) is ∙ same state.line.nodes.slots id (Some (Queued waker)) (sym (ap baton_in free))

abbrev Keeps : Stage → CondvarState → Result (Poll Permit) PollError → Bool → Stage → CondvarState → Type 0
Keeps stage old result baton next new = batons next new + ended result baton ≡ batons stage old

unchanged : (stage next : Stage) (old new : Monitor) → next ≡ stage → new ≡ old → batons next new.condvar + 0 ≡ batons stage old.condvar
unchanged stage next old new ends is =
    ap (λ s. batons s new.condvar + 0) ends ∙ ap (λ (m : Monitor). batons stage m.condvar + 0) is ∙ omega arith

leaves-with : (slot of : ℕ) (waker : Waker) (old : Monitor) (result : Result (Poll Permit) PollError) (next : Stage) (new : Monitor) → place_at slot old.condvar ≡ Some Chosen
    → Leaves true slot of waker old result next new → Keeps (Registered slot) old.condvar result true next new.condvar
leaves-with slot of waker old (Ok (Ready guard)) next new here (served, gives, ends, is) =
    let left = changed old.condvar.line.nodes.slots slot Chosen None here in
    ap (λ s. batons s new.condvar + 1) ends ∙ ap (λ (m : Monitor). batons Finished m.condvar + 1) is ∙ omega (arith, left)
leaves-with slot of waker old (Ok Pending) next new here (waits, (place, fresh, ends, is)) =
    let left = changed old.condvar.line.nodes.slots slot Chosen None here in
    ap (λ s. batons s new.condvar + 0) ends ∙ ap (λ (m : Monitor). batons (Reacquiring true place) m.condvar + 0) is ∙ omega (arith, left)
leaves-with slot of waker old (Err errors.NoMemory) next new here (waits, ends, is) = unchanged (Registered slot) next old new ends is
leaves-with slot of waker old (Err error) next new here leaves = absurd leaves

leaves-without : (slot of : ℕ) (waker : Waker) (old : Monitor) (result : Result (Poll Permit) PollError) (next : Stage) (new : Monitor) → place_at slot old.condvar ≡ Some Released
    → Leaves false slot of waker old result next new → Keeps (Registered slot) old.condvar result false next new.condvar
leaves-without slot of waker old (Ok (Ready guard)) next new here (served, gives, ends, is) =
    let left = same old.condvar.line.nodes.slots slot None (sym (ap baton_in here)) in
    ap (λ s. batons s new.condvar + 0) ends ∙ ap (λ (m : Monitor). batons Finished m.condvar + 0) is ∙ omega (arith, left)
leaves-without slot of waker old (Ok Pending) next new here (waits, (place, fresh, ends, is)) =
    let left = same old.condvar.line.nodes.slots slot None (sym (ap baton_in here)) in
    ap (λ s. batons s new.condvar + 0) ends ∙ ap (λ (m : Monitor). batons (Reacquiring false place) m.condvar + 0) is ∙ omega (arith, left)
leaves-without slot of waker old (Err errors.NoMemory) next new here (waits, ends, is) = unchanged (Registered slot) next old new ends is
leaves-without slot of waker old (Err error) next new here leaves = absurd leaves

pub poll-keeps : (stage : Stage) (of : ℕ) (waker : Waker) (old : Monitor) (result : Result (Poll Permit) PollError) (next : Stage) (new : Monitor)
    → PollsAt stage of waker old result next new → Keeps stage old.condvar result (has_baton stage old.condvar) next new.condvar
poll-keeps (Enqueue guard) of waker old (Ok Pending) next new (ends, vacant, is, given) =
    let count = ap (λ (c : CondvarState). chosen_count c) is ∙ joins waker new.condvar.line.nodes.spare new.condvar.room old.condvar vacant in
    ap (λ s. batons s new.condvar + 0) ends ∙ omega (arith, count)
poll-keeps (Enqueue guard) of waker old (Ok (Ready given)) next new polls = absurd polls
poll-keeps (Enqueue guard) of waker old (Err errors.NoMemory) next new (none, ends, is) =
    unchanged (Enqueue guard) next (with_wakes_of new old) new ends is
poll-keeps (Enqueue guard) of waker old (Err error) next new polls = absurd polls
poll-keeps (Registered slot) of waker old result next new polls = by_place (place_at slot old.condvar) refl polls
  where
    by_place : (place : Option Place) → place_at slot old.condvar ≡ place → PollsPlace place slot of waker old result next new
        → Keeps (Registered slot) old.condvar result (is_chosen place) next new.condvar
    by_place (Some (Queued before)) here (answers, ends, is) =
        let left = same old.condvar.line.nodes.slots slot (Some (Queued waker)) (sym (ap baton_in here)) in
        ap (λ r. batons next new.condvar + ended r false) answers
        ∙ ap (λ s. batons s new.condvar + 0) ends ∙ ap (λ (m : Monitor). batons (Registered slot) m.condvar + 0) is ∙ omega (arith, left)
    by_place (Some Chosen) here leaves = leaves-with slot of waker old result next new here leaves
    by_place (Some Released) here leaves = leaves-without slot of waker old result next new here leaves
    by_place None here polls = absurd polls
poll-keeps (Reacquiring baton slot) of waker old (Ok (Ready guard)) next new (there, gives, ends, is) =
    ap (λ s. batons s new.condvar + ended (Ok (Ready guard)) baton) ends
    ∙ ap (λ (m : Monitor). batons Finished m.condvar + ended (Ok (Ready guard)) baton) is ∙ by_baton baton
  where
    by_baton : (b : Bool) → batons Finished old.condvar + ended (Ok (Ready guard)) b ≡ batons (Reacquiring b slot) old.condvar
    by_baton true = omega arith
    by_baton false = omega arith
poll-keeps (Reacquiring baton slot) of waker old (Ok Pending) next new (none, ends, is) =
    ap (λ s. batons s new.condvar + 0) ends ∙ ap (λ (m : Monitor). batons (Reacquiring baton slot) m.condvar + 0) is ∙ omega arith
poll-keeps (Reacquiring baton slot) of waker old (Err error) next new polls = absurd polls
poll-keeps Finished of waker old result next new (answers, ends, is) =
    ap (λ r. batons next new.condvar + ended r false) answers ∙ unchanged Finished next old new ends is

-- One that is to have the guard.
pub acquires-keep : (stage : Stage) (of : ℕ) (waker : Waker) (old : Monitor) (answer : Poll Permit) (next : Stage) (new : Monitor)
    → Acquires stage of waker old (Ok answer) next new → Keeps stage old.condvar (Ok answer) (has_baton stage old.condvar) next new.condvar
acquires-keep (Enqueue guard) of waker old answer next new (is, ends, same) =
    ap (λ r. batons next new.condvar + ended r false) is
    ∙ ap (λ s. batons s new.condvar + 0) ends ∙ ap (λ (m : Monitor). batons Finished m.condvar + 0) same ∙ omega arith
acquires-keep (Registered slot) of waker old answer next new has = poll-keeps (Registered slot) of waker old (Ok answer) next new has
acquires-keep (Reacquiring baton slot) of waker old answer next new has = poll-keeps (Reacquiring baton slot) of waker old (Ok answer) next new has
acquires-keep Finished of waker old answer next new has = poll-keeps Finished of waker old (Ok answer) next new has

-- who goes on without the guard keeps its baton
no_baton : (next : Stage) → ended_while (Ok Pending) false next ≡ 0
no_baton (Enqueue guard) = refl
no_baton (Registered slot) = refl
no_baton (Reacquiring along slot) = refl
no_baton Finished = refl

pub none-ended : (stage : Stage) (of : ℕ) (waker : Waker) (old : Monitor) (next : Stage) (new : Monitor)
    → Acquires stage of waker old (Ok Pending) next new → ended_while (Ok Pending) (has_baton stage old.condvar) next ≡ 0
none-ended (Enqueue guard) of waker old next new waits = no_baton next
none-ended (Registered slot) of waker old next new waits = by_place (place_at slot old.condvar) waits
  where
    by_place : (place : Option Place) → PollsPlace place slot of waker old (Ok Pending) next new → ended_while (Ok Pending) (is_chosen place) next ≡ 0
    by_place (Some (Queued before)) polls = no_baton next
    by_place (Some Chosen) (waits, (place, fresh, ends, is)) = ap (λ s. ended_while (Ok Pending) true s) ends
    by_place (Some Released) polls = no_baton next
    by_place None polls = no_baton next
none-ended (Reacquiring baton slot) of waker old next new (none, ends, is) = ap (λ s. ended_while (Ok Pending) baton s) ends
none-ended Finished of waker old next new waits = no_baton next

-- A cancel.
first-stays : (slot first : ℕ) (ids : List ℕ) → slice_get (filter (λ other. not (other == slot)) ids) 0 ≡ Some first → (first ≢ slot) × (is_in first ids ≡ true)
first-stays slot first [] is = absurd (cc)
first-stays slot first (x ∷ xs) is = by_test (x == slot) refl (first-stays slot first xs)
  where
    by_test : (b : Bool) → (x == slot) ≡ b → (slice_get (filter (λ other. not (other == slot)) xs) 0 ≡ Some first → (first ≢ slot) × (is_in first xs ≡ true))
        → (first ≢ slot) × (is_in first (x ∷ xs) ≡ true)
    by_test true e rest =
        let next : slice_get (filter (λ other. not (other == slot)) xs) 0 ≡ Some first = rw (ap not e) at is in
        let found = rest next in
        (found.0, by_here (x == first) refl found.1)
      where
        by_here : (b : Bool) → (x == first) ≡ b → is_in first xs ≡ true → is_in first (x ∷ xs) ≡ true
        by_here true here later = rw here refl
        by_here false here later = rw here later
    by_test false e rest =
        let one : slice_get (x ∷ filter (λ other. not (other == slot)) xs) 0 ≡ Some first = rw (ap not e) at is in
        let here : x ≡ first = cc in
        let differs : first ≢ slot = grind (arith, nat_tests) in
        let same : (x == first) ≡ true = grind (arith, nat_tests) in
        (differs, rw same refl)

-- who is first once another is gone was queued, and is
first-queued : (state : CondvarState) (slot first : ℕ) → IsCondvar state → first_waiter (without slot state).line ≡ Some first → is_queued (place_at first (without slot state)) ≡ true
first-queued state slot first sound is =
    let found = first-stays slot first state.line.linked is in
    ap is_queued (get_or-set_other state.line.nodes.slots slot first None None found.0) ∙ sound.queued first ∙ found.1

pub cancel-keeps : (stage : Stage) (state : CondvarState) (slot : ℕ) → IsCondvar state → first_waiter (uncalled stage state).line ≡ Some slot
    → chosen_count (cancelled stage state) ≡ batons stage state
cancel-keeps (Enqueue guard) state slot sound first = omega arith
cancel-keeps Finished state slot sound first = omega arith
cancel-keeps (Reacquiring true place) state slot sound first = notify-one state slot sound first
cancel-keeps (Reacquiring false place) state slot sound first = omega arith
cancel-keeps (Registered mine) state slot sound first = by_place (place_at mine state) refl
  where
    by_place : (place : Option Place) → place_at mine state ≡ place → chosen_count (cancelled (Registered mine) state) ≡ chosen_count state + 0
    by_place (Some Chosen) here =
        let left = changed state.line.nodes.slots mine Chosen None here in
        let handed = one-notified (without mine state) slot first (first-queued state mine slot sound first) in
        rw (ap is_chosen here) (omega (arith, left, handed))
    by_place (Some Released) here = let left = same state.line.nodes.slots mine None (sym (ap baton_in here)) in rw (ap is_chosen here) (omega (arith, left))
    by_place (Some (Queued waker)) here = let left = same state.line.nodes.slots mine None (sym (ap baton_in here)) in rw (ap is_chosen here) (omega (arith, left))
    by_place None here = let left = same state.line.nodes.slots mine None (sym (ap baton_in here)) in rw (ap is_chosen here) (omega (arith, left))

pub nobody-left : (stage : Stage) (state : CondvarState) → first_waiter (uncalled stage state).line ≡ None → cancelled stage state ≡ uncalled stage state
nobody-left stage state none = by_baton (has_baton stage state) refl
  where
    by_baton : (b : Bool) → has_baton stage state ≡ b → cancelled stage state ≡ uncalled stage state
    by_baton true e = rw e (ap (λ f. chosen_at f (uncalled stage state)) none)
    by_baton false e = rw e refl
