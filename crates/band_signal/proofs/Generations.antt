-- A generation ends exactly where a call makes a leader.
use Rattle.std.proofs.Common.{◌≡◌, ◌≢◌, refl, ◌+◌, ◌<◌, ◌≤◌, List, [], ◌∷◌, Bool, true, false, not, arith, ap, sym, ◌∙◌, subst}
use Rattle.std.specs.Prelude.{◌==◌, count_by, if◌then◌else◌, cond, Result, Ok, Err}
use Rattle.std.proofs.lemmas.Bool.Decides.{nat_tests}
use Rattle.std.proofs.lemmas.List.Sums.{sum_by-cons}
use Rattle.band_base.specs.declared.poll.Poll.{Poll}
use Rattle.band_base.specs.declared.poll.Poll.TheVariants.{Ready, Pending}
use Rattle.band_base.specs.declared.poll.PollError.{PollError}
use Rattle.band_base.specs.declared.waker.Waker.{Waker}
use Rattle.band_signal.specs.Barrier.{BarrierState, BarrierWaitState, Leads, Arrives, PollsArrived, PollsBarrier, has_ended, is_next_last, last_generation, next_generation}
use Rattle.band_signal.specs.Waits.{Life, NotPolled, Registered, Finished, Waits, Polls, cancelled}
use Rattle.band_signal.specs.Laws.{Turn, Polled, Cancelled, TookWake, Does, leads_by, leads, Run}

-- the generation after a poll that was answered so
RisesBy : Result (Poll Bool) PollError → BarrierState → BarrierState → Type 0
RisesBy answer old new = new.generation ≡ old.generation + (if leads_by answer then 1 else 0)

by_leads : (full : Bool) (before after : BarrierWaitState) (old new : BarrierState) (answer : Result (Poll Bool) PollError)
    → Leads full before old answer after new → RisesBy answer old new
unfolding RisesBy
by_leads true before after old new answer h = rw h.0 (rw h.2 (omega arith))
by_leads false before after old new answer h = rw h.0 (rw h.2 refl)

by_arrives : (last : Bool) (before after : BarrierWaitState) (waker : Waker) (old new : BarrierState) (answer : Result (Poll Bool) PollError)
    → Arrives last before waker old answer after new → RisesBy answer old new
unfolding RisesBy
by_arrives true before after waker old new answer h =
    by_leads (old.generation == last_generation) before after old new answer h
by_arrives false before after waker old new (Ok Pending) h = rw h.2 (omega arith)
by_arrives false before after waker old new (Ok (Ready leader)) h = absurd h.0
by_arrives false before after waker old new (Err error) h = rw h.2 (omega arith)

no_leader : (over : Bool) (life life' : Life) (waker : Waker) (old new : Waits) (answer : Result (Poll Bool) PollError)
    → Polls over false life waker old answer life' new → (life ≡ NotPolled → ⊥) → leads_by answer ≡ false
no_leader over Finished life' waker old new answer h off = rw h.0 refl
no_leader true (Registered slot) life' waker old new answer h off = rw h.0 refl
no_leader false (Registered slot) life' waker old new answer h off = rw h.0 refl
no_leader over NotPolled life' waker old new answer h off = absurd (off refl)

by_arrived : (before after : BarrierWaitState) (waker : Waker) (old new : BarrierState) (answer : Result (Poll Bool) PollError)
    → (before.life ≡ NotPolled → ⊥) → PollsArrived before waker old answer after new → RisesBy answer old new
unfolding RisesBy
by_arrived before after waker old new answer off h =
    let none = no_leader (has_ended before old) before.life after.life waker old.waits new.waits answer h.0 off in
    rw none (ap (λ b. b.generation) h.2 ∙ omega arith)

by_life : (life : Life) (before after : BarrierWaitState) (waker : Waker) (old new : BarrierState) (answer : Result (Poll Bool) PollError)
    → before.life ≡ life → PollsBarrier life before waker old answer after new → RisesBy answer old new
by_life NotPolled before after waker old new answer e h = by_arrives (is_next_last old) before after waker old new answer h
by_life (Registered slot) before after waker old new answer e h = by_arrived before after waker old new answer (λ f. cc) h
by_life Finished before after waker old new answer e h = by_arrived before after waker old new answer (λ f. cc) h

pub rises : (turn : Turn) (old new : BarrierState) → Does turn old new
    → new.generation ≡ old.generation + (if leads turn then 1 else 0)
unfolding RisesBy
rises (Polled before after waker answer) old new h = by_life before.life before after waker old new answer refl h
rises (Cancelled wait) old new h = ap (λ b. b.generation) h ∙ omega arith
rises TookWake old new h = ap (λ b. b.generation) h ∙ omega arith

pub rise_in_all : (turns : List Turn) (first last : BarrierState) → Run turns first last
    → last.generation ≡ first.generation + count_by leads turns
rise_in_all [] first last h = ap (λ b. b.generation) h ∙ omega arith
rise_in_all (turn ∷ rest) first last (next, does, run) =
    let one = rises turn first next does in
    let others = rise_in_all rest next last run in
    let counted = sum_by-cons (λ (t : Turn). cond (leads t) 1 0) turn rest in
    omega (arith, counted)

pub has-ended : (turns : List Turn) (first last : BarrierState) → Run turns first last
    → (wait : BarrierWaitState) → wait.generation < first.generation → has_ended wait last ≡ true
has-ended turns first last run wait before =
    let risen = rise_in_all turns first last run in
    let differs : (wait.generation == last.generation) ≡ false = grind (arith, nat_tests) in
    ap not differs

pub stay_ended : (turns : List Turn) (first last : BarrierState) → Run turns first last
    → (wait : BarrierWaitState) → wait.generation < first.generation
    → cancelled (has_ended wait last) wait.life last.waits ≡ last.waits
stay_ended turns first last run wait before =
    let ended = has-ended turns first last run wait before in
    rw ended refl

poll-over : (life life' : Life) (waker : Waker) (old new : Waits) (answer : Result (Poll Bool) PollError)
    → Polls true false life waker old answer life' new → new ≡ old
poll-over Finished life' waker old new answer (is, life_is, same) = same
poll-over NotPolled life' waker old new answer (is, life_is, same) = same
poll-over (Registered slot) life' waker old new answer (is, life_is, same) = same

pub polled-ended : (turns : List Turn) (first last next : BarrierState) → Run turns first last
    → (wait after : BarrierWaitState) (waker : Waker) (answer : Result (Poll Bool) PollError)
    → wait.generation < first.generation → wait.life ≢ NotPolled
    → PollsBarrier wait.life wait waker last answer after next → next ≡ last
polled-ended turns first last next run wait after waker answer before off polls = by_life wait.life refl polls
  where
    at : PollsArrived wait waker last answer after next → next ≡ last
    at (poll, generation, state) =
        let over = subst (λ b. Polls b false wait.life waker last.waits answer after.life next.waits) (has-ended turns first last run wait before) poll in
        let same = poll-over wait.life after.life waker last.waits next.waits answer over in
        state ∙ ap (λ waits. record last { waits = waits }) same

    by_life : (life : Life) → wait.life ≡ life → PollsBarrier life wait waker last answer after next → next ≡ last
    by_life NotPolled e h = absurd (off e)
    by_life (Registered slot) e h = at h
    by_life Finished e h = at h

pub leads-last : (before after : BarrierWaitState) (waker : Waker) (answer : Result (Poll Bool) PollError) (old new : BarrierState)
    → PollsBarrier before.life before waker old answer after new → leads_by answer ≡ true
    → (before.life ≡ NotPolled) × (old.size ≤ old.arrived + 1)
leads-last before after waker answer old new polls leader = by_life before.life refl polls
  where
    by_answer : (answer : Result (Poll Bool) PollError) → leads_by answer ≡ true → Arrives false before waker old answer after new → ⊥
    by_answer (Ok Pending) e h = cc
    by_answer (Ok (Ready leader)) e (first, generation, state) = first
    by_answer (Err error) e h = cc

    by_last : (b : Bool) → is_next_last old ≡ b → Arrives b before waker old answer after new → old.size ≤ old.arrived + 1
    by_last true e h = grind (arith, nat_tests)
    by_last false e h = absurd (by_answer answer leader h)

    none : (before.life ≡ NotPolled → ⊥) → PollsArrived before waker old answer after new → ⊥
    none off h =
        let follows = no_leader (has_ended before old) before.life after.life waker old.waits new.waits answer h.0 off in
        let never : true ≡ false = sym leader ∙ follows in
        cc

    by_life : (life : Life) → before.life ≡ life → PollsBarrier life before waker old answer after new
        → (before.life ≡ NotPolled) × (old.size ≤ old.arrived + 1)
    by_life NotPolled e h = (e, by_last (is_next_last old) refl h)
    by_life (Registered slot) e h = absurd (none (λ f. cc) h)
    by_life Finished e h = absurd (none (λ f. cc) h)

pub next-ends : (wait : BarrierWaitState) (old : BarrierState) → wait.generation ≤ old.generation → has_ended wait (next_generation old) ≡ true
next-ends wait old before =
    let differs : (wait.generation == (old.generation + 1)) ≡ false = grind (arith, nat_tests) in
    ap not differs
