-- What a poll makes of a participant and of the counts.
use Rattle.std.proofs.Common.{◌≡◌, refl, ℕ, ◌-◌, Bool, true, false, not, arith, ap, sym, ◌∙◌, subst, Option, Some, None}
use Rattle.std.specs.Prelude.{◌==◌, ◌&&◌, if◌then◌else◌, Result, Ok, Err}
use Rattle.std.proofs.lemmas.Bool.Decides.{nat_tests}
use Rattle.band_base.specs.declared.poll.Poll.{Poll}
use Rattle.band_base.specs.declared.poll.Poll.TheVariants.{Ready, Pending}
use Rattle.band_base.specs.declared.poll.PollError.{PollError}
use Rattle.band_base.specs.declared.waker.Waker.{Waker}
use Rattle.band_signal.specs.Waits.{Waits, Life, NotPolled, Registered, Finished, Polls}
use Rattle.band_phaser.specs.declared.closed.Closed.{Closed}
use Rattle.band_phaser.specs.Phaser.{closed, PhaserState, PhaserWaitState, Participant, is_outstanding, next_phase, arrived}
use Rattle.band_phaser.specs.Phaser.{told, is_over, PollsPending, ArrivesAndWaits, ArrivesFirst, PollsFirst, PollsParticipant, IsPendingFor}

-- a new phase is not the one observed
told-new : (over : Bool) (observed phase : ℕ) (old : PhaserState) (life life' : Life) (waker : Waker) (before after : Waits)
    → Polls over (told observed old) life waker before (Ok (Ready (Ok phase))) life' after
    → ((old.phase == observed) ≡ false) × (life ≡ Finished → ⊥)
told-new over observed phase old life life' waker before after h = by_life over life h
  where
    Answer : Type 0
    Answer = Result (Poll (Result ℕ Closed)) PollError

    no_error : (b : Bool) (answer : Answer) → answer ≡ Ok (Ready (Ok phase))
        → answer ≡ Ok (Ready (if b then Err closed else Ok old.phase)) → b ≡ false
    no_error false answer e f = refl
    no_error true answer e f = absurd (cc)

    by_life : (over : Bool) (life : Life) → Polls over (told observed old) life waker before (Ok (Ready (Ok phase))) life' after
        → ((old.phase == observed) ≡ false) × (life ≡ Finished → ⊥)
    by_life true Finished (answer, is, same) = absurd (cc)
    by_life false Finished (answer, is, same) = absurd (cc)
    by_life true NotPolled (answer, is, same) = (no_error (old.phase == observed) (Ok (Ready (Ok phase))) refl answer, λ e. cc)
    by_life true (Registered slot) (answer, is, same) = (no_error (old.phase == observed) (Ok (Ready (Ok phase))) refl answer, λ e. cc)
    by_life false NotPolled never = absurd never
    by_life false (Registered slot) (answer, is, same) = absurd (cc)

-- a poll by one with a pending phase changes the waits alone, and a new phase is told to one that is outstanding in it
pub by_pending : (P : Option ℕ → PhaserState → Type 0) (observed : ℕ) (wait wait' : PhaserWaitState) (party party' : Participant) (waker : Waker)
    (result : Result (Poll (Result ℕ Closed)) PollError) (old new : PhaserState)
    → ((waits : Waits) → P party.pending (record old { waits = waits }))
    → (is_outstanding old.phase party.pending ≡ true → (waits : Waits) → P None (record old { waits = waits }))
    → ((wait.life ≡ Finished → ⊥) → party.pending ≡ Some observed)
    → PollsPending observed wait party waker old result wait' party' new → P party'.pending new
by_pending P observed wait wait' party party' waker result old new stays is_told own polls = by_result result polls
  where
    carry : (pending : Option ℕ) → party'.pending ≡ pending → new ≡ record old { waits = new.waits }
        → P pending (record old { waits = new.waits }) → P party'.pending new
    carry pending e n h = subst (λ q. P q new) (sym e) (subst (λ phaser. P pending phaser) (sym n) h)

    by_result : (answer : Result (Poll (Result ℕ Closed)) PollError) → PollsPending observed wait party waker old answer wait' party' new
        → P party'.pending new
    by_result (Ok (Ready (Ok phase))) ((polls, same), kept, party_is) =
        let (differs, alive) = told-new (is_over observed old) observed phase old wait.life wait'.life waker old.waits new.waits polls in
        let other : (observed == old.phase) ≡ false = grind (arith, nat_tests) in
        carry None (ap (λ p. p.pending) party_is) same (is_told (ap (is_outstanding old.phase) (own alive) ∙ ap not other) new.waits)
    by_result (Ok (Ready (Err error))) ((polls, same), kept, party_is) = carry party.pending (ap (λ p. p.pending) party_is) same (stays new.waits)
    by_result (Ok Pending) ((polls, same), kept, party_is) = carry party.pending (ap (λ p. p.pending) party_is) same (stays new.waits)
    by_result (Err error) ((polls, same), kept, party_is) = carry party.pending (ap (λ p. p.pending) party_is) same (stays new.waits)

-- a first poll by one with nothing pending is an arrival, unless the phaser is closed or there is no memory
pub by_first : (P : Option ℕ → PhaserState → Type 0) (wait wait' : PhaserWaitState) (party party' : Participant) (waker : Waker)
    (result : Result (Poll (Result ℕ Closed)) PollError) (old new : PhaserState)
    → ((waits : Waits) → P party.pending (record old { waits = waits }))
    → (party.pending ≡ None → (waits : Waits) → P (Some old.phase) (record (arrived None old) { waits = waits }))
    → (party.pending ≡ None → old.is_closed ≡ false → old.outstanding ≡ 1 → P None (arrived None old))
    → party.pending ≡ None → ArrivesFirst old.is_closed (old.outstanding == 1) wait party waker old result wait' party' new → P party'.pending new
by_first P wait wait' party party' waker result old new stays waiting last none arrives = by_test old.is_closed (old.outstanding == 1) refl refl arrives
  where
    carry : (pending : Option ℕ) (phaser : PhaserState) → party'.pending ≡ pending → new ≡ phaser → P pending phaser → P party'.pending new
    carry pending phaser e n h = subst (λ q. P q new) (sym e) (subst (λ ph. P pending ph) (sym n) h)

    by_answer : (answer : Result (Poll (Result ℕ Closed)) PollError) → ArrivesAndWaits wait party waker old answer wait' party' new
        → P party'.pending new
    by_answer (Ok answer) (is, first, observed, party_is, new_is) =
        carry (Some old.phase) (record (arrived None old) { waits = new.waits }) (ap (λ p. p.pending) party_is) new_is (waiting none new.waits)
    by_answer (Err error) (is, wait_is, party_is, new_is) = carry party.pending old (ap (λ p. p.pending) party_is) new_is (stays old.waits)

    by_test : (b l : Bool) → old.is_closed ≡ b → (old.outstanding == 1) ≡ l → ArrivesFirst b l wait party waker old result wait' party' new
        → P party'.pending new
    by_test true l c o (is, wait_is, party_is, new_is) = carry party.pending old (ap (λ p. p.pending) party_is) new_is (stays old.waits)
    by_test false true c o (is, wait_is, party_is, new_is) =
        let one : old.outstanding ≡ 1 = grind (arith, nat_tests) in
        carry None (arrived None old) (ap (λ p. p.pending) party_is ∙ none) new_is (last none c one)
    by_test false false c o h = by_answer result h

pub by_poll : (P : Option ℕ → PhaserState → Type 0) (wait wait' : PhaserWaitState) (party party' : Participant) (waker : Waker)
    (result : Result (Poll (Result ℕ Closed)) PollError) (old new : PhaserState)
    → ((waits : Waits) → P party.pending (record old { waits = waits }))
    → (is_outstanding old.phase party.pending ≡ true → (waits : Waits) → P None (record old { waits = waits }))
    → (party.pending ≡ None → (waits : Waits) → P (Some old.phase) (record (arrived None old) { waits = waits }))
    → (party.pending ≡ None → old.is_closed ≡ false → old.outstanding ≡ 1 → P None (arrived None old))
    → IsPendingFor wait.life wait.observed party.pending
    → PollsParticipant wait.life wait party waker old result wait' party' new → P party'.pending new
by_poll P wait wait' party party' waker result old new stays is_told waiting last own polls = by_life wait.life own polls
  where
    by_party : (pending : Option ℕ) → party.pending ≡ pending → PollsFirst pending wait party waker old result wait' party' new
        → P party'.pending new
    by_party (Some observed) e h = by_pending P observed wait wait' party party' waker result old new stays is_told (λ alive. e) h
    by_party None e h = by_first P wait wait' party party' waker result old new stays waiting last e h

    by_life : (life : Life) → IsPendingFor life wait.observed party.pending → PollsParticipant life wait party waker old result wait' party' new
        → P party'.pending new
    by_life NotPolled own h = by_party party.pending refl h
    by_life (Registered slot) own h = by_pending P wait.observed wait wait' party party' waker result old new stays is_told (λ alive. own) h
    by_life Finished own (is, wait_is, party_is, new_is) =
        subst (λ q. P q new) (sym (ap (λ p. p.pending) party_is)) (subst (λ ph. P party.pending ph) (sym new_is) (stays old.waits))

-- the last arrival of an open phaser begins a phase, in which its own is not the current one
pub begins : (old : PhaserState) → old.is_closed ≡ false → old.outstanding ≡ 1
    → is_outstanding (arrived None old).phase (Some old.phase) ≡ true
begins old is_open one =
    let test : (not old.is_closed && (old.outstanding - 1) == 0) ≡ true = rw is_open (rw one refl) in
    let differs : (old.phase == next_phase old.phase) ≡ false = grind (arith, nat_tests) in
    rw test (ap not differs)
