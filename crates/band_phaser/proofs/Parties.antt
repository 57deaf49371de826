-- A phaser counts all that are registered.
use Rattle.std.proofs.Common.{◌≡◌, ◌≢◌, refl, ℕ, zero, suc, ◌+◌, ◌-◌, ◌≤◌, List, [], ◌∷◌, ◌++◌, length, Bool, true, false, not, arith, ap, sym, ◌∙◌, subst, Option, Some, None, ◌<◌}
use Rattle.std.specs.Prelude.{◌==◌, ◌&&◌, count_by, cond, replicate, Result}
use Rattle.std.proofs.Common.{length-append}
use Rattle.std.proofs.lemmas.Bool.Decides.{nat_tests}
use Rattle.std.proofs.lemmas.List.Sums.{sum_by-cons, sum_by-append, count_by-le-length}
use Rattle.std.proofs.lemmas.List.{length-replicate}
use Rattle.std.proofs.lemmas.List.Folds.{sum_by-replicate}
use Rattle.band_phaser.specs.Phaser.{PhaserState, Batch, NextGives, IsCounted, is_outstanding, new_phaser, next_phase, settled, others_outstanding, arrived, withdrawn}
use Rattle.band_phaser.specs.Phaser.{with_parties, without_parties, closed_after, PhaserWaitState, Participant, PollsParticipant, IsPendingFor}
use Rattle.band_base.specs.declared.poll.Poll.{Poll}
use Rattle.band_base.specs.declared.poll.PollError.{PollError}
use Rattle.band_base.specs.declared.waker.Waker.{Waker}
use Rattle.band_signal.specs.Waits.{Waits}
use Rattle.band_phaser.specs.declared.closed.Closed.{Closed}
use Rattle.band_phaser.proofs.Turns.{by_poll, begins}
use Rattle.band_phaser.specs.Laws.{CountsAll, Yields}

abbrev out : ℕ → List (Option ℕ) → ℕ
out phase parties = count_by (is_outstanding phase) parties

abbrev one : ℕ → Option ℕ → ℕ
one phase pending = cond (is_outstanding phase pending) 1 0

out-cons : (phase : ℕ) (pending : Option ℕ) (after : List (Option ℕ)) → out phase (pending ∷ after) ≡ one phase pending + out phase after
out-cons phase pending after = sum_by-cons (λ p. one phase p) pending after

out-append : (phase : ℕ) (before after : List (Option ℕ)) → out phase (before ++ after) ≡ out phase before + out phase after
out-append phase before after = sum_by-append (λ p. one phase p) before after

out-new : (phase n : ℕ) → out phase (replicate n None) ≡ n
out-new phase n = sum_by-replicate (λ p. one phase p) n None ∙ omega arith

length-new : (n : ℕ) → length {A = Option ℕ} (replicate n None) ≡ n
length-new n = length-replicate n None

-- where nobody is outstanding in a phase, all are in another
all_again : (p q : ℕ) → p ≢ q → (parties : List (Option ℕ)) → out p parties ≡ 0 → out q parties ≡ length parties
all_again p q differs [] none = refl
all_again p q differs (None ∷ rest) none = absurd (omega (arith, out-cons p None rest))
all_again p q differs (Some y ∷ rest) none = by_test (y == p) refl (all_again p q differs rest)
  where
    by_test : (b : Bool) → (y == p) ≡ b → (out p rest ≡ 0 → out q rest ≡ length rest)
        → out q (Some y ∷ rest) ≡ length (Some y ∷ rest)
    by_test false e again =
        let here : one p (Some y) ≡ 1 = rw e refl in
        absurd (omega (arith, out-cons p (Some y) rest))
    by_test true e again =
        let elsewhere : (y == q) ≡ false = grind (arith, nat_tests) in
        let here : one q (Some y) ≡ 1 = rw elsewhere refl in
        let others = again (omega (arith, out-cons p (Some y) rest)) in
        omega (arith, out-cons q (Some y) rest)

phases_differ : (phase : ℕ) → phase ≢ next_phase phase
phases_differ phase same = omega arith

settles : (parties : List (Option ℕ)) (phaser : PhaserState) → CountsAll parties phaser → CountsAll parties (settled phaser)
settles parties phaser h = by_test (not phaser.is_closed && phaser.outstanding == 0) refl
  where
    by_test : (b : Bool) → (not phaser.is_closed && phaser.outstanding == 0) ≡ b → CountsAll parties (settled phaser)
    by_test false e = rw e h
    by_test true e =
        let nobody : phaser.outstanding ≡ 0 = grind (arith, nat_tests) in
        let again = all_again phaser.phase (next_phase phaser.phase) (phases_differ phaser.phase) parties (sym h.outstanding ∙ nobody) in
        rw e (record { registered = h.registered; outstanding = h.registered ∙ sym again })

length-split : (before after : List (Option ℕ)) (pending : Option ℕ) → length (before ++ pending ∷ after) ≡ length before + length after + 1
length-split before after pending = omega (arith, length-append before (pending ∷ after))

out-split : (phase : ℕ) (before after : List (Option ℕ)) (pending : Option ℕ)
    → out phase (before ++ pending ∷ after) ≡ out phase before + one phase pending + out phase after
out-split phase before after pending =
    omega (arith, out-append phase before (pending ∷ after), out-cons phase pending after)

others-are : (before after : List (Option ℕ)) (pending : Option ℕ) (phaser : PhaserState) → CountsAll (before ++ pending ∷ after) phaser
    → others_outstanding pending phaser ≡ out phaser.phase before + out phaser.phase after
others-are before after pending phaser h = by_test (is_outstanding phaser.phase pending) refl
  where
    by_test : (b : Bool) → is_outstanding phaser.phase pending ≡ b
        → others_outstanding pending phaser ≡ out phaser.phase before + out phaser.phase after
    by_test true e =
        let here : one phaser.phase pending ≡ 1 = rw e refl in
        let all = h.outstanding in
        rw e (omega (arith, out-split phaser.phase before after pending))
    by_test false e =
        let here : one phaser.phase pending ≡ 0 = rw e refl in
        let all = h.outstanding in
        rw e (omega (arith, out-split phaser.phase before after pending))

pub news : (number phase : ℕ) → CountsAll [] (new_phaser number phase)
news number phase = record { registered = refl; outstanding = refl }

pub registers : (n : ℕ) (parties : List (Option ℕ)) (phaser : PhaserState) → CountsAll parties phaser
    → CountsAll (replicate n None ++ parties) (with_parties n phaser)
registers n parties phaser h =
    let all = h.registered in
    let out_of = h.outstanding in
    record {
      registered = omega (arith, length-append (replicate n None) parties, length-new n);
      outstanding = omega (arith, out-append phaser.phase (replicate n None) parties, out-new phaser.phase n);
    }

pub arrives : (before after : List (Option ℕ)) (pending : Option ℕ) (phaser : PhaserState) → CountsAll (before ++ pending ∷ after) phaser
    → CountsAll (before ++ Some phaser.phase ∷ after) (arrived pending phaser)
arrives before after pending phaser h =
    let here : one phaser.phase (Some phaser.phase) ≡ 0 = let same : (phaser.phase == phaser.phase) ≡ true = grind (arith, nat_tests) in rw same refl in
    let all = h.registered in
    settles (before ++ Some phaser.phase ∷ after) (record phaser { outstanding = others_outstanding pending phaser }) (record {
      registered = omega (arith, length-split before after pending, length-split before after (Some phaser.phase));
      outstanding = others-are before after pending phaser h ∙ omega (arith, out-split phaser.phase before after (Some phaser.phase));
    })

pub leaves : (before after : List (Option ℕ)) (pending : Option ℕ) (phaser : PhaserState) → CountsAll (before ++ pending ∷ after) phaser
    → CountsAll (before ++ after) (withdrawn pending phaser)
leaves before after pending phaser h =
    let all = h.registered in
    settles (before ++ after) (record phaser { registered = phaser.registered - 1; outstanding = others_outstanding pending phaser }) (record {
      registered = omega (arith, length-split before after pending, length-append before after);
      outstanding = others-are before after pending phaser h ∙ sym (out-append phaser.phase before after);
    })

pub withdraws : (n : ℕ) (parties : List (Option ℕ)) (phaser : PhaserState) → CountsAll (replicate n None ++ parties) phaser
    → CountsAll parties (without_parties n phaser)
withdraws n parties phaser h = by_test (n == 0) refl
  where
    registered : phaser.registered ≡ n + length parties
    registered = let all = h.registered in omega (arith, length-append (replicate n None) parties, length-new n)

    outstanding : phaser.outstanding ≡ n + out phaser.phase parties
    outstanding = let all = h.outstanding in omega (arith, out-append phaser.phase (replicate n None) parties, out-new phaser.phase n)

    by_test : (b : Bool) → (n == 0) ≡ b → CountsAll parties (without_parties n phaser)
    by_test true e =
        let none : n ≡ 0 = grind (arith, nat_tests) in
        rw e (record { registered = omega (arith, registered); outstanding = omega (arith, outstanding) })
    by_test false e =
        rw e (settles parties (record phaser { registered = phaser.registered - n; outstanding = phaser.outstanding - n })
        (record { registered = omega (arith, registered); outstanding = omega (arith, outstanding) }))

pub is_told : (before after : List (Option ℕ)) (pending : Option ℕ) (phaser : PhaserState) → CountsAll (before ++ pending ∷ after) phaser
    → is_outstanding phaser.phase pending ≡ true → CountsAll (before ++ None ∷ after) phaser
is_told before after pending phaser h e =
    let here : one phaser.phase pending ≡ 1 = rw e refl in
    let all = h.registered in
    let out_of = h.outstanding in
    record {
      registered = omega (arith, length-split before after pending, length-split before after None);
      outstanding = omega (arith, out-split phaser.phase before after pending, out-split phaser.phase before after None);
    }

pub closes : (parties : List (Option ℕ)) (phaser : PhaserState) → CountsAll parties phaser → CountsAll parties (closed_after phaser)
closes parties phaser h = by_test phaser.is_closed refl
  where
    by_test : (b : Bool) → phaser.is_closed ≡ b → CountsAll parties (closed_after phaser)
    by_test true e = rw e (record { registered = h.registered; outstanding = h.outstanding })
    by_test false e = rw e (record { registered = h.registered; outstanding = h.outstanding })

pub each_counted : (before after : List (Option ℕ)) (pending : Option ℕ) (phaser : PhaserState) → CountsAll (before ++ pending ∷ after) phaser
    → IsCounted pending phaser
each_counted before after pending phaser h = by_test (is_outstanding phaser.phase pending) refl
  where
    by_test : (b : Bool) → is_outstanding phaser.phase pending ≡ b → IsCounted pending phaser
    by_test true e =
        let here : one phaser.phase pending ≡ 1 = rw e refl in
        let out_of = h.outstanding in
        rw e (omega (arith, out-split phaser.phase before after pending))
    by_test false e =
        let here : one phaser.phase pending ≡ 0 = rw e refl in
        let all = h.registered in
        let out_of = h.outstanding in
        rw e (omega (
          arith,
          out-split phaser.phase before after pending,
          length-split before after pending,
          count_by-le-length (is_outstanding phaser.phase) before,
          count_by-le-length (is_outstanding phaser.phase) after,
        ))

pub batch_counted : (n : ℕ) (parties : List (Option ℕ)) (phaser : PhaserState) → CountsAll (replicate n None ++ parties) phaser
    → n ≤ phaser.outstanding
batch_counted n parties phaser h =
    let all = h.outstanding in
    omega (arith, out-append phaser.phase (replicate n None) parties, out-new phaser.phase n)

pub yields_all : (n : ℕ) (first last : Batch) → Yields n first last → n + last.remaining ≡ first.remaining
yields_all zero first last h =
    let same = ap (λ b. b.remaining) h in
    omega arith
yields_all (suc n) first last (next, gives, rest) =
    let others = yields_all n next last rest in
    let fewer = gives.1.2 in
    omega arith

pub yields-each : (n : ℕ) (first last end : Batch) → Yields n first last → NextGives last None end → n ≡ first.remaining
yields-each n first last end h none =
    let all = yields_all n first last h in
    let empty = none.0 in
    omega arith

pub counts-once : (phaser : PhaserState) → 0 < phaser.outstanding → arrived (Some phaser.phase) phaser ≡ phaser
counts-once phaser some =
    let here : (phaser.phase == phaser.phase) ≡ true = grind (arith, nat_tests) in
    let others : (phaser.outstanding == 0) ≡ false = grind (arith, nat_tests) in
    by_closed phaser.is_closed refl here others
  where
    by_closed : (b : Bool) → phaser.is_closed ≡ b → (phaser.phase == phaser.phase) ≡ true → (phaser.outstanding == 0) ≡ false
        → arrived (Some phaser.phase) phaser ≡ phaser
    by_closed true e here others = rw here (rw e refl)
    by_closed false e here others = rw here (rw e (rw others refl))

pub keeps_waits : (parties : List (Option ℕ)) (phaser : PhaserState) (waits : Waits) → CountsAll parties phaser
    → CountsAll parties (record phaser { waits = waits })
keeps_waits parties phaser waits h = record { registered = h.registered; outstanding = h.outstanding }

pub polls_counted : (before after : List (Option ℕ)) (wait wait' : PhaserWaitState) (party party' : Participant) (waker : Waker)
    (result : Result (Poll (Result ℕ Closed)) PollError) (old new : PhaserState)
    → CountsAll (before ++ party.pending ∷ after) old → IsPendingFor wait.life wait.observed party.pending
    → PollsParticipant wait.life wait party waker old result wait' party' new → CountsAll (before ++ party'.pending ∷ after) new
polls_counted before after wait wait' party party' waker result old new h own polls =
    by_poll (λ pending phaser. CountsAll (before ++ pending ∷ after) phaser) wait wait' party party' waker result old new
    (λ waits. keeps_waits (before ++ party.pending ∷ after) old waits h)
    (λ e waits. keeps_waits (before ++ None ∷ after) old waits (is_told before after party.pending old h e))
    (λ e waits. keeps_waits (before ++ Some old.phase ∷ after) (arrived None old) waits (here e))
    (λ e is_open one. is_told before after (Some old.phase) (arrived None old) (here e) (begins old is_open one))
    own polls
  where
    here : party.pending ≡ None → CountsAll (before ++ Some old.phase ∷ after) (arrived None old)
    here e = arrives before after None old (subst (λ pending. CountsAll (before ++ pending ∷ after) old) e h)
