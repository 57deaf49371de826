-- A phaser: its phase, how many are registered, how many of them are outstanding, and who waits for the next phase.
use Rattle.std.specs.Prelude.{◌≡◌, ℕ, ◌+◌, ◌-◌, ◌%◌, ◌^◌, ◌<◌, Bool, true, false, not, ◌==◌, ◌&&◌, ◌||◌, if◌then◌else◌, is_ok, Option, Some, None, Result, Ok, Err, MatchBool}
use Rattle.band_base.specs.declared.poll.Poll.{Poll}
use Rattle.band_base.specs.declared.poll.Poll.TheVariants.{Ready, Pending}
use Rattle.band_base.specs.declared.poll.PollError.{PollError}
use Rattle.band_base.specs.declared.poll.PollError.TheVariants as errors
use Rattle.band_base.specs.declared.waker.Waker.{Waker}
use Rattle.band_signal.specs.Waits.{Waits, Life, NotPolled, Registered, Finished, no_waits, all_woken, FirstPoll, Polls}
use Rattle.band_phaser.specs.declared.closed.Closed.{Closed}

abbrev pub closed : Closed
closed = record {}

pub record PhaserState : Type 0 where
  pub number : ℕ
  pub phase : ℕ
  pub is_closed : Bool
  pub registered : ℕ
  pub outstanding : ℕ
  pub waits : Waits

-- one that is open, with nobody registered
abbrev pub new_phaser : ℕ → ℕ → PhaserState
new_phaser number phase = record {
  number = number;
  phase = phase;
  is_closed = false;
  registered = 0;
  outstanding = 0;
  waits = no_waits;
}

-- a participant: the number of its phaser, and the phase in which it arrived last, until a wait has told of its end
pub record Participant : Type 0 where
  pub of : ℕ
  pub pending : Option ℕ

-- one that has not arrived
abbrev pub new_participant : ℕ → Participant
new_participant number = record { of = number; pending = None }

-- who has not arrived in this phase is outstanding in it
abbrev pub is_outstanding : ℕ → Option ℕ → Bool
is_outstanding phase None = true
is_outstanding phase (Some pending) = not (pending == phase)

-- a phaser counts a participant: among the outstanding, or among the others that are registered
abbrev pub IsCounted : Option ℕ → PhaserState → Type 0
IsCounted pending phaser = MatchBool (is_outstanding phaser.phase pending)
    (0 < phaser.outstanding)
    (phaser.outstanding < phaser.registered)

-- so many participants that were made and not yielded yet
pub record Batch : Type 0 where
  pub of : ℕ
  pub remaining : ℕ

-- the next of a batch, which has not arrived, or none where none is left
abbrev pub NextGives : Batch → Option Participant → Batch → Type 0
NextGives old None new = (old.remaining ≡ 0) × (new ≡ old)
NextGives old (Some party) new =
    (party ≡ new_participant old.of)
    × (new.of ≡ old.of)
    × (old.remaining ≡ new.remaining + 1)

abbrev pub next_phase : ℕ → ℕ
next_phase phase = (phase + 1) % 2 ^ 64

-- the next phase: all that are registered are outstanding, and all that wait are woken
abbrev pub advanced : PhaserState → PhaserState
advanced phaser = record phaser {
  phase = next_phase phaser.phase;
  outstanding = phaser.registered;
  waits = all_woken phaser.waits;
}

-- an open phaser with nobody outstanding goes on to the next phase
abbrev pub settled : PhaserState → PhaserState
settled phaser = if not phaser.is_closed && phaser.outstanding == 0 then advanced phaser else phaser

-- how many are outstanding without this one
abbrev pub others_outstanding : Option ℕ → PhaserState → ℕ
others_outstanding pending phaser =
    if is_outstanding phaser.phase pending then phaser.outstanding - 1 else phaser.outstanding

-- a participant arrives, which counts once in a phase
abbrev pub arrived : Option ℕ → PhaserState → PhaserState
arrived pending phaser = settled (record phaser { outstanding = others_outstanding pending phaser })

-- a participant is registered no more
abbrev pub withdrawn : Option ℕ → PhaserState → PhaserState
withdrawn pending phaser = settled (record phaser {
  registered = phaser.registered - 1;
  outstanding = others_outstanding pending phaser;
})

-- n that have not arrived are registered
abbrev pub with_parties : ℕ → PhaserState → PhaserState
with_parties n phaser = record phaser {
  registered = phaser.registered + n;
  outstanding = phaser.outstanding + n;
}

-- n that have not arrived are registered no more, in one event. Without any nothing changes
abbrev pub without_parties : ℕ → PhaserState → PhaserState
without_parties n phaser = if n == 0 then phaser else settled (record phaser {
  registered = phaser.registered - n;
  outstanding = phaser.outstanding - n;
})

-- the phaser is closed, and all that wait are woken
abbrev pub closed_after : PhaserState → PhaserState
closed_after phaser = if phaser.is_closed then phaser else record phaser {
  is_closed = true;
  waits = all_woken phaser.waits;
}

-- the phase, or that the phaser is closed
abbrev pub answer_of : PhaserState → Result ℕ Closed
answer_of phaser = if phaser.is_closed then Err closed else Ok phaser.phase

-- a wait for the end of a phase: which one, and what it has come to
pub record PhaserWaitState : Type 0 where
  pub observed : ℕ
  pub life : Life

-- what a wait waits for
abbrev pub is_over : ℕ → PhaserState → Bool
is_over observed phaser = phaser.is_closed || not (phaser.phase == observed)

-- what it is told then: the phase, unless that is still the one observed
abbrev pub told : ℕ → PhaserState → Result ℕ Closed
told observed phaser = if phaser.phase == observed then Err closed else Ok phaser.phase

-- a poll of a wait for the end of a phase, which changes the waits alone
abbrev pub PollsPhase :
    ℕ → Life → Waker → PhaserState → Result (Poll (Result ℕ Closed)) PollError → Life → PhaserState → Type 0
PollsPhase observed life waker old result life' new =
    Polls (is_over observed old) (told observed old) life waker old.waits result life' new.waits
    × (new ≡ record old { waits = new.waits })

-- a participant whose wait was told of a new phase has nothing pending
abbrev pub pending_after : Result (Poll (Result ℕ Closed)) PollError → Option ℕ → Option ℕ
pending_after (Ok (Ready (Ok phase))) pending = None
pending_after (Ok (Ready (Err error))) pending = pending
pending_after (Ok Pending) pending = pending
pending_after (Err error) pending = pending

-- a poll by a participant that arrived in the phase `observed`
abbrev pub PollsPending :
    ℕ → PhaserWaitState → Participant → Waker → PhaserState → Result (Poll (Result ℕ Closed)) PollError
    → PhaserWaitState → Participant → PhaserState → Type 0
PollsPending observed wait party waker old result wait' party' new =
    PollsPhase observed wait.life waker old result wait'.life new
    × (wait'.observed ≡ (if is_ok result then observed else wait.observed))
    × (party' ≡ record party { pending = pending_after result party.pending })

-- the last that was outstanding arrives, and its wait is over at once
abbrev pub ArrivesLast :
    PhaserWaitState → Participant → PhaserState → Result (Poll (Result ℕ Closed)) PollError
    → PhaserWaitState → Participant → PhaserState → Type 0
ArrivesLast wait party old result wait' party' new =
    (result ≡ Ok (Ready (Ok new.phase)))
    × (wait' ≡ record wait { life = Finished })
    × (party' ≡ party)
    × (new ≡ arrived None old)

-- another one arrives and waits for the end of the phase, or there was no memory
abbrev pub ArrivesAndWaits :
    PhaserWaitState → Participant → Waker → PhaserState → Result (Poll (Result ℕ Closed)) PollError
    → PhaserWaitState → Participant → PhaserState → Type 0
ArrivesAndWaits wait party waker old (Ok answer) wait' party' new =
    (answer ≡ Pending)
    × FirstPoll {T = Result ℕ Closed} waker old.waits (Ok Pending) wait'.life new.waits
    × (wait'.observed ≡ old.phase)
    × (party' ≡ record party { pending = Some old.phase })
    × (new ≡ record (arrived None old) { waits = new.waits })
ArrivesAndWaits wait party waker old (Err error) wait' party' new =
    (error ≡ errors.NoMemory) × (wait' ≡ wait) × (party' ≡ party) × (new ≡ old)

-- a first poll by a participant that has nothing pending, on a closed phaser or not, as the last outstanding or not
abbrev pub ArrivesFirst :
    Bool → Bool → PhaserWaitState → Participant → Waker → PhaserState
    → Result (Poll (Result ℕ Closed)) PollError
    → PhaserWaitState → Participant → PhaserState → Type 0
ArrivesFirst true last wait party waker old result wait' party' new =
    (result ≡ Ok (Ready (Err closed)))
    × (wait' ≡ record wait { life = Finished })
    × (party' ≡ party)
    × (new ≡ old)
ArrivesFirst false true wait party waker old result wait' party' new =
    ArrivesLast wait party old result wait' party' new
ArrivesFirst false false wait party waker old result wait' party' new =
    ArrivesAndWaits wait party waker old result wait' party' new

abbrev pub PollsFirst :
    Option ℕ → PhaserWaitState → Participant → Waker → PhaserState → Result (Poll (Result ℕ Closed)) PollError
    → PhaserWaitState → Participant → PhaserState → Type 0
PollsFirst None wait party waker old result wait' party' new =
    ArrivesFirst old.is_closed (old.outstanding == 1) wait party waker old result wait' party' new
PollsFirst (Some observed) wait party waker old result wait' party' new =
    PollsPending observed wait party waker old result wait' party' new

-- a poll of a participant's wait: the first arrives where nothing is pending, and then it waits for the pending phase
abbrev pub PollsParticipant :
    Life → PhaserWaitState → Participant → Waker → PhaserState → Result (Poll (Result ℕ Closed)) PollError
    → PhaserWaitState → Participant → PhaserState → Type 0
PollsParticipant NotPolled wait party waker old result wait' party' new =
    PollsFirst party.pending wait party waker old result wait' party' new
PollsParticipant (Registered slot) wait party waker old result wait' party' new =
    PollsPending wait.observed wait party waker old result wait' party' new
PollsParticipant Finished wait party waker old result wait' party' new =
    (result ≡ Err errors.Finished) × (wait' ≡ wait) × (party' ≡ party) × (new ≡ old)

-- a wait that is registered is polled with a participant that arrived in the phase that it waits for the end of
abbrev pub IsPendingFor : Life → ℕ → Option ℕ → Type 0
IsPendingFor (Registered slot) observed pending = pending ≡ Some observed
IsPendingFor NotPolled observed pending = Unit {0}
IsPendingFor Finished observed pending = Unit {0}
