-- What a call has of the permit stays counted, over its own steps and those of others.
use Rattle.std.proofs.Common.{◌≡◌, ℕ, ◌+◌, ◌≤◌, sym, ap, ◌∙◌, subst, arith, length, Option, Result, Ok, Err}
use Rattle.band_base.specs.declared.poll.Poll.{Poll}
use Rattle.band_base.specs.declared.poll.Poll.TheVariants.{Ready, Pending}
use Rattle.band_base.specs.declared.poll.PollError.{PollError}
use Rattle.band_base.specs.declared.waker.Waker.{Waker}
use Rattle.band_sem.specs.Permit.{Permit}
use Rattle.band_sem.specs.Request.{Request, Stage}
use Rattle.band_sem.specs.Request as stages
use Rattle.band_sem.specs.Semaphore.{SemaphoreState, IsLike, IsLawful, SlotsDiffer, TakesWake, Polls, PollsAt, cancelled, given_back, permit_for}
use Rattle.band_sem.specs.Whole.{IsWhole}
use Rattle.band_sem.proofs.Held.{KeepsHeld, KeepsHeld-wakes, KeepsHeld-polls, KeepsHeld-cancels}
use Rattle.band_sem.proofs.Own.{IsOwn-polls, IsOwn-polled, IsOwn-cancels, IsOwn-given_back, IsOwn-wakes, SlotsDiffer-back}
use Rattle.band_once.specs.Claims.{Claim, Nothing, Awaits, Has, IsCounted, AreApart, KeepsCounted}

-- what polling a request leaves it as
abbrev pub polled : Result (Poll Permit) PollError → Request → Claim
polled (Ok (Ready token)) request = Has token
polled (Ok Pending) request = Awaits request
polled (Err error) request = Nothing

-- one that was served has its permits, which are held
served : (request request' : Request) (waker : ℕ) (old new : SemaphoreState) (token : Permit)
    → Polls request waker old (Ok (Ready token)) request' new → (token ≡ permit_for request) × (new.held ≡ old.held + request.size)
served request request' waker old new token polls = at request.stage polls
  where
    at : (stage : Stage) → PollsAt stage request waker old (Ok (Ready token)) request' new → (token ≡ permit_for request) × (new.held ≡ old.held + request.size)
    at stages.NotPolled (not_shut, is_served, gives, takes, left) = (gives, ap (λ (s : SemaphoreState). s.held) takes)
    at (stages.Joined slot) (live, there, gives, receives, left) = (gives, ap (λ (s : SemaphoreState). s.held) receives)
    at stages.Finished (refused, same, left) = cc

-- and one that waits is of the same semaphore
waits : (request request' : Request) (waker : ℕ) (old new : SemaphoreState) → Polls request waker old (Ok Pending) request' new → request'.of ≡ request.of
waits request request' waker old new polls = at request.stage polls
  where
    at : (stage : Stage) → PollsAt stage request waker old (Ok Pending) request' new → request'.of ≡ request.of
    at stages.NotPolled (not_shut, is_waiting, (slot, fresh, joins, left)) = ap (λ (r : Request). r.of) left
    at (stages.Joined slot) (live, none, leaves, left) = ap (λ (r : Request). r.of) left
    at stages.Finished (refused, same, left) = cc

module _ (old new : SemaphoreState) where
  not_two : (held held' granted : ℕ) → held' ≡ held + 1 → 1 ≤ held → granted + held' ≤ 1 → ⊥
  not_two held held' granted more one most = omega arith

  -- a poll of a request for one permit
  pub KeepsCounted-polls : (request request' : Request) (waker : ℕ) (answer : Result (Poll Permit) PollError) → IsCounted (Awaits request) old → request.size ≡ 1 → IsWhole 1 new
      → Polls request waker old answer request' new → KeepsCounted (Awaits request) (polled answer request') old new
  KeepsCounted-polls request request' waker answer counted one whole polls = record { own = own answer polls; others = λ other apart theirs. others answer polls other apart theirs }
    where
      kept : (answer : Result (Poll Permit) PollError) → Polls request waker old answer request' new → KeepsHeld old new
      kept answer polls = KeepsHeld-polls old new request request' waker answer polls

      own : (answer : Result (Poll Permit) PollError) → Polls request waker old answer request' new → IsCounted (polled answer request') new
      own (Ok (Ready token)) polls =
          let gives = served request request' waker old new token polls in
          (ap (λ (t : Permit). t.of) gives.0 ∙ counted.0 ∙ sym (kept (Ok (Ready token)) polls).number, omega (arith, gives.1, one))
      own (Ok Pending) polls =
          (waits request request' waker old new polls ∙ counted.0 ∙ sym (kept (Ok Pending) polls).number, IsOwn-polled request request' waker old new (Ok Pending) counted.1 polls)
      own (Err error) polls = tt

      others : (answer : Result (Poll Permit) PollError) → Polls request waker old answer request' new → (other : Claim) → AreApart (Awaits request) other → IsCounted other old
          → IsCounted other new × AreApart (polled answer request') other
      others (Ok (Ready token)) polls Nothing apart theirs = (tt, tt)
      others (Ok Pending) polls Nothing apart theirs = (tt, tt)
      others (Err error) polls Nothing apart theirs = (tt, tt)
      others (Ok (Ready token)) polls (Awaits other) apart theirs =
          let own = IsOwn-polls other old new theirs.1 request request' waker (Ok (Ready token)) (SlotsDiffer-back request.stage other.stage apart) polls in
          ((theirs.0 ∙ sym (kept (Ok (Ready token)) polls).number, own.0), tt)
      others (Ok Pending) polls (Awaits other) apart theirs =
          let own = IsOwn-polls other old new theirs.1 request request' waker (Ok Pending) (SlotsDiffer-back request.stage other.stage apart) polls in
          ((theirs.0 ∙ sym (kept (Ok Pending) polls).number, own.0), SlotsDiffer-back other.stage request'.stage own.1)
      others (Err error) polls (Awaits other) apart theirs =
          let own = IsOwn-polls other old new theirs.1 request request' waker (Err error) (SlotsDiffer-back request.stage other.stage apart) polls in
          ((theirs.0 ∙ sym (kept (Err error) polls).number, own.0), tt)
      others (Ok (Ready token)) polls (Has other) apart theirs =
          let gives = served request request' waker old new token polls in
          absurd (not_two old.held new.held (length new.line.granted) (gives.1 ∙ ap (λ n. old.held + n) one) theirs.1 whole.at_most)
      others (Ok Pending) polls (Has other) apart theirs =
          let k = kept (Ok Pending) polls in ((theirs.0 ∙ sym k.number, omega (arith, k.held, theirs.1)), tt)
      others (Err error) polls (Has other) apart theirs =
          let k = kept (Err error) polls in ((theirs.0 ∙ sym k.number, omega (arith, k.held, theirs.1)), tt)

  -- the token goes back
  pub KeepsCounted-given_back : (token : Permit) → IsLike (given_back 1 old) new → IsLawful new → KeepsCounted (Has token) Nothing old new
  KeepsCounted-given_back token back lawful = record { own = tt; others = others }
    where
      others : (other : Claim) → AreApart (Has token) other → IsCounted other old → IsCounted other new × AreApart Nothing other
      others Nothing apart theirs = (tt, tt)
      others (Awaits other) apart theirs = ((theirs.0 ∙ sym back.number, IsOwn-given_back other old new theirs.1 1 back lawful), tt)
      others (Has other) apart theirs = absurd apart

  -- a request ends
  pub KeepsCounted-cancels : (request : Request) → IsLike (cancelled request.stage old) new → IsLawful new → KeepsCounted (Awaits request) Nothing old new
  KeepsCounted-cancels request ends lawful = record { own = tt; others = others }
    where
      kept : KeepsHeld old new
      kept = KeepsHeld-cancels old new request.stage ends

      others : (other : Claim) → AreApart (Awaits request) other → IsCounted other old → IsCounted other new × AreApart Nothing other
      others Nothing apart theirs = (tt, tt)
      others (Awaits other) apart theirs =
          ((theirs.0 ∙ sym kept.number, IsOwn-cancels other old new theirs.1 request.stage (SlotsDiffer-back request.stage other.stage apart) ends lawful), tt)
      others (Has other) apart theirs = ((theirs.0 ∙ sym kept.number, omega (arith, kept.held, theirs.1)), tt)

-- one step after another
pub KeepsCounted-then : (one two three : Claim) (old mid new : SemaphoreState) → KeepsCounted one two old mid → KeepsCounted two three mid new → KeepsCounted one three old new
KeepsCounted-then one two three old mid new first second = record {
  own = second.own;
  others = λ other apart theirs. let step = first.others other apart theirs in second.others other step.1 step.0;
}

-- where nothing changes
pub KeepsCounted-same : (claim : Claim) (state : SemaphoreState) → IsCounted claim state → KeepsCounted claim claim state state
KeepsCounted-same claim state counted = record { own = counted; others = λ other apart theirs. (theirs, apart) }

-- a request that was not polled has no slot
pub KeepsCounted-new : (request : Request) (claim : Claim) (old new : SemaphoreState)
    → request.stage ≡ stages.NotPolled → KeepsCounted (Awaits request) claim old new → KeepsCounted Nothing claim old new
KeepsCounted-new request claim old new fresh kept = record { own = kept.own; others = λ other none theirs. kept.others other (apart other) theirs }
  where
    apart : (other : Claim) → AreApart (Awaits request) other
    apart Nothing = tt
    apart (Awaits other) = subst (λ (stage : Stage). SlotsDiffer stage other.stage) (sym fresh) tt
    apart (Has token) = tt

pub AreApart-back : (mine other : Claim) → AreApart mine other → AreApart other mine
AreApart-back Nothing Nothing apart = tt
AreApart-back Nothing (Awaits other) apart = tt
AreApart-back Nothing (Has token) apart = tt
AreApart-back (Awaits mine) Nothing apart = tt
AreApart-back (Awaits mine) (Awaits other) apart = SlotsDiffer-back mine.stage other.stage apart
AreApart-back (Awaits mine) (Has token) apart = tt
AreApart-back (Has mine) Nothing apart = tt
AreApart-back (Has mine) (Awaits other) apart = tt
AreApart-back (Has mine) (Has token) apart = apart

-- a waker is taken
pub IsCounted-wakes : (claim : Claim) (old new : SemaphoreState) (result : Option Waker) → TakesWake old result new → IsCounted claim old → IsCounted claim new
IsCounted-wakes Nothing old new result takes counted = tt
IsCounted-wakes (Awaits request) old new result takes counted =
    (counted.0 ∙ sym (KeepsHeld-wakes old new result takes).number, IsOwn-wakes request old new counted.1 result takes)
IsCounted-wakes (Has token) old new result takes counted =
    let kept = KeepsHeld-wakes old new result takes in (counted.0 ∙ sym kept.number, omega (arith, kept.held, counted.1))
