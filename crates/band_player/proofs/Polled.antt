-- What a poll of a token says, and what fits a token.
use Rattle.std.proofs.Common.{◌≡◌, ℕ, Option, Some, None, Ok, Err, refl, sym, ap, subst, ◌∙◌, ◌<◌, List, length, arith}
use Rattle.std.specs.List.{slice_get}
use Rattle.std.specs.Prelude.{slice_index_or as get_or}
use Rattle.std.proofs.lemmas.Option.{same_Some, slice_get_read, slice_get_within}
use Rattle.band_base.specs.declared.poll.Poll.TheVariants as polls
use Rattle.band_base.specs.declared.poll.PollError.{PollError}
use Rattle.band_base.specs.declared.poll.PollError.TheVariants as errors
use Rattle.band_sem.specs.Permit.{Permit as Held}
use Rattle.band_sem.specs.Request.{Request as Asked, Stage, NotPolled, Joined, Finished}
use Rattle.band_sem.specs.Semaphore.{SemaphoreState, PollsAt, finished}
use Rattle.band_player.specs.Moves.{FitsToken, CanPoll, WasPolled, IsFit, IsJoined, IsOpen}
use Rattle.band_player.specs.Objects.{ObjectState}
use Rattle.band_player.specs.Thing.{place_at}
use Rattle.band_player.specs.Token.{TokenState, Request, Holding, thing_of}

-- a request that is ready has ended
pub ends : (stage : Stage) (request : Asked) (waker : ℕ) (old : SemaphoreState) (permit : Held) (left : Asked) (new : SemaphoreState)
    → PollsAt stage request waker old (Ok (polls.Ready permit)) left new → PollsAt stage request waker old (Ok (polls.Ready permit)) (finished request) new
ends NotPolled request waker old permit left new (is_open, served, permit_is, new_is, left_is) = (is_open, served, permit_is, new_is, refl)
ends (Joined slot) request waker old permit left new (live, there, permit_is, new_is, left_is) = (live, there, permit_is, new_is, refl)
ends Finished request waker old permit left new (result_is, new_is, left_is) = cc

-- a poll that fails, but not since it is closed, is a first one, and changes nothing
pub fails : (stage : Stage) (request : Asked) (waker : ℕ) (old : SemaphoreState) (error : PollError) (left : Asked) (new : SemaphoreState)
    → IsOpen stage → (error ≡ errors.Closed → ⊥) → PollsAt stage request waker old (Err error) left new → (new ≡ old) × (IsJoined stage → ⊥)
fails NotPolled request waker old errors.NoMemory left new fresh other polled = (polled.2, λ joined. joined)
fails NotPolled request waker old errors.Closed left new fresh other polled = absurd (other refl)
fails NotPolled request waker old error left new fresh other polled = absurd polled
fails (Joined slot) request waker old errors.Closed left new fresh other polled = absurd (other refl)
fails (Joined slot) request waker old error left new fresh other polled = absurd polled
fails Finished request waker old error left new fresh other polled = absurd fresh

opens : (stage : Stage) → IsJoined stage → IsOpen stage
opens NotPolled joined = tt
opens (Joined slot) joined = tt
opens Finished joined = joined

pub can_poll : (object : ObjectState) (token : TokenState) → FitsToken (Some object) token → CanPoll object token
can_poll object (Request request) fit = (opens request.stage fit.0, fit.1, fit.2, fit.3)
can_poll object (Holding holding) fit = tt

pub was_polled : (object : ObjectState) (token : TokenState) → FitsToken (Some object) token → WasPolled token
was_polled object (Request request) fit = fit.0
was_polled object (Holding holding) fit = tt

-- the place of a token's object is there, and the object that is read at it knows the token
pub record Reads (kept : List ObjectState) (token : TokenState) (place : ℕ) : Type 0 where
  pub within : place < length kept
  pub there : (object : ObjectState) → object ≡ get_or kept place object → slice_get kept (place_at (thing_of token)) ≡ Some object
  pub fits : (object : ObjectState) → object ≡ get_or kept place object → FitsToken (Some object) token

pub reads : (kept : List ObjectState) (token : TokenState) (place : ℕ) → place ≡ place_at (thing_of token) → IsFit kept (thing_of token) → Reads kept token place
reads kept token place at fit = go (slice_get kept (place_at (thing_of token))) refl (known token fit)
  where
    known : (token : TokenState) → IsFit kept (thing_of token) → FitsToken (slice_get kept (place_at (thing_of token))) token
    known (Request request) fit = fit
    known (Holding holding) fit = fit

    never : (token : TokenState) → FitsToken None token → ⊥
    never (Request request) fit = fit
    never (Holding holding) fit = fit

    go : (o : Option ObjectState) → slice_get kept (place_at (thing_of token)) ≡ o → FitsToken o token → Reads kept token place
    go None is fit = absurd (never token fit)
    go (Some object) is fit =
        let within : place_at (thing_of token) < length kept = slice_get_within kept (place_at (thing_of token)) object is in
        let read : (other : ObjectState) → other ≡ get_or kept place other → slice_get kept (place_at (thing_of token)) ≡ Some other
        = λ other seen. ap (slice_get kept) (sym at) ∙ slice_get_read kept _ place other refl (omega arith) seen in
        record {
          within = omega arith;
          there = read;
          fits = λ other seen. subst (λ (s : ObjectState). FitsToken (Some s) token) (same_Some object other (sym is ∙ read other seen)) fit;
        }
