-- What a poll and a drop of a thing make of the semaphores.
use Rattle.std.specs.Prelude.{◌≡◌, ℕ, Bool, false, ◌+◌, ◌-◌, ◌<◌, ◌≤◌, ◌==◌, if◌then◌else◌, List}
use Rattle.std.specs.Prelude.{length, Option, Some, None, Result, Ok, Err, slice_get, slice_set}
use Rattle.std.specs.Str.{bytes_eq}
use Rattle.band_balance.specs.Line.{u64_max}
use Rattle.band_base.specs.declared.poll.Poll.{Poll}
use Rattle.band_base.specs.declared.poll.Poll.TheVariants as polls
use Rattle.band_base.specs.declared.poll.PollError.{PollError}
use Rattle.band_base.specs.declared.poll.PollError.TheVariants as errors
use Rattle.band_base.specs.declared.refusal.Refusal.{Refusal}
use Rattle.band_base.specs.declared.refusal.Refusal.TheVariants.{Unknown, Kind, Same, Finished, Other}
use Rattle.band_sem.specs.Request.{Request as Asked, Stage, new_request}
use Rattle.band_sem.specs.Request as stages
use Rattle.band_sem.specs.Semaphore.{IsOwn, Polls, finished, given_back, cancelled}
use Rattle.band_sem.specs.Permit.{Permit as Held}
use Rattle.band_balance.specs.Object.{Mode, Permit, Lock, Read, Write, size_of}
use Rattle.band_balance.specs.Object as object
use Rattle.band_player.specs.Objects.{ObjectState, RequestState, HoldingState, shares_of, on_semaphore}
use Rattle.band_player.specs.Objects.{in_mode, asked_of, permit_in, IsLikeObject, IsSteady}
use Rattle.band_balance.specs.Rule.{Fits}
use Rattle.band_balance.specs.Object.{is_of}
use Rattle.band_rules.specs.Plan.{same_mode, most_readers}
use Rattle.band_script.specs.declared.call.Call.{Call}
use Rattle.band_script.specs.declared.call.Call.TheVariants as calls
use Rattle.band_player.specs.declared.object.New.{New}
use Rattle.band_player.specs.declared.object.New.TheVariants as news
use Rattle.band_player.specs.declared.object.Want.{Want}
use Rattle.band_player.specs.declared.object.Want.TheVariants as wants
use Rattle.band_rules.specs.declared.reply.Reply.{Reply}
use Rattle.band_rules.specs.declared.reply.Reply.TheVariants as replies
use Rattle.band_player.specs.Names.{Updated}
use Rattle.band_player.specs.Thing.{Thing, place_at}
use Rattle.band_player.specs.Thing as things
use Rattle.band_player.specs.Token.{TokenState, thing_of, count_of, IsHeld}
use Rattle.band_player.specs.Token as tokens

abbrev pub IsJoined : Stage → Type 0
IsJoined stages.NotPolled = ⊥
IsJoined (stages.Joined slot) = Unit {0}
IsJoined stages.Finished = ⊥

-- the request waits, was granted or was ended at the object at its place
abbrev pub FitsRequest : Option ObjectState → RequestState → Type 0
FitsRequest None request = ⊥
FitsRequest (Some sem) request =
    IsJoined request.stage × (request.of ≡ sem.number) × IsOwn request.stage request.size (shares_of sem)
    × Fits sem.kind request.mode request.size

-- it is held of the object at its place
abbrev pub FitsHolding : Option ObjectState → HoldingState → Type 0
FitsHolding None holding = ⊥
FitsHolding (Some sem) holding = (holding.of ≡ sem.number) × (holding.count ≤ sem.held)
    × Fits sem.kind holding.mode holding.count

-- the objects know the thing
abbrev pub IsFit : List ObjectState → Thing → Type 0
IsFit sems (things.Object place) = place < length sems
IsFit sems (things.Request place request) = FitsRequest (slice_get sems place) request
IsFit sems (things.Holding holding) = FitsHolding (slice_get sems holding.of) holding

-- a request of an object that was not polled yet, or that waits, was granted or was ended
abbrev pub IsOpen : Stage → Type 0
IsOpen stages.NotPolled = Unit {0}
IsOpen (stages.Joined slot) = Unit {0}
IsOpen stages.Finished = ⊥

-- a token can be polled with an object: where it is a request, it is one of this object that has not ended
abbrev pub CanPoll : ObjectState → TokenState → Type 0
CanPoll object (tokens.Holding holding) = Unit {0}
CanPoll object (tokens.Request request) =
    IsOpen request.stage × (request.of ≡ object.number) × IsOwn request.stage request.size (shares_of object)
    × Fits object.kind request.mode request.size

-- it was polled before
abbrev pub WasPolled : TokenState → Type 0
WasPolled (tokens.Holding holding) = Unit {0}
WasPolled (tokens.Request request) = IsJoined request.stage

-- the object knows the token
abbrev pub FitsToken : Option ObjectState → TokenState → Type 0
FitsToken found (tokens.Request request) = FitsRequest found request
FitsToken found (tokens.Holding holding) = FitsHolding found holding

-- what a request has come to by a poll, and the reply, say what was answered, and what is left of the request
abbrev pub answer_of : TokenState → Reply → Result (Poll Held) PollError
answer_of (tokens.Holding holding) reply = Ok (polls.Ready (permit_in holding))
answer_of (tokens.Request request) replies.Closed = Err errors.Closed
answer_of (tokens.Request request) reply = Ok polls.Pending

abbrev pub left_of : RequestState → TokenState → Asked
left_of request (tokens.Holding holding) = finished (asked_of request)
left_of request (tokens.Request left) = asked_of left

abbrev pub IsReply : TokenState → Reply → Type 0
IsReply (tokens.Holding holding) reply = reply ≡ replies.Ready
IsReply (tokens.Request request) replies.Closed = Unit {0}
IsReply (tokens.Request request) reply = reply ≡ replies.Pending

-- a name whose request was answered that its semaphore is closed ends
abbrev pub left_by : Reply → Option Thing → Option Thing
left_by replies.Closed thing = None
left_by reply thing = thing

abbrev pub mode_in : TokenState → Mode
mode_in (tokens.Holding holding) = holding.mode
mode_in (tokens.Request request) = request.mode

-- a poll of a request of an object, which keeps its kind and mode, and what the request has come to
pub record PollsRequest (request : RequestState) (waker : ℕ) (old : ObjectState) (token : TokenState)
    (reply : Reply)
    (new : ObjectState) : Type 0 where
  pub polled : Polls (asked_of request) waker (shares_of old) (answer_of token reply)
      (left_of request token) (shares_of new)
  pub kind : new.kind ≡ old.kind
  pub mode : mode_in token ≡ request.mode
  pub replied : IsReply token reply
  pub lawful : IsSteady new

-- what a token has come to by a poll: what is held stays, and the poll is refused
abbrev pub PollsToken : TokenState → ℕ → ObjectState → TokenState → Reply → ObjectState → Type 0
PollsToken (tokens.Holding holding) waker old token reply new =
    (token ≡ tokens.Holding holding) × (reply ≡ replies.Refused Finished) × (new ≡ old)
PollsToken (tokens.Request request) waker old token reply new = PollsRequest request waker old token reply new

-- one object becomes another, in whatever order those granted and those ended are kept
pub record Changes (place : ℕ) (old new : List ObjectState) (step : ObjectState → ObjectState) : Type 0 where
  pub before : ObjectState
  pub after : ObjectState
  pub there : slice_get old place ≡ Some before
  pub set : new ≡ slice_set old place after
  pub like : IsLikeObject (step before) after
  pub lawful : IsSteady after

-- what letting go of a token makes of its object
abbrev pub dropped : TokenState → ObjectState → ObjectState
dropped (tokens.Holding holding) object = on_semaphore (given_back holding.count) object
dropped (tokens.Request request) object = on_semaphore (cancelled request.stage) object

-- the object at a place has the place for its number
abbrev pub IsNumbered : List ObjectState → ℕ → Type 0
IsNumbered sems place = (sem : ObjectState) → slice_get sems place ≡ Some sem → sem.number ≡ place

-- the place of an object, or why there is none
abbrev pub object_place : Option Thing → Result ℕ Refusal
object_place None = Err Unknown
object_place (Some (things.Object place)) = Ok place
object_place (Some (things.Request place request)) = Err Kind
object_place (Some (things.Holding holding)) = Err Kind

-- the place of an object of which this is asked, or why there is none
abbrev pub offers_at : Mode → Option ObjectState → Bool
offers_at mode None = false
offers_at mode (Some sem) = is_of sem.kind mode

abbrev pub offering : Mode → List ObjectState → Result ℕ Refusal → Result ℕ Refusal
offering mode sems (Err refusal) = Err refusal
offering mode sems (Ok place) = if offers_at mode (slice_get sems place) then Ok place else Err Kind

-- what a thing holds in a mode, or why it holds nothing
abbrev pub held_as : Mode → Option Thing → Result HoldingState Refusal
held_as mode None = Err Unknown
held_as mode (Some (things.Object place)) = Err Kind
held_as mode (Some (things.Request place request)) = Err Kind
held_as mode (Some (things.Holding holding)) = if same_mode mode holding.mode then Ok holding else Err Kind

-- it is held in a mode, of the object at a place
pub record HeldAt (mode : Mode) (found : Option Thing) (place : ℕ) : Type 0 where
  pub holding : HoldingState
  pub is : held_as mode found ≡ Ok holding
  pub at : place ≡ holding.of

-- it is a permit of so many
pub record HasCount (found : Option Thing) (count : ℕ) : Type 0 where
  pub permit : HoldingState
  pub is : held_as Permit found ≡ Ok permit
  pub same : count ≡ permit.count

-- it is a permit of n at least
pub record HasPermits (found : Option Thing) (n : ℕ) : Type 0 where
  pub whole : HoldingState
  pub is : held_as Permit found ≡ Ok whole
  pub enough : n ≤ whole.count

-- n of a permit's go to a new name
pub record SplitsTo (name made : List ℕ) (n : ℕ) (table table' : List ℕ → Option Thing)
    (place : ℕ) : Type 0 where
  pub whole : HoldingState
  pub mid : List ℕ → Option Thing
  pub was : held_as Permit (table name) ≡ Ok whole
  pub enough : n ≤ whole.count
  pub at : place ≡ whole.of
  pub parted : Updated table mid name (Some (things.Holding (record whole { count = whole.count - n })))
  pub added : Updated mid table' made (Some (things.Holding (record whole { count = n })))

-- the place of the object of two permits that can become one, or why they can't
abbrev pub mergeable_held : List ℕ → List ℕ → Result HoldingState Refusal → Result HoldingState Refusal
    → Result ℕ Refusal
mergeable_held kept spent (Err refusal) second = Err refusal
mergeable_held kept spent (Ok first) (Err refusal) = Err refusal
mergeable_held kept spent (Ok first) (Ok second) =
    if bytes_eq kept spent then Err Same else (if first.of == second.of then Ok first.of else Err Other)

abbrev pub mergeable : List ℕ → List ℕ → Option Thing → Option Thing → Result ℕ Refusal
mergeable kept spent None second = Err Unknown
mergeable kept spent (Some first) None = Err Unknown
mergeable kept spent (Some first) (Some second) =
    mergeable_held kept spent (held_as Permit (Some first)) (held_as Permit (Some second))

-- a permit can be added to what a name is
pub record CanGrow (found : Option Thing) (more : TokenState) : Type 0 where
  pub whole : HoldingState
  pub is : held_as Permit found ≡ Ok whole
  pub mode : IsHeld Permit more
  pub same : whole.of ≡ place_at (thing_of more)
  pub fits : whole.count + count_of more ≤ u64_max

-- a permit's are added to what a name is
pub record Grows (name : List ℕ) (table table' : List ℕ → Option Thing) (more : TokenState) : Type 0 where
  pub whole : HoldingState
  pub was : held_as Permit (table name) ≡ Ok whole
  pub updated : Updated table table' name
      (Some (things.Holding (record whole { count = whole.count + count_of more })))

-- what a call asks an object for: its mode, and how much
abbrev pub mode_of : Want → Mode
mode_of (wants.Permits n) = Permit
mode_of wants.Lock = Lock
mode_of wants.Read = Read
mode_of wants.Write = Write

abbrev pub size_for : Want → object.Kind → ℕ
size_for (wants.Permits n) kind = n
size_for wants.Lock kind = size_of kind Lock
size_for wants.Read kind = size_of kind Read
size_for wants.Write kind = size_of kind Write

-- a new request of an object for this, and what is held of it once it was given
abbrev pub asked_first : Want → ObjectState → RequestState
asked_first want object = in_mode (mode_of want) (new_request object.number (size_for want object.kind))

abbrev pub had_of : Want → ObjectState → HoldingState
had_of want object = record { mode = mode_of want; of = object.number; count = size_for want object.kind }

-- a new name is a request of an object that was polled first
pub record AsksName (name : List ℕ) (want : Want) (waker : ℕ) (table table' : List ℕ → Option Thing)
    (old new : ObjectState) (reply : Reply) : Type 0 where
  pub left : TokenState
  pub polled : PollsRequest (asked_first want old) waker old left reply new
  pub updated : Updated table table' name (Some (thing_of left))

-- what a call makes
abbrev pub kind_made : New → object.Kind
kind_made (news.Semaphore n) = object.Semaphore
kind_made news.Mutex = object.Mutex
kind_made (news.ReaderWriter n) = object.ReaderWriter (most_readers n)

abbrev pub count_made : New → ℕ
count_made (news.Semaphore n) = n
count_made news.Mutex = 1
count_made (news.ReaderWriter n) = most_readers n

-- the calls of scripts that ask an object for this, or make one
abbrev pub ask_call : Want → List ℕ → List ℕ → ℕ → Call
ask_call (wants.Permits n) made of waker = calls.Ask made of n waker
ask_call wants.Lock made of waker = calls.Lock made of waker
ask_call wants.Read made of waker = calls.Read made of waker
ask_call wants.Write made of waker = calls.Write made of waker

abbrev pub try_call : Want → List ℕ → List ℕ → Call
try_call (wants.Permits n) made of = calls.Try made of n
try_call wants.Lock made of = calls.TryLock made of
try_call wants.Read made of = calls.TryRead made of
try_call wants.Write made of = calls.TryWrite made of

abbrev pub make_call : New → List ℕ → Call
make_call (news.Semaphore n) made = calls.Sem made n
make_call news.Mutex made = calls.Mutex made
make_call (news.ReaderWriter n) made = calls.Rw made n

-- all but one of so many go back
abbrev pub downgraded : ℕ → ObjectState → ObjectState
downgraded count sem = on_semaphore (given_back (count - 1)) sem
