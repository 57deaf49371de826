-- What a token is: a request, or what is held of an object.
use Rattle.std.specs.Prelude.{◌≡◌, ℕ}
use Rattle.band_balance.specs.Object.{Mode, Permit, Lock, Read, Write}
use Rattle.band_sem.specs.Request.{Finished}
use Rattle.band_player.specs.Objects.{RequestState, HoldingState, in_mode, held_in}
use Rattle.band_player.specs.Thing.{Thing}
use Rattle.band_player.specs.Thing as things
use Rattle.band_player.specs.declared.token.AnyToken.{AnyToken}
use Rattle.band_player.specs.declared.token.AnyToken.TheVariants as tokens

pub data TokenState : Type 0 where
  Request : (request : RequestState) → TokenState
  Holding : (holding : HoldingState) → TokenState

-- a request that has ended
abbrev pub ended : TokenState
ended = Request (record { mode = Permit; of = 0; size = 0; stage = Finished })

abbrev pub token_of : AnyToken → TokenState
token_of tokens.Ended = ended
token_of (tokens.SemaphorePermit permit) = Holding (held_in Permit permit)
token_of (tokens.LockGuard guard) = Holding (held_in Lock guard)
token_of (tokens.ReadAccess access) = Holding (held_in Read access)
token_of (tokens.WriteAccess access) = Holding (held_in Write access)
token_of (tokens.Acquire request) = Request (in_mode Permit request)
token_of (tokens.LockRequest request) = Request (in_mode Lock request)
token_of (tokens.ReadRequest request) = Request (in_mode Read request)
token_of (tokens.WriteRequest request) = Request (in_mode Write request)

-- what a name with this token is
abbrev pub thing_of : TokenState → Thing
thing_of (Request request) = things.Request request.of request
thing_of (Holding holding) = things.Holding holding

-- how much it asks for, or stands for
abbrev pub count_of : TokenState → ℕ
count_of (Request request) = request.size
count_of (Holding holding) = holding.count

-- what is held of the same object, but so much
abbrev pub counted : ℕ → TokenState → TokenState
counted n (Request request) = Request request
counted n (Holding holding) = Holding (record holding { count = n })

-- it is held in this mode
abbrev pub IsHeld : Mode → TokenState → Type 0
IsHeld mode (Request request) = ⊥
IsHeld mode (Holding holding) = holding.mode ≡ mode
