-- What a step of one end needs, and what it does.
use Rattle.std.specs.Prelude.{Bool, true, false, not, ◌&&◌, ◌||◌, ◌==◌, if◌then◌else◌, List, [], ◌∷◌}
use Rattle.band_oneshot.specs.declared.word.TheConstants.{EMPTY, RECEIVING, AWAKING, MESSAGE, DISCONNECTED, UNREAD}
use Rattle.band_oneshot.specs.declared.state.OneshotState.{OneshotState}
use Rattle.band_oneshot.specs.declared.state.Place.TheVariants as place
use Rattle.band_oneshot.specs.declared.state.WakerPlace.TheVariants as waker
use Rattle.band_oneshot.specs.declared.state.SenderStage.TheVariants as sender
use Rattle.band_oneshot.specs.declared.state.ReceiverStage.TheVariants as receiver
use Rattle.band_oneshot.specs.declared.step.OneshotStep.{OneshotStep}
use Rattle.band_oneshot.specs.declared.step.OneshotStep.TheVariants.{SenderLoad, Add, ExclusiveOr, TakeWaker, FinalSwap, ReceiverLoad, Swap, Store, PutWaker, TakeBack, EmptyToReceiving, ReceivingToEmpty, AwakingToDisconnected, EmptyToDisconnected, TakeMessage}
use Rattle.band_oneshot.specs.Stages.{is_idle, is_awaking, is_sending, is_plain, is_waiting, is_registering, is_cancelling, is_ended, is_there, is_left, is_with_sender, is_with_receiver, to_channel, to_sender, to_receiver}

-- nobody has made a step
abbrev pub start : OneshotState
start = record {
  word = EMPTY;
  message = place.Sender;
  waker = waker.Nowhere;
  sender = sender.Idle;
  receiver = receiver.Plain;
}

-- is that end at this step?
abbrev pub needs : OneshotStep → OneshotState → Bool
needs SenderLoad c = is_idle c.sender
needs Add c = is_idle c.sender
needs ExclusiveOr c = is_idle c.sender
needs TakeWaker c = is_awaking c.sender && is_left c.waker
needs FinalSwap c = is_awaking c.sender && is_with_sender c.waker
needs (ReceiverLoad cancel) c = not (is_ended c.receiver) && not (is_with_receiver c.waker)
needs Swap c = is_plain c.receiver
needs Store c = (is_plain c.receiver || is_waiting c.receiver) && (c.word == MESSAGE)
needs (PutWaker w) c = is_plain c.receiver || is_registering c.receiver
needs TakeBack c = is_with_receiver c.waker
needs EmptyToReceiving c = is_registering c.receiver
needs ReceivingToEmpty c = is_waiting c.receiver || is_cancelling c.receiver
needs AwakingToDisconnected c = is_cancelling c.receiver
needs EmptyToDisconnected c = is_cancelling c.receiver && not (is_with_receiver c.waker)
needs TakeMessage c =
    is_there c.message && ((c.word == DISCONNECTED) || (is_cancelling c.receiver && (c.word == MESSAGE)))

-- what it makes of the state. An exchange that finds another value changes nothing.
abbrev pub does : OneshotStep → OneshotState → OneshotState
does SenderLoad c = c
does Add c =
    if c.word == EMPTY then record c { word = MESSAGE; message = place.Channel; sender = sender.Ended }
    else if c.word == RECEIVING then record c { word = AWAKING; sender = sender.Awaking true }
    else if c.word == DISCONNECTED then
    record c { word = UNREAD; message = place.HandedBack; sender = sender.Ended }
    else c
does ExclusiveOr c =
    if c.word == EMPTY then record c { word = DISCONNECTED; message = place.Gone; sender = sender.Ended }
    else if c.word == RECEIVING then record c { word = AWAKING; sender = sender.Awaking false }
    else if c.word == DISCONNECTED then
    record c { word = UNREAD; message = place.Gone; sender = sender.Ended }
    else c
does TakeWaker c = record c { waker = to_sender c.waker }
does FinalSwap c = record c {
  word = if is_sending c.sender then MESSAGE else DISCONNECTED;
  message = if is_sending c.sender && (c.word == AWAKING) then place.Channel else place.Gone;
  sender = sender.Ended;
}
does (ReceiverLoad false) c = c
does (ReceiverLoad true) c =
    record c { receiver = if c.word == DISCONNECTED then receiver.Ended else receiver.Cancelling }
does Swap c = record c { word = DISCONNECTED; receiver = receiver.Ended }
does Store c = record c { word = DISCONNECTED; receiver = receiver.Plain }
does (PutWaker w) c = record c { waker = waker.Receiver w; receiver = receiver.Registering }
does TakeBack c = record c {
  waker = waker.Nowhere;
  receiver = if is_registering c.receiver then receiver.Plain else c.receiver;
}
does EmptyToReceiving c =
    if c.word == EMPTY then
    record c { word = RECEIVING; waker = to_channel c.waker; receiver = receiver.Waiting }
    else c
does ReceivingToEmpty c =
    if c.word == RECEIVING then record c {
      word = EMPTY;
      waker = to_receiver c.waker;
      receiver = if is_waiting c.receiver then receiver.Registering else c.receiver;
    } else c
does AwakingToDisconnected c =
    if c.word == AWAKING then record c { word = DISCONNECTED; receiver = receiver.Ended } else c
does EmptyToDisconnected c =
    if c.word == EMPTY then record c { word = DISCONNECTED; receiver = receiver.Ended } else c
does TakeMessage c = record c {
  message = place.Receiver;
  receiver = if is_cancelling c.receiver then receiver.Ended else c.receiver;
}

-- a step that its end is not at changes nothing
abbrev pub after : OneshotStep → OneshotState → OneshotState
after s c = if needs s c then does s c else c

-- a run of steps
abbrev pub after_all : List OneshotStep → OneshotState → OneshotState
after_all [] c = c
after_all (s ∷ rest) c = after_all rest (after s c)
