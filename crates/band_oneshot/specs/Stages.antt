-- Where an end, the message and the waker are, as tests.
use Rattle.std.specs.Prelude.{Bool, true, false}
use Rattle.band_oneshot.specs.declared.state.Place.{Place}
use Rattle.band_oneshot.specs.declared.state.Place.TheVariants as place
use Rattle.band_oneshot.specs.declared.state.WakerPlace.{WakerPlace}
use Rattle.band_oneshot.specs.declared.state.WakerPlace.TheVariants as waker
use Rattle.band_oneshot.specs.declared.state.SenderStage.{SenderStage}
use Rattle.band_oneshot.specs.declared.state.SenderStage.TheVariants as sender
use Rattle.band_oneshot.specs.declared.state.ReceiverStage.{ReceiverStage}
use Rattle.band_oneshot.specs.declared.state.ReceiverStage.TheVariants as receiver

abbrev pub is_idle : SenderStage → Bool
is_idle sender.Idle = true
is_idle stage = false

abbrev pub is_awaking : SenderStage → Bool
is_awaking (sender.Awaking sending) = true
is_awaking stage = false

-- it has a message to send
abbrev pub is_sending : SenderStage → Bool
is_sending (sender.Awaking sending) = sending
is_sending stage = false

abbrev pub is_plain : ReceiverStage → Bool
is_plain receiver.Plain = true
is_plain stage = false

abbrev pub is_waiting : ReceiverStage → Bool
is_waiting receiver.Waiting = true
is_waiting stage = false

abbrev pub is_registering : ReceiverStage → Bool
is_registering receiver.Registering = true
is_registering stage = false

abbrev pub is_cancelling : ReceiverStage → Bool
is_cancelling receiver.Cancelling = true
is_cancelling stage = false

abbrev pub is_ended : ReceiverStage → Bool
is_ended receiver.Ended = true
is_ended stage = false

-- the message is in the channel
abbrev pub is_there : Place → Bool
is_there place.Channel = true
is_there place = false

-- the waker is in the channel
abbrev pub is_left : WakerPlace → Bool
is_left (waker.Channel w) = true
is_left place = false

abbrev pub is_with_sender : WakerPlace → Bool
is_with_sender (waker.Sender w) = true
is_with_sender place = false

abbrev pub is_with_receiver : WakerPlace → Bool
is_with_receiver (waker.Receiver w) = true
is_with_receiver place = false

-- a waker that the receiver has goes into the channel
abbrev pub to_channel : WakerPlace → WakerPlace
to_channel (waker.Receiver w) = waker.Channel w
to_channel place = place

-- a waker that is in the channel goes to the sender
abbrev pub to_sender : WakerPlace → WakerPlace
to_sender (waker.Channel w) = waker.Sender w
to_sender place = place

-- a waker that is in the channel goes back to the receiver
abbrev pub to_receiver : WakerPlace → WakerPlace
to_receiver (waker.Channel w) = waker.Receiver w
to_receiver place = place
