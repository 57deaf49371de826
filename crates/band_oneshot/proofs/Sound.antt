-- A step keeps a channel sound, and so does a run.
use Rattle.std.proofs.Common.{true, false, List, [], ◌∷◌, arith}
use Rattle.band_base.specs.declared.waker.Waker.{Waker}
use Rattle.band_oneshot.specs.declared.state.OneshotState.{OneshotState}
use Rattle.band_oneshot.specs.declared.step.OneshotStep.{OneshotStep}
use Rattle.band_oneshot.specs.declared.step.OneshotStep.TheVariants.{SenderLoad, Add, ExclusiveOr, TakeWaker, FinalSwap, ReceiverLoad, Swap, Store, PutWaker, TakeBack, EmptyToReceiving, ReceivingToEmpty, AwakingToDisconnected, EmptyToDisconnected, TakeMessage}
use Rattle.band_oneshot.specs.Sound.{IsSound}
use Rattle.band_oneshot.specs.Step.{after, after_all}

sender_load : (c : OneshotState) → IsSound c → IsSound (after SenderLoad c)
sender_load c h = grind arith

add : (c : OneshotState) → IsSound c → IsSound (after Add c)
add c h = grind arith

exclusive_or : (c : OneshotState) → IsSound c → IsSound (after ExclusiveOr c)
exclusive_or c h = grind arith

take_waker : (c : OneshotState) → IsSound c → IsSound (after TakeWaker c)
take_waker c h = grind arith

final_swap : (c : OneshotState) → IsSound c → IsSound (after FinalSwap c)
final_swap c h = grind arith

load : (c : OneshotState) → IsSound c → IsSound (after (ReceiverLoad false) c)
load c h = grind arith

cancel_load : (c : OneshotState) → IsSound c → IsSound (after (ReceiverLoad true) c)
cancel_load c h = grind arith

swap : (c : OneshotState) → IsSound c → IsSound (after Swap c)
swap c h = grind arith

store : (c : OneshotState) → IsSound c → IsSound (after Store c)
store c h = record {
  word = grind arith;
  receiving = grind arith;
  awaking = grind arith;
  empty = grind arith;
  message = grind arith;
  disconnected = grind arith;
  idle = grind arith;
  awaking_sender = grind arith;
  registering = grind arith;
  waiting = grind arith;
  there = grind arith;
}

put_waker : (w : Waker) (c : OneshotState) → IsSound c → IsSound (after (PutWaker w) c)
put_waker w c h = grind arith

take_back : (c : OneshotState) → IsSound c → IsSound (after TakeBack c)
take_back c h = grind arith

empty_to_receiving : (c : OneshotState) → IsSound c → IsSound (after EmptyToReceiving c)
empty_to_receiving c h = grind arith

receiving_to_empty : (c : OneshotState) → IsSound c → IsSound (after ReceivingToEmpty c)
receiving_to_empty c h = record {
  word = grind arith;
  receiving = grind arith;
  awaking = grind arith;
  empty = grind arith;
  message = grind arith;
  disconnected = grind arith;
  idle = grind arith;
  awaking_sender = grind arith;
  registering = grind arith;
  waiting = grind arith;
  there = grind arith;
}

awaking_to_disconnected : (c : OneshotState) → IsSound c → IsSound (after AwakingToDisconnected c)
awaking_to_disconnected c h = grind arith

empty_to_disconnected : (c : OneshotState) → IsSound c → IsSound (after EmptyToDisconnected c)
empty_to_disconnected c h = grind arith

take_message : (c : OneshotState) → IsSound c → IsSound (after TakeMessage c)
take_message c h = grind arith

pub IsSound-after : (s : OneshotStep) (c : OneshotState) → IsSound c → IsSound (after s c)
IsSound-after SenderLoad = sender_load
IsSound-after Add = add
IsSound-after ExclusiveOr = exclusive_or
IsSound-after TakeWaker = take_waker
IsSound-after FinalSwap = final_swap
IsSound-after (ReceiverLoad false) = load
IsSound-after (ReceiverLoad true) = cancel_load
IsSound-after Swap = swap
IsSound-after Store = store
IsSound-after (PutWaker w) = put_waker w
IsSound-after TakeBack = take_back
IsSound-after EmptyToReceiving = empty_to_receiving
IsSound-after ReceivingToEmpty = receiving_to_empty
IsSound-after AwakingToDisconnected = awaking_to_disconnected
IsSound-after EmptyToDisconnected = empty_to_disconnected
IsSound-after TakeMessage = take_message

pub IsSound-after_all : (steps : List OneshotStep) (c : OneshotState) → IsSound c → IsSound (after_all steps c)
IsSound-after_all [] c h = h
IsSound-after_all (s ∷ rest) c h = IsSound-after_all rest (after s c) (IsSound-after s c h)
