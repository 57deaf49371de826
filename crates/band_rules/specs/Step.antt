-- What a call makes of a state: the reply, the wakers to wake in order, and the state afterwards.
use Rattle.std.specs.Prelude.{ℕ, if◌then◌else◌, List, [], ◌∷◌, ◌++◌}
use Rattle.std.specs.Str.{bytes_eq}
use Rattle.band_balance.specs.Object.{Object, Answer, Done, Ready, Pending, Nothing, Closed, Drained, Figures}
use Rattle.band_balance.specs.Rule.{act}
use Rattle.band_script.specs.declared.call.Call.{Call}
use Rattle.band_rules.specs.declared.reply.Reply.{Reply}
use Rattle.band_rules.specs.declared.reply.Reply.TheVariants as replies
use Rattle.band_rules.specs.Plan.{Plan, Refuse, Make, Act, plan}
use Rattle.band_rules.specs.State.{State, Tag}

pub record Effect : Type 0 where
  pub reply : Reply
  pub woken : List ℕ
  pub state : State

abbrev pub reply_of : Answer → Reply
reply_of Done = replies.Done
reply_of Ready = replies.Ready
reply_of Pending = replies.Pending
reply_of Nothing = replies.Nothing
reply_of Closed = replies.Closed
reply_of (Drained count) = replies.Drained count
reply_of (Figures available free waiting granted held) = replies.Figures available free waiting granted held

-- the object of this name becomes another
abbrev pub with_object : List ℕ → Object Tag → State → State
with_object name object [] = []
with_object name object (first ∷ rest) =
    if bytes_eq name first.name
    then record first { object = object } ∷ rest
    else first ∷ with_object name object rest

-- a refused call changes nothing and wakes nobody, and a new object comes last
abbrev pub perform : Plan → State → Effect
perform (Refuse refusal) state = record { reply = replies.Refused refusal; woken = []; state = state }
perform (Make made object) state = record {
  reply = replies.Done;
  woken = [];
  state = state ++ record { name = made; object = object } ∷ [];
}
perform (Act of rule) state =
    let turn = act bytes_eq rule of.object in
    record { reply = reply_of turn.answer; woken = turn.woken; state = with_object of.name turn.object state }

abbrev pub step : Call → State → Effect
step call state = perform (plan call state) state
