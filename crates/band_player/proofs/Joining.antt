-- Who joins a line by a call, and that it was visited.
use Rattle.std.proofs.Common.{◌≡◌, ℕ, ◌+◌, ◌<◌, ◌≤◌, ◌⊎◌, inl, inr, Bool, true, false, cond, if◌then◌else◌, not, is_some, List, Option, Some, None, Result, Ok, Err, IfOk, OnOk, refl, ap, ◌∙◌, arith}
use Rattle.std.specs.Str.{bytes_eq}
use Rattle.band_balance.specs.Line.{is_served, total, overflows, owes_too_much}
use Rattle.band_balance.specs.Object.{Kind, Mode, Turn, Pending, Permit, Lock, Read, Write, tag, is_of, size_of}
use Rattle.band_balance.specs.Rule as rules
use Rattle.band_base.specs.declared.refusal.Refusal.{Refusal}
use Rattle.band_base.specs.declared.refusal.Refusal.TheVariants as refusals
use Rattle.band_rules.specs.declared.reply.Reply.{Reply}
use Rattle.band_rules.specs.declared.reply.Reply.TheVariants as replies
use Rattle.band_rules.specs.Joined.{joiners_by}
use Rattle.band_rules.specs.Plan.{Plan, Refuse, Make, Act, plan, ◌>>=◌, object_for, asked_object, owner, lender, is_taken, refuse_if, naming}
use Rattle.band_rules.specs.State.{State, Tag, standing}
use Rattle.band_rules.specs.Step.{reply_of, perform}
use Rattle.band_script.specs.declared.call.Call.{Call}
use Rattle.band_script.specs.declared.call.Call.TheVariants as calls
use Rattle.band_player.specs.Kept.{Asks, Answered, TableVisitsJoiners}
use Rattle.band_player.specs.declared.table.Table.{Table}

abbrev one_if : Option (List ℕ) → ℕ
one_if joiner = if is_some joiner then 1 else 0

-- who joins is answered that it waits
joiner_waits : (planned : Plan) (state : State) → (joiners_by planned ≡ 0) ⊎ ((perform planned state).reply ≡ replies.Pending)
joiner_waits (Refuse refusal) state = inl refl
joiner_waits (Make made object) state = inl refl
joiner_waits (Act of (rules.Ask made size waker)) state = go (is_served size of.object.line) _ _ refl
  where
    go : (b : Bool) (served waits : Turn Tag) → waits.answer ≡ Pending → (one_if (cond b None (Some made.name)) ≡ 0) ⊎ (reply_of (cond b served waits).answer ≡ replies.Pending)
    go true served waits is = inl refl
    go false served waits is = inr (ap reply_of is)
joiner_waits (Act of rule) state = inl refl

-- where a plan is a refusal, or one that puts nobody into a line
none_for : {A : Type 0} (found : Result A Refusal) (f : A → Plan) → ((x : A) → joiners_by (f x) ≡ 0) → joiners_by (found >>= f) ≡ 0
none_for (Ok x) f none = none x
none_for (Err refusal) f none = refl

none_trying : (mode : Mode) (size : Kind → ℕ) (made of : List ℕ) (state : State) → joiners_by (naming mode size made of (rules.Try (tag mode made)) state) ≡ 0
none_trying mode size made of state =
    none_for (object_for (λ kind. is_of kind mode) (standing of state)) _ (λ one.
    none_for (refuse_if (is_taken (standing made state)) refusals.Taken) _ (λ free.
    none_for (refuse_if one.object.closed refusals.Closed) _ (λ opened. refl)))

-- only a call that makes a request puts one into a line
only_asking : (call : Call) (state : State) → Asks call ⊎ (joiners_by (plan call state) ≡ 0)
only_asking (calls.Ask made of n waker) state = inl tt
only_asking (calls.Lock made of waker) state = inl tt
only_asking (calls.Read made of waker) state = inl tt
only_asking (calls.Write made of waker) state = inl tt
only_asking (calls.Sem made n) state = inr (none_for (refuse_if (is_taken (standing made state)) refusals.Taken) _ (λ free. refl))
only_asking (calls.Mutex made) state = inr (none_for (refuse_if (is_taken (standing made state)) refusals.Taken) _ (λ free. refl))
only_asking (calls.Rw made n) state = inr (none_for (refuse_if (is_taken (standing made state)) refusals.Taken) _ (λ free. refl))
only_asking (calls.Poll name waker) state = inr (none_for (asked_object (standing name state)) _ (λ of. refl))
only_asking (calls.Drop name) state = inr (none_for (owner (standing name state)) _ (λ of. refl))
only_asking (calls.Try made of n) state = inr (none_trying Permit (λ kind. n) made of state)
only_asking (calls.TryLock made of) state = inr (none_trying Lock (λ kind. size_of kind Lock) made of state)
only_asking (calls.TryRead made of) state = inr (none_trying Read (λ kind. size_of kind Read) made of state)
only_asking (calls.TryWrite made of) state = inr (none_trying Write (λ kind. size_of kind Write) made of state)
only_asking (calls.Release of n) state = inr (none_for (object_for (λ kind. is_of kind Permit) (standing of state)) _ (λ one. none_for (refuse_if (overflows n one.object.line (total one.object.held)) refusals.Overflow) _ (λ fits. refl)))
only_asking (calls.Reduce of n) state = inr (none_for (object_for (λ kind. is_of kind Permit) (standing of state)) _ (λ one. none_for (refuse_if (owes_too_much n one.object.line) refusals.Debt) _ (λ fits. refl)))
only_asking (calls.Drain of n) state = inr (none_for (object_for (λ kind. is_of kind Permit) (standing of state)) _ (λ one. refl))
only_asking (calls.Close of) state = inr (none_for (object_for (λ kind. is_of kind Permit) (standing of state)) _ (λ one. refl))
only_asking (calls.Forget name) state = inr (none_for (lender Permit (standing name state)) _ (λ of. refl))
only_asking (calls.Split name made n) state = inr (none_for (lender Permit (standing name state)) _ (λ of. none_for (refuse_if (is_taken (standing made state)) refusals.Taken) _ (λ free. refl)))
only_asking (calls.Merge kept spent) state = inr (none_for (refuse_if (not (is_taken (standing kept state))) refusals.Unknown) _ (λ first. none_for (refuse_if (not (is_taken (standing spent state))) refusals.Unknown) _ (λ second.
    none_for (lender Permit (standing kept state)) _ (λ one. none_for (lender Permit (standing spent state)) _ (λ other.
    none_for (refuse_if (bytes_eq kept spent) refusals.Same) _ (λ apart. none_for (refuse_if (not (bytes_eq one.name other.name)) refusals.Other) _ (λ together. refl)))))))
only_asking (calls.Downgrade name) state = inr (none_for (lender Write (standing name state)) _ (λ of. refl))
only_asking (calls.Status name) state = inr (none_for (object_for (λ kind. true) (standing name state)) _ (λ it. refl))

at_most_one : (planned : Plan) → joiners_by planned ≤ 1
at_most_one (Act of rule) = go (is_some (rules.joiner rule of.object))
  where
    go : (b : Bool) → cond b 1 0 ≤ 1
    go true = omega arith
    go false = omega arith
at_most_one planned = omega arith

visited_by : {A P : Type 0} {n before after : ℕ} → A ⊎ (n ≡ 0) → (n ≡ 0) ⊎ P → n ≤ 1 → before ≤ after → (A → P → before < after) → before + n ≤ after
visited_by (inr none) joins most rose waits = omega (arith, none, rose)
visited_by (inl asks) (inl none) most rose waits = omega (arith, none, rose)
visited_by (inl asks) (inr waiting) most rose waits = let more = waits asks waiting in omega (arith, most, more)

-- what a call puts into a line was visited
pub visits_joiners : {E : Type 0} (call : Call) (result : Result Reply E) (old new : Table) {before after : ℕ} → IfOk result (λ reply. Answered call old reply new)
    → (Asks call → result ≡ Ok replies.Pending → before < after) → before ≤ after → OnOk result (TableVisitsJoiners call old before after)
visits_joiners call (Err error) old new answered waits rose = tt
visits_joiners call (Ok reply) old new answered waits rose = λ state stands.
    let replied = (answered.follows state stands).replied in
    visited_by (only_asking call state) (joiner_waits (plan call state) state) (at_most_one (plan call state)) rose (λ asks is. waits asks (ap (λ r. Ok r) (replied ∙ is)))
