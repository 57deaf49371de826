-- What a call plans it may do: the one walk over all calls.
use Rattle.std.proofs.Common.{◌≡◌, ℕ, ◌<◌, ◌≤◌, pos, ◌+ℤ◌, ap, ◌∙◌, Bool, true, false, not, cond, List, ◌++◌, Option, Some, None, IfSome, ◌&&◌, ◌⊎◌, inl, inr, Result, Ok, Err, refl, sym, subst, arith}
use Rattle.std.specs.List.{AllByRecursion}
use Rattle.std.specs.Option.{option_or}
use Rattle.std.specs.Prelude.{IsSome}
use Rattle.std.specs.Str.{bytes_eq}
use Rattle.std.proofs.lemmas.Bool.{ltb-true, not-false}
use Rattle.std.proofs.lemmas.Int.{ints}
use Rattle.band_base.specs.declared.refusal.Refusal.{Refusal}
use Rattle.band_base.specs.declared.refusal.Refusal.TheVariants as refusals
use Rattle.band_balance.specs.Laws.{IsWithin, HasAShare, permits}
use Rattle.band_balance.specs.Line.{Entry, total, entry_named, drained, is_served, overflows, owes_too_much, u64_max}
use Rattle.band_balance.specs.Object.{Object, Kind, Semaphore, Mutex, ReaderWriter, Mode, Permit, Lock, Read, Write, tag, is_of, size_of, new_object, size_in, asked}
use Rattle.band_balance.specs.Rule.{Rule, Fits, Holds, IsAllowed, act, joiner, brought, removed, has_name as is_tag}
use Rattle.band_balance.specs.Rule as rules
use Rattle.band_balance.proofs.Requests.{all-found, entry_named-append}
use Rattle.band_balance.proofs.Shares.{both_of_each}
use Rattle.band_balance.proofs.Rules.{bytes_told, NewObject, new_semaphore_is, new_mutex_is, new_reader_writer_is, within_new}
use Rattle.band_script.specs.Call.{ForReaders}
use Rattle.band_script.specs.Number.{is_number}
use Rattle.band_script.specs.declared.call.Call.{Call}
use Rattle.band_script.specs.declared.call.Call.TheVariants as calls
use Rattle.band_rules.specs.Bounds.{HasNumbers}
use Rattle.band_rules.specs.Order.{NamesDiffer, Sound}
use Rattle.band_rules.specs.Plan.{Plan, Refuse, Make, Act, ◌>>=◌, object_for, asked_object, owner, same_mode, lender, is_taken, refuse_if, naming, most_readers, plan}
use Rattle.band_rules.specs.State.{State, Named, Tag, Standing, Absent, AnObject, ARequest, AHolding, standing}
use Rattle.band_rules.specs.declared.reply.Reply.{Reply}
use Rattle.band_rules.specs.declared.reply.Reply.TheVariants as replies
use Rattle.band_rules.specs.Closing.{closed_by}
use Rattle.band_rules.specs.Permits.{brought_by, removed_by, held_of}
use Rattle.band_rules.specs.Step.{reply_of}
use Rattle.band_rules.specs.Woken.{may_grant, closes}
use Rattle.band_rules.proofs.States.{IsAt, each_is_at, all_at, same_named, Found, found, IsAbsent, absent}

-- what a call and its reply count for is what its plan brings and takes away, and whether it closes
pub record Counts (call : Call) (state : State) (reply : Reply) (to : List ℕ) (came gone : ℕ) (shut : Bool) : Type 0 where
  pub brings : (name : List ℕ) → brought_by name call reply ≡ cond (bytes_eq name to) came 0
  pub removes : (name : List ℕ) → removed_by name state call reply ≡ cond (bytes_eq name to) gone 0
  pub closes : (name : List ℕ) → closed_by name call reply ≡ cond (bytes_eq name to) shut false

-- a call that counts for nothing, whatever its reply
abbrev CountsNothing : Call → State → Type 0
CountsNothing call state = (name : List ℕ) (reply : Reply) → (brought_by name call reply ≡ 0) × (removed_by name state call reply ≡ 0) × (closed_by name call reply ≡ false)

nothing : (b : Bool) → ◌≡◌ {A = ℕ} 0 (cond b 0 0)
nothing true = refl
nothing false = refl

never : (b : Bool) → false ≡ cond b false false
never true = refl
never false = refl

just_there : (b : Bool) → b ≡ cond b true false
just_there true = refl
just_there false = refl

-- a new object under a name that is absent
pub record MayMake (call : Call) (state : State) (made : List ℕ) (object : Object Tag) : Type 0 where
  pub none : AllByRecursion (IsAbsent made) state
  pub new : NewObject bytes_eq object
  pub not_closed : object.closed ≡ false
  pub lets : ForReaders call → HasAShare object.kind
  pub within : HasNumbers call → IsWithin object
  pub count : ℕ
  pub made_with : permits object ≡ pos count
  pub counts : Counts call state replies.Done made count 0 false

-- an allowed rule to an object of the state, which puts no name into its line but one that is absent
pub record MayAct (call : Call) (state : State) (of : Named) (rule : Rule (List ℕ)) : Type 0 where
  pub at : IsAt of state
  pub allowed : IsAllowed bytes_eq rule of.object
  pub gives : rules.may_grant rule ≡ may_grant call
  pub ends : rules.closes rule ≡ closes call
  pub joins : IfSome (joiner rule of.object) (λ name. AllByRecursion (IsAbsent name) state)
  pub counts : Counts call state (reply_of (act bytes_eq rule of.object).answer) of.name (brought rule) (removed bytes_eq rule of.object) (rules.closes rule)

abbrev pub IsPlanned : Call → State → Plan → Type 0
IsPlanned call state (Refuse refusal) = Unit {0}
IsPlanned call state (Make made object) = MayMake call state made object
IsPlanned call state (Act of rule) = MayAct call state of rule

-- what refuses a name that is live, or that isn't
abbrev pub if_live : Standing → Result (Unit {0}) Refusal
if_live standing = refuse_if (not (is_taken standing)) refusals.Unknown

abbrev pub if_unused : Standing → Result (Unit {0}) Refusal
if_unused standing = refuse_if (is_taken standing) refusals.Taken

-- what holds of each refusal, and of what follows each find
module _ (call : Call) (state : State) where
  for_object : (offers : Kind → Bool) (standing : Standing) (f : Named → Plan)
      → ((it : Named) → standing ≡ AnObject it → offers it.object.kind ≡ true → IsPlanned call state (f it)) → IsPlanned call state (object_for offers standing >>= f)
  for_object offers (AnObject it) f p = go (offers it.object.kind) refl
    where
      go : (b : Bool) → offers it.object.kind ≡ b → IsPlanned call state (cond b (Ok it) (Err refusals.Kind) >>= f)
      go true is = p it refl is
      go false other = tt
  for_object offers standing f p = tt

  for_asked : (standing : Standing) (f : Named → Plan) → ((of : Named) (entry : Entry Tag) → standing ≡ ARequest of entry → IsPlanned call state (f of))
      → IsPlanned call state (asked_object standing >>= f)
  for_asked (ARequest of entry) f p = p of entry refl
  for_asked standing f p = tt

  for_owner : (standing : Standing) (f : Named → Plan) → ((of : Named) (entry : Entry Tag) → standing ≡ ARequest of entry → IsPlanned call state (f of))
      → ((of : Named) (entry : Entry Tag) → standing ≡ AHolding of entry → IsPlanned call state (f of)) → IsPlanned call state (owner standing >>= f)
  for_owner (ARequest of entry) f p q = p of entry refl
  for_owner (AHolding of entry) f p q = q of entry refl
  for_owner standing f p q = tt

  for_lender : (mode : Mode) (standing : Standing) (f : Named → Plan)
      → ((of : Named) (entry : Entry Tag) → standing ≡ AHolding of entry → same_mode mode entry.name.mode ≡ true → IsPlanned call state (f of)) → IsPlanned call state (lender mode standing >>= f)
  for_lender mode (AHolding of entry) f p = go (same_mode mode entry.name.mode) refl
    where
      go : (b : Bool) → same_mode mode entry.name.mode ≡ b → IsPlanned call state (cond b (Ok of) (Err refusals.Kind) >>= f)
      go true same = p of entry refl same
      go false other = tt
  for_lender mode standing f p = tt

  for_live : (standing : Standing) (plan : Plan) → IsPlanned call state plan → IsPlanned call state (if_live standing >>= λ found. plan)
  for_live Absent plan p = tt
  for_live standing plan p = p

  for_unused : (standing : Standing) (plan : Plan) → (standing ≡ Absent → IsPlanned call state plan) → IsPlanned call state (if_unused standing >>= λ found. plan)
  for_unused Absent plan p = p refl
  for_unused standing plan p = tt

  for_test : (test : Bool) (refusal : Refusal) (plan : Plan) → (test ≡ false → IsPlanned call state plan) → IsPlanned call state (refuse_if test refusal >>= λ found. plan)
  for_test true refusal plan p = tt
  for_test false refusal plan p = p refl

-- modes that pass the test are one
pub modes_same : (mode other : Mode) → same_mode mode other ≡ true → mode ≡ other
modes_same Permit Permit same = refl
modes_same Lock Lock same = refl
modes_same Read Read same = refl
modes_same Write Write same = refl
modes_same mode other same = cc

-- who is found in one of two lists is found in both together
some_among : {N : Type 0} (is : N → Bool) (xs ys : List (Entry N)) → IsSome (entry_named is xs) ⊎ IsSome (entry_named is ys) → IsSome (entry_named is (xs ++ ys))
some_among {N} is xs ys either = subst IsSome (sym (entry_named-append is xs ys)) (go (entry_named is xs) (entry_named is ys) either)
  where
    go : (o p : Option (Entry N)) → IsSome o ⊎ IsSome p → IsSome (option_or o p)
    go (Some e) p either = refl
    go None p (inr some) = some
    go None p (inl some) = cc

found_some : {A : Type 0} (o : Option A) (x : A) → o ≡ Some x → IsSome o
found_some None x is = cc
found_some (Some y) x is = refl

-- who asks, if it waits, joins under its name
joiner_is : (b : Bool) (P : List ℕ → Type 0) (name : List ℕ) → P name → IfSome (cond b None (Some name)) P
joiner_is true P name p = tt
joiner_is false P name p = p

-- what an object is made with
number_fits : (n : ℕ) → (is_number n && true) ≡ true → n ≤ u64_max
number_fits n small = grind arith

most_fits : (n : Option ℕ) (made : List ℕ) → HasNumbers (calls.Rw made n) → most_readers n ≤ u64_max
most_fits None made small = omega arith
most_fits (Some n) made small = number_fits n small

pub some_readers : (n : Option ℕ) (made : List ℕ) → ForReaders (calls.Rw made n) → 0 < most_readers n
some_readers None made some = omega arith
some_readers (Some n) made some = ltb-true 0 n some

all_free : (n : ℕ) → pos n +ℤ pos 0 ≡ pos n
all_free n = omega (arith, ints)

any_size : (n : ℕ) (kind : Kind) → is_of kind Permit ≡ true → Fits kind Permit n
any_size n kind offers = offers

-- nothing is counted of a call, and its reply
uncounted : (call : Call) {state : State} (reply : Reply) (to : List ℕ) → CountsNothing call state → Counts call state reply to 0 0 false
uncounted call reply to none = record {
  brings = λ name. (none name reply).0 ∙ nothing (bytes_eq name to);
  removes = λ name. (none name reply).1 ∙ nothing (bytes_eq name to);
  closes = λ name. (none name reply).2 ∙ never (bytes_eq name to);
}

acts : (call : Call) {state : State} {of : Named} (rule : Rule (List ℕ)) → IsAt of state × Sound of → IsAllowed bytes_eq rule of.object
    → (rules.may_grant rule ≡ may_grant call) × (rules.closes rule ≡ closes call)
    → IfSome (joiner rule of.object) (λ name. AllByRecursion (IsAbsent name) state)
    → Counts call state (reply_of (act bytes_eq rule of.object).answer) of.name (brought rule) (removed bytes_eq rule of.object) (rules.closes rule) → IsPlanned call state (Act of rule)
acts call rule known allowed gives joins counts = record { at = known.0; allowed = allowed; gives = gives.0; ends = gives.1; joins = joins; counts = counts }

module _ (state : State) (differ : NamesDiffer state) (sound : AllByRecursion Sound state) where
  -- what each object of the state is
  abbrev Known : Named → Type 0
  Known named = IsAt named state × Sound named

  stands : (name : List ℕ) {place : Standing} → standing name state ≡ place → Found Known name place
  stands name is = subst (Found Known name) is (found Known name state (both_of_each _ _ _ (λ named at is. (at, is)) state (each_is_at state differ) sound))

  holds : (mode : Mode) (name : List ℕ) (of : Named) (entry : Entry Tag) → standing name state ≡ AHolding of entry → same_mode mode entry.name.mode ≡ true → Holds bytes_eq mode name of.object
  holds mode name of entry is same =
      let it = stands name is in
      record {
        entry = entry;
        there = it.1;
        fits = subst (λ m. Fits of.object.kind m entry.size) (sym (modes_same mode entry.name.mode same)) (all-found _ (is_tag bytes_eq name) of.object.held entry it.0.1.each_held it.1);
      }

  making : (call : Call) (made : List ℕ) (object : Object Tag) → NewObject bytes_eq object → object.closed ≡ false → (ForReaders call → HasAShare object.kind) → (HasNumbers call → IsWithin object)
      → (count : ℕ) → permits object ≡ pos count → Counts call state replies.Done made count 0 false → IsPlanned call state (if_unused (standing made state) >>= λ found. Make made object)
  making call made object new not_closed lets within count made_with counts =
      for_unused call state (standing made state) _
      (λ none. record { none = absent made state none; new = new; not_closed = not_closed; lets = lets; within = within; count = count; made_with = made_with; counts = counts })

  module _ (call : Call) (mode : Mode) (size : Kind → ℕ) (fits : (kind : Kind) → is_of kind mode ≡ true → Fits kind mode (size kind)) (keeps : (false ≡ may_grant call) × (false ≡ closes call))
      (none : CountsNothing call state) where
    asking : (made of : List ℕ) (waker : ℕ) → IsPlanned call state (naming mode size made of (λ n. rules.Ask (tag mode made) n waker) state)
    asking made of waker =
        for_object call state (λ kind. is_of kind mode) (standing of state) _ (λ it is offers.
        for_unused call state (standing made state) _ (λ free.
        for_test call state it.object.closed refusals.Closed _ (λ not_closed.
        let gone = absent made state free in
        let known = (stands of is).0 in
        acts call (rules.Ask (tag mode made) (size it.object.kind) waker) known
        (record { fresh = (all_at (IsAbsent made) known.0 gone).fresh; not_closed = not_closed; fits = fits it.object.kind offers }) keeps
        (joiner_is (is_served (size it.object.kind) it.object.line) (λ name. AllByRecursion (IsAbsent name) state) made gone) (uncounted call _ it.name none))))

    trying : (made of : List ℕ) → IsPlanned call state (naming mode size made of (rules.Try (tag mode made)) state)
    trying made of =
        for_object call state (λ kind. is_of kind mode) (standing of state) _ (λ it is offers.
        for_unused call state (standing made state) _ (λ free.
        for_test call state it.object.closed refusals.Closed _ (λ not_closed.
        let known = (stands of is).0 in
        acts call (rules.Try (tag mode made) (size it.object.kind)) known
        (record { fresh = (all_at (IsAbsent made) known.0 (absent made state free)).fresh; not_closed = not_closed; fits = fits it.object.kind offers }) keeps tt
        (uncounted call _ it.name none))))

  pub planned : (call : Call) → IsPlanned call state (plan call state)
  planned (calls.Sem made n) =
      making _ made (new_object Semaphore n) (new_semaphore_is bytes_eq n) refl (λ for. tt) (λ small. within_new Semaphore n (number_fits n small))
      n (all_free n) (record { brings = λ name. refl; removes = λ name. nothing (bytes_eq name made); closes = λ name. never (bytes_eq name made) })
  planned (calls.Mutex made) =
      making _ made (new_object Mutex 1) (new_mutex_is bytes_eq) refl (λ for. omega arith) (λ small. within_new Mutex 1 (omega arith))
      1 (all_free 1) (record { brings = λ name. refl; removes = λ name. nothing (bytes_eq name made); closes = λ name. never (bytes_eq name made) })
  planned (calls.Rw made n) =
      let most = most_readers n in
      making _ made (new_object (ReaderWriter most) most) (new_reader_writer_is bytes_eq most) refl (some_readers n made) (λ small. within_new (ReaderWriter most) most (most_fits n made small))
      most (all_free most) (record { brings = λ name. refl; removes = λ name. nothing (bytes_eq name made); closes = λ name. never (bytes_eq name made) })
  planned (calls.Ask made of n waker) = asking _ Permit (λ kind. n) (any_size n) (refl, refl) (λ name reply. (refl, refl, refl)) made of waker
  planned (calls.Lock made of waker) = asking _ Lock (λ kind. size_of kind Lock) (λ kind offers. (offers, refl)) (refl, refl) (λ name reply. (refl, refl, refl)) made of waker
  planned (calls.Read made of waker) = asking _ Read (λ kind. size_of kind Read) (λ kind offers. (offers, refl)) (refl, refl) (λ name reply. (refl, refl, refl)) made of waker
  planned (calls.Write made of waker) = asking _ Write (λ kind. size_of kind Write) (λ kind offers. (offers, refl)) (refl, refl) (λ name reply. (refl, refl, refl)) made of waker
  planned (calls.Try made of n) = trying _ Permit (λ kind. n) (any_size n) (refl, refl) (λ name reply. (refl, refl, refl)) made of
  planned (calls.TryLock made of) = trying _ Lock (λ kind. size_of kind Lock) (λ kind offers. (offers, refl)) (refl, refl) (λ name reply. (refl, refl, refl)) made of
  planned (calls.TryRead made of) = trying _ Read (λ kind. size_of kind Read) (λ kind offers. (offers, refl)) (refl, refl) (λ name reply. (refl, refl, refl)) made of
  planned (calls.TryWrite made of) = trying _ Write (λ kind. size_of kind Write) (λ kind offers. (offers, refl)) (refl, refl) (λ name reply. (refl, refl, refl)) made of
  planned (calls.Poll name waker) =
      for_asked _ _ (standing name state) _ (λ of entry is.
      let it = stands name is in
      acts _ (rules.Poll name waker) it.0 (found_some _ entry it.1) (refl, refl) tt (uncounted _ _ of.name (λ other reply. (refl, refl, refl))))
  planned (calls.Drop name) =
      for_owner _ _ (standing name state) _
      (λ of entry is.
      let it = stands name is in
      acts _ (rules.Drop name) it.0 (some_among (is_tag bytes_eq name) (asked of.object) of.object.held (inl (found_some _ entry it.1))) (refl, refl) tt
      (uncounted _ _ of.name (λ other reply. (refl, refl, refl))))
      (λ of entry is.
      let it = stands name is in
      acts _ (rules.Drop name) it.0 (some_among (is_tag bytes_eq name) (asked of.object) of.object.held (inr (found_some _ entry it.1))) (refl, refl) tt
      (uncounted _ _ of.name (λ other reply. (refl, refl, refl))))
  planned (calls.Release of n) =
      for_object _ _ (λ kind. is_of kind Permit) (standing of state) _ (λ it is offers.
      for_test _ _ (overflows n it.object.line (total it.object.held)) refusals.Overflow _ (λ fits.
      let known = stands of is in
      acts _ (rules.Release n) known.0 (offers, fits) (refl, refl) tt
      (subst (λ to. Counts (calls.Release of n) state replies.Done to n 0 false) (bytes_told.equal of it.name known.1) (record { brings = λ name. refl; removes = λ name. nothing (bytes_eq name of); closes = λ name. never (bytes_eq name of) }))))
  planned (calls.Reduce of n) =
      for_object _ _ (λ kind. is_of kind Permit) (standing of state) _ (λ it is offers.
      for_test _ _ (owes_too_much n it.object.line) refusals.Debt _ (λ fits.
      let known = stands of is in
      acts _ (rules.Reduce n) known.0 (offers, fits) (refl, refl) tt
      (subst (λ to. Counts (calls.Reduce of n) state replies.Done to 0 n false) (bytes_told.equal of it.name known.1) (record { brings = λ name. nothing (bytes_eq name of); removes = λ name. refl; closes = λ name. never (bytes_eq name of) }))))
  planned (calls.Drain of n) =
      for_object _ _ (λ kind. is_of kind Permit) (standing of state) _ (λ it is offers.
      let known = stands of is in
      let count = drained n it.object.line in
      acts _ (rules.Drain n) known.0 offers (refl, refl) tt
      (subst (λ to. Counts (calls.Drain of n) state (replies.Drained count) to 0 count false) (bytes_told.equal of it.name known.1)
      (record { brings = λ name. nothing (bytes_eq name of); removes = λ name. refl; closes = λ name. never (bytes_eq name of) })))
  planned (calls.Close of) =
      for_object _ _ (λ kind. is_of kind Permit) (standing of state) _ (λ it is offers.
      let known = stands of is in
      acts _ rules.Close known.0 offers (refl, refl) tt
      (subst (λ to. Counts (calls.Close of) state replies.Done to 0 0 true) (bytes_told.equal of it.name known.1)
      (record { brings = λ name. nothing (bytes_eq name of); removes = λ name. nothing (bytes_eq name of); closes = λ name. just_there (bytes_eq name of) })))
  planned (calls.Forget name) =
      for_lender _ _ Permit (standing name state) _ (λ of entry is same.
      let it = stands name is in
      acts _ (rules.Forget name) it.0 (holds Permit name of entry is same) (refl, refl) tt
      (record { brings = λ other. nothing (bytes_eq other of.name); removes = λ other. ap (held_of other) is ∙ ap (λ size. cond (bytes_eq other of.name) size 0) (sym (ap size_in it.1)); closes = λ other. never (bytes_eq other of.name) }))
  planned (calls.Split name made n) =
      for_lender _ _ Permit (standing name state) _ (λ of entry is same.
      for_unused _ _ (standing made state) _ (λ none.
      let known = (stands name is).0 in
      acts _ (rules.Split name made n) known (holds Permit name of entry is same, (all_at (IsAbsent made) known.0 (absent made state none)).fresh) (refl, refl) tt
      (uncounted _ _ of.name (λ other reply. (refl, refl, refl)))))
  planned (calls.Merge kept spent) =
      for_live _ _ (standing kept state) _ (for_live _ _ (standing spent state) _
      (for_lender _ _ Permit (standing kept state) _ (λ one entry is same.
      for_lender _ _ Permit (standing spent state) _ (λ other more also same_too.
      for_test _ _ (bytes_eq kept spent) refusals.Same _ (λ apart.
      for_test _ _ (not (bytes_eq one.name other.name)) refusals.Other _ (λ together.
      let known = (stands kept is).0 in
      let one_is : other ≡ one = sym (same_named one other known.0 (stands spent also).0.0 (not-false _ together)) in
      acts _ (rules.Merge kept spent) known (
        holds Permit kept one entry is same,
        subst (λ (of : Named). Holds bytes_eq Permit spent of.object) one_is (holds Permit spent other more also same_too),
        apart,
      ) (refl, refl) tt (uncounted _ _ one.name (λ other reply. (refl, refl, refl)))))))))
  planned (calls.Downgrade name) =
      for_lender _ _ Write (standing name state) _ (λ of entry is same.
      acts _ (rules.Downgrade name) (stands name is).0 (holds Write name of entry is same) (refl, refl) tt (uncounted _ _ of.name (λ other reply. (refl, refl, refl))))
  planned (calls.Status name) =
      for_object _ _ (λ kind. true) (standing name state) _ (λ it is offers. acts _ rules.Status (stands name is).0 tt (refl, refl) tt (uncounted _ _ it.name (λ other reply. (refl, refl, refl))))
