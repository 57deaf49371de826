-- What a call comes to in a state: it is refused, it makes an object, or it does a rule to one. The refusals
-- are tested in the
-- order of the lines: unknown, kind, same, taken, finished, other, overflow, debt, closed.
use Rattle.std.specs.Prelude.{ℕ, ◌-◌, ◌^◌, Bool, true, false, not, if◌then◌else◌, List, Option, Some, None}
use Rattle.std.specs.Prelude.{Result, Ok, Err}
use Rattle.std.specs.Str.{bytes_eq}
use Rattle.band_base.specs.declared.refusal.Refusal.{Refusal}
use Rattle.band_base.specs.declared.refusal.Refusal.TheVariants.{Unknown, Kind, Same, Taken, Finished, Other}
use Rattle.band_base.specs.declared.refusal.Refusal.TheVariants.{Overflow, Debt, Closed}
use Rattle.band_balance.specs.Line.{total, overflows, owes_too_much}
use Rattle.band_balance.specs.Object.{Object, Mode, Permit, Lock, Read, Write, tag, is_of, size_of}
use Rattle.band_balance.specs.Object.{new_object}
use Rattle.band_balance.specs.Object as objects
use Rattle.band_balance.specs.Rule.{Rule}
use Rattle.band_balance.specs.Rule as rules
use Rattle.band_script.specs.declared.call.Call.{Call}
use Rattle.band_script.specs.declared.call.Call.TheVariants as calls
use Rattle.band_rules.specs.State.{State, Named, Tag, Standing, Absent, AnObject, ARequest, AHolding}
use Rattle.band_rules.specs.State.{standing}

pub data Plan : Type 0 where
  Refuse : (refusal : Refusal) → Plan
  Make : (made : List ℕ) (object : Object Tag) → Plan
  Act : (of : Named) (rule : Rule (List ℕ)) → Plan

-- what was found, or why the call is refused
infixl 10 ◌>>=◌
abbrev pub ◌>>=◌ : {A : Type 0} → Result A Refusal → (A → Plan) → Plan
(Ok found) >>= f = f found
(Err refusal) >>= f = Refuse refusal

-- an object of a kind of which this is asked
abbrev pub object_for : (objects.Kind → Bool) → Standing → Result Named Refusal
object_for offers Absent = Err Unknown
object_for offers (AnObject it) = if offers it.object.kind then Ok it else Err Kind
object_for offers (ARequest of entry) = Err Kind
object_for offers (AHolding of entry) = Err Kind

-- the object that a request was asked of
abbrev pub asked_object : Standing → Result Named Refusal
asked_object Absent = Err Unknown
asked_object (AnObject it) = Err Kind
asked_object (ARequest of entry) = Ok of
asked_object (AHolding of entry) = Err Finished

-- the object of a request or of what is held
abbrev pub owner : Standing → Result Named Refusal
owner Absent = Err Unknown
owner (AnObject it) = Err Kind
owner (ARequest of entry) = Ok of
owner (AHolding of entry) = Ok of

abbrev pub same_mode : Mode → Mode → Bool
same_mode Permit Permit = true
same_mode Lock Lock = true
same_mode Read Read = true
same_mode Write Write = true
same_mode mode other = false

-- the object of what is held in this mode
abbrev pub lender : Mode → Standing → Result Named Refusal
lender mode Absent = Err Unknown
lender mode (AnObject it) = Err Kind
lender mode (ARequest of entry) = Err Kind
lender mode (AHolding of entry) = if same_mode mode entry.name.mode then Ok of else Err Kind

-- what a name is stands for something
abbrev pub is_taken : Standing → Bool
is_taken Absent = false
is_taken standing = true

-- where the test fails
abbrev pub refuse_if : Bool → Refusal → Result (Unit {0}) Refusal
refuse_if true refusal = Err refusal
refuse_if false refusal = Ok tt

-- a rule on an open object of which this is asked, for so much by its kind, under a name that isn't live
abbrev pub naming : Mode → (objects.Kind → ℕ) → List ℕ → List ℕ → (ℕ → Rule (List ℕ)) → State → Plan
naming mode size made of rule state = do
  one ← object_for (λ kind. is_of kind mode) (standing of state)
  _ ← refuse_if (is_taken (standing made state)) Taken
  _ ← refuse_if one.object.closed Closed
  Act one (rule (size one.object.kind))

-- the most readers at a time, where a call doesn't say
abbrev pub most_readers : Option ℕ → ℕ
most_readers None = 2 ^ 63 - 1
most_readers (Some n) = n

abbrev pub plan : Call → State → Plan
plan (calls.Sem made n) state = do
  _ ← refuse_if (is_taken (standing made state)) Taken
  Make made (new_object objects.Semaphore n)
plan (calls.Mutex made) state = do
  _ ← refuse_if (is_taken (standing made state)) Taken
  Make made (new_object objects.Mutex 1)
plan (calls.Rw made n) state = do
  _ ← refuse_if (is_taken (standing made state)) Taken
  Make made (new_object (objects.ReaderWriter (most_readers n)) (most_readers n))
plan (calls.Ask made of n waker) state =
    naming Permit (λ kind. n) made of (λ n. rules.Ask (tag Permit made) n waker) state
plan (calls.Lock made of waker) state =
    naming Lock (λ kind. size_of kind Lock) made of (λ n. rules.Ask (tag Lock made) n waker) state
plan (calls.Read made of waker) state =
    naming Read (λ kind. size_of kind Read) made of (λ n. rules.Ask (tag Read made) n waker) state
plan (calls.Write made of waker) state =
    naming Write (λ kind. size_of kind Write) made of (λ n. rules.Ask (tag Write made) n waker) state
plan (calls.Poll name waker) state = do
  of ← asked_object (standing name state)
  Act of (rules.Poll name waker)
plan (calls.Drop name) state = do
  of ← owner (standing name state)
  Act of (rules.Drop name)
plan (calls.Try made of n) state =
    naming Permit (λ kind. n) made of (rules.Try (tag Permit made)) state
plan (calls.TryLock made of) state =
    naming Lock (λ kind. size_of kind Lock) made of (rules.Try (tag Lock made)) state
plan (calls.TryRead made of) state =
    naming Read (λ kind. size_of kind Read) made of (rules.Try (tag Read made)) state
plan (calls.TryWrite made of) state =
    naming Write (λ kind. size_of kind Write) made of (rules.Try (tag Write made)) state
plan (calls.Release of n) state = do
  one ← object_for (λ kind. is_of kind Permit) (standing of state)
  _ ← refuse_if (overflows n one.object.line (total one.object.held)) Overflow
  Act one (rules.Release n)
plan (calls.Reduce of n) state = do
  one ← object_for (λ kind. is_of kind Permit) (standing of state)
  _ ← refuse_if (owes_too_much n one.object.line) Debt
  Act one (rules.Reduce n)
plan (calls.Drain of n) state = do
  one ← object_for (λ kind. is_of kind Permit) (standing of state)
  Act one (rules.Drain n)
plan (calls.Close of) state = do
  one ← object_for (λ kind. is_of kind Permit) (standing of state)
  Act one rules.Close
plan (calls.Forget name) state = do
  of ← lender Permit (standing name state)
  Act of (rules.Forget name)
plan (calls.Split name made n) state = do
  of ← lender Permit (standing name state)
  _ ← refuse_if (is_taken (standing made state)) Taken
  Act of (rules.Split name made n)
plan (calls.Merge kept spent) state = do
  _ ← refuse_if (not (is_taken (standing kept state))) Unknown
  _ ← refuse_if (not (is_taken (standing spent state))) Unknown
  one ← lender Permit (standing kept state)
  other ← lender Permit (standing spent state)
  _ ← refuse_if (bytes_eq kept spent) Same
  _ ← refuse_if (not (bytes_eq one.name other.name)) Other
  Act one (rules.Merge kept spent)
plan (calls.Downgrade name) state = do
  of ← lender Write (standing name state)
  Act of (rules.Downgrade name)
plan (calls.Status name) state = do
  it ← object_for (λ kind. true) (standing name state)
  Act it rules.Status
