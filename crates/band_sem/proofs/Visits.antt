-- What each call pays for its visits.
use Rattle.std.proofs.Common.{◌≡◌, ℕ, suc, ◌+◌, ◌*◌, ◌≤◌, List, [], ◌∷◌, ◌++◌, length, Bool, refl, ap, ◌∙◌, arith, Some, None}
use Rattle.std.specs.Prelude.{ℤ, pos, int_le, nat_le, ◌-ℤ◌, Result, Ok, Err}
use Rattle.std.proofs.lemmas.Bool.{cond_both}
use Rattle.std.proofs.lemmas.List.{length-append, length-map}
use Rattle.band_base.specs.declared.poll.Poll.{Poll}
use Rattle.band_base.specs.declared.poll.Poll.TheVariants.{Ready, Pending}
use Rattle.band_base.specs.declared.poll.PollError.{PollError}
use Rattle.band_base.specs.declared.poll.PollError.TheVariants as errors
use Rattle.band_balance.specs.Line.{Entry, Waiting, Line, entry_of, settle_from, settle, give_back, available, entry_named, without_waiting, leave_waker, withdraw}
use Rattle.band_line.specs.Visits.{Visits}
use Rattle.band_sem.specs.Permit.{Permit}
use Rattle.band_sem.specs.Request.{Request, Stage, NotPolled, Joined, Finished}
use Rattle.band_sem.specs.Semaphore.{SemaphoreState, IsLike, Polls, PollsAt, FirstPoll, LaterPoll, is_slot, new_debts, given_back, released, reduced, shut, cancelled}
use Rattle.band_sem.specs.Visits.{FewVisits, PollVisits, Pays, burden}

-- who waits and whom to wake, together
abbrev counted : Line ℕ → ℕ
counted line = length line.waiting + length line.wakes

-- as a line settles, who waits no longer is woken
record CountsOn (waiting : List (Waiting ℕ)) (wakes : List ℕ) (line : Line ℕ) : Type 0 where
  all : counted line ≡ length waiting + length wakes
  more : length wakes ≤ length line.wakes

settle_from-counts : (free : ℤ) (waiting : List (Waiting ℕ)) (granted : List (Entry ℕ)) (wakes : List ℕ) → CountsOn waiting wakes (settle_from free waiting granted wakes)
settle_from-counts free [] granted wakes = record { all = refl; more = omega arith }
settle_from-counts free (first ∷ rest) granted wakes =
    cond_both (int_le (pos first.size) free) _ _ (CountsOn (first ∷ rest) wakes)
    (λ fits. one_less (settle_from-counts (free -ℤ pos first.size) rest (granted ++ entry_of first ∷ []) (wakes ++ first.waker ∷ [])) (length-append wakes (first.waker ∷ [])))
    (λ waits. record { all = refl; more = omega arith })
  where
    one_less : {line : Line ℕ} → CountsOn rest (wakes ++ first.waker ∷ []) line → length (wakes ++ first.waker ∷ []) ≡ length wakes + 1 → CountsOn (first ∷ rest) wakes line
    one_less h e = record { all = omega (arith, h.all, e); more = omega (arith, h.more, e) }

fewer_without : (is : ℕ → Bool) (waiting : List (Waiting ℕ)) → length (without_waiting is waiting) ≤ length waiting
fewer_without is [] = omega arith
fewer_without is (first ∷ rest) =
    cond_both (is first.name) _ _ (λ (left : List (Waiting ℕ)). length left ≤ suc (length rest))
    (λ meant. omega arith)
    (λ other. let h = fewer_without is rest in omega arith)

same_count : (is : ℕ → Bool) (waker : ℕ) (waiting : List (Waiting ℕ)) → length (leave_waker is waker waiting) ≡ length waiting
same_count is waker [] = refl
same_count is waker (first ∷ rest) =
    cond_both (is first.name) _ _ (λ (left : List (Waiting ℕ)). length left ≡ suc (length rest))
    (λ meant. refl)
    (λ other. ap suc (same_count is waker rest))

-- who waited and waits no longer is woken, or left
record Settles (old new : SemaphoreState) : Type 0 where
  all : counted new.line ≤ counted old.line
  more : length old.line.wakes ≤ length new.line.wakes

pays : (old new : SemaphoreState) {before after : ℕ} → Settles old new → FewVisits old new before after → Pays (burden old) (burden new) before after
pays old new settles few = record { no_fewer = few.no_fewer; no_more = omega (arith, settles.all, settles.more, few.no_more, few.no_debt) }

settles-like : (one : Line ℕ) {old new : SemaphoreState} → CountsOn old.line.waiting old.line.wakes one → new.line.waiting ≡ one.waiting → new.line.wakes ≡ one.wakes → Settles old new
settles-like one counts waiting wakes =
    let w = ap length waiting in
    let k = ap length wakes in
    record { all = omega (arith, counts.all, w, k); more = omega (arith, counts.more, k) }

pub pays-given_back : (n : ℕ) (old new : SemaphoreState) {before after : ℕ} → IsLike (given_back n old) new → FewVisits old new before after → Pays (burden old) (burden new) before after
pays-given_back n old new like few = pays old new (settles-like (give_back n old.line) (settle_from-counts _ old.line.waiting old.line.granted old.line.wakes) like.line.waiting like.line.wakes) few

pub pays-released : (n : ℕ) (old new : SemaphoreState) {before after : ℕ} → IsLike (released n old) new → FewVisits old new before after → Pays (burden old) (burden new) before after
pays-released n old new like few = pays old new (settles-like (give_back n old.line) (settle_from-counts _ old.line.waiting old.line.granted old.line.wakes) like.line.waiting like.line.wakes) few

-- without a request fewer wait
settles-without : (old : SemaphoreState) (slot : ℕ) (found : _) {new : SemaphoreState} → new.line.waiting ≡ (settle (withdraw found (is_slot slot) old.line)).waiting
    → new.line.wakes ≡ (settle (withdraw found (is_slot slot) old.line)).wakes → Settles old new
settles-without old slot (Some granted) waiting wakes = settles-like _ (settle_from-counts _ old.line.waiting _ old.line.wakes) waiting wakes
settles-without old slot None waiting wakes =
    let counts = settle_from-counts old.line.free (without_waiting (is_slot slot) old.line.waiting) old.line.granted old.line.wakes in
    let fewer = fewer_without (is_slot slot) old.line.waiting in
    let w = ap length waiting in
    let k = ap length wakes in
    record { all = omega (arith, counts.all, w, k, fewer); more = omega (arith, counts.more, k) }

pub pays-cancelled : (stage : Stage) (old new : SemaphoreState) {before after : ℕ} → IsLike (cancelled stage old) new → FewVisits old new before after → Pays (burden old) (burden new) before after
pays-cancelled NotPolled old new like few =
    let w = ap length like.line.waiting in
    let k = ap length like.line.wakes in
    pays old new (record { all = omega (arith, w, k); more = omega (arith, k) }) few
pays-cancelled (Joined slot) old new like few = pays old new (settles-without old slot (entry_named (is_slot slot) old.line.granted) like.line.waiting like.line.wakes) few
pays-cancelled Finished old new like few =
    let w = ap length like.line.waiting in
    let k = ap length like.line.wakes in
    pays old new (record { all = omega (arith, w, k); more = omega (arith, k) }) few

-- at most two visits, where nobody joins, and where one does
pays-as_many : (old new : SemaphoreState) {before after : ℕ} → burden new ≡ burden old → before ≤ after → after ≤ before + 2 → Pays (burden old) (burden new) before after
pays-as_many old new same no_fewer no_more = record { no_fewer = no_fewer; no_more = omega (arith, same, no_more) }

pays-one : (old new : SemaphoreState) {before after : ℕ} → burden new ≡ burden old + 1 → before ≤ after → after ≤ before + 2 → Pays (burden old) (burden new) before after
pays-one old new more no_fewer no_more = record { no_fewer = no_fewer; no_more = omega (arith, more, no_more) }

pub pays-none : (old new : SemaphoreState) {before after : ℕ} → burden new ≡ burden old → after ≡ before → Pays (burden old) (burden new) before after
pays-none old new same stays = pays-as_many old new same (omega (arith, stays)) (omega (arith, stays))

few_debts : (n : ℕ) (line : Line ℕ) → new_debts n line ≤ 1
few_debts n line = cond_both (nat_le n (available line)) 0 1 (λ (d : ℕ). d ≤ 1) (λ there. omega arith) (λ more. omega arith)

pub pays-reduced : (n : ℕ) (old new : SemaphoreState) {before after : ℕ} → new ≡ reduced n old → Visits 0 (2 * new_debts n old.line) before after → Pays (burden old) (burden new) before after
pays-reduced n old new same visits =
    let more = ap burden same in
    let few = few_debts n old.line in
    record { no_fewer = omega (arith, visits.no_fewer); no_more = omega (arith, more, few, visits.no_more) }

-- a poll
module _ (request request' : Request) (waker : ℕ) (old new : SemaphoreState) {before after : ℕ} where
  first-pays : (result : Result (Poll Permit) PollError) → FirstPoll request waker old result request' new → PollVisits NotPolled result before after → Pays (burden old) (burden new) before after
  first-pays (Ok (Ready permit)) polls visits = pays-none old new (ap burden polls.3) visits
  first-pays (Ok Pending) polls visits =
      let one : burden new ≡ burden old + 1 = ap burden polls.2.2 ∙ longer (length-append old.line.waiting _) in
      pays-one old new one (omega (arith, visits.no_fewer)) visits.no_more
    where
      longer : {n : ℕ} → n ≡ length old.line.waiting + 1 → n + old.debts ≡ burden old + 1
      longer e = omega (arith, e)
  first-pays (Err errors.NoMemory) polls visits = pays-none old new (ap burden polls.2) visits
  first-pays (Err errors.Closed) polls visits = pays-none old new (ap burden polls.1) visits
  first-pays (Err error) polls visits = absurd polls

  later-pays : (slot : ℕ) (result : Result (Poll Permit) PollError) → LaterPoll slot request waker old result request' new → Visits 1 2 before after → Pays (burden old) (burden new) before after
  later-pays slot (Ok (Ready permit)) polls visits = pays-as_many old new (ap burden polls.3) (omega (arith, visits.no_fewer)) visits.no_more
  later-pays slot (Ok Pending) polls visits =
      pays-as_many old new (ap burden polls.2 ∙ ap (λ n. n + old.debts) (same_count (is_slot slot) waker old.line.waiting)) (omega (arith, visits.no_fewer)) visits.no_more
  later-pays slot (Err errors.Closed) polls visits = pays-as_many old new (ap burden polls.1) (omega (arith, visits.no_fewer)) visits.no_more
  later-pays slot (Err error) polls visits = absurd polls

  pub pays-polled : (result : Result (Poll Permit) PollError) → Polls request waker old result request' new → PollVisits request.stage result before after → Pays (burden old) (burden new) before after
  pays-polled result polls visits = at request.stage polls visits
    where
      at : (stage : Stage) → PollsAt stage request waker old result request' new → PollVisits stage result before after → Pays (burden old) (burden new) before after
      at NotPolled polls visits = first-pays result polls visits
      at (Joined slot) polls visits = later-pays slot result polls visits
      at Finished polls visits = pays-none old new (ap burden polls.1) visits
