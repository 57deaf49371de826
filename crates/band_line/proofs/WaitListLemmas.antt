-- Lemmas on what a contract sees of a wait list, for callers.
use Rattle.std.proofs.Common.{◌≡◌, ◌≢◌, refl, ℕ, List, [], ◌∷◌, ◌++◌, ◌+◌, length, drop, slice_get, arith, ap, sym, subst, ◌∙◌, Option, Some, None, is_some, IsSome, Bool, true, false, not, nat_eq}
use Rattle.std.specs.Prelude.{◌==◌, ◌||◌}
use Rattle.std.specs.List.{IsDistinct, AllByRecursion}
use Rattle.std.proofs.lemmas.Bool.Decides.{nat_tests}
use Rattle.band_line.specs.Arena.{occupied_len, next_slot}
use Rattle.band_line.specs.WaitList.{WaitListState, IsWaitList, empty_list, Joins, pushed_front, pushed_back, IsWritten, IsUnlinked, waiter_at, with_waiter, detached, unlinked, AnswersLeaving}
use Rattle.std.specs.Borrow.{MutBor}
use Rattle.std.specs.Fn.{Once}
use Rattle.band_line.proofs.ArenaMaps.{value_at-with_value, value_at-with_value_other, occupied_len-with_value}
use Rattle.band_line.proofs.Linking.{is_in, is_in_here, is_in_other, is_in_push, is_in_push_other, without, without-IsOff, IsOff-is_in}

off_first : (id : ℕ) (rest : List ℕ) → AllByRecursion (λ other. nat_eq id other ≡ false) rest → without id rest ≡ rest
off_first id [] off = refl
off_first id (x ∷ xs) off =
    let passes : not (x == id) ≡ true = let apart = off.0 in grind (arith, nat_tests) in
    rw passes (ap (λ ys. x ∷ ys) (off_first id xs off.1))

without-first : (id : ℕ) (rest : List ℕ) → IsDistinct nat_eq (id ∷ rest) → without id (id ∷ rest) ≡ rest
unfolding IsDistinct
without-first id rest once =
    let stops : not (id == id) ≡ false = grind (arith, nat_tests) in
    rw stops (off_first id rest once.0)

is_in-without : (id : ℕ) (ids : List ℕ) → is_in id (without id ids) ≡ false
is_in-without id [] = refl
is_in-without id (x ∷ xs) = by_first (x == id) refl (is_in-without id xs)
  where
    by_first : (same : Bool) → (x == id) ≡ same → is_in id (without id xs) ≡ false → is_in id (without id (x ∷ xs)) ≡ false
    by_first true e rest = rw (ap not e) rest
    by_first false e rest = rw (ap not e) (rw e rest)

is_in-without_other : (id other : ℕ) (ids : List ℕ) → other ≢ id → is_in other (without id ids) ≡ is_in other ids
is_in-without_other id other [] differs = refl
is_in-without_other id other (x ∷ xs) differs = by_first (x == id) refl (is_in-without_other id other xs differs)
  where
    by_first : (same : Bool) → (x == id) ≡ same → is_in other (without id xs) ≡ is_in other xs → is_in other (without id (x ∷ xs)) ≡ is_in other (x ∷ xs)
    by_first true e rest =
        let elsewhere : (x == other) ≡ false = grind (arith, nat_tests) in
        rw (ap not e) (rw elsewhere rest)
    by_first false e rest = rw (ap not e) (ap (λ b. x == other || b) rest)

-- one is taken out of a list, in which it stands once
length-without : (id : ℕ) (ids : List ℕ) → IsDistinct nat_eq ids → is_in id ids ≡ true → length (without id ids) + 1 ≡ length ids
unfolding IsDistinct
length-without id [] once here = absurd (cc)
length-without id (x ∷ xs) once here = by_first (x == id) refl (length-without id xs once.1)
  where
    by_first : (same : Bool) → (x == id) ≡ same → (is_in id xs ≡ true → length (without id xs) + 1 ≡ length xs) → length (without id (x ∷ xs)) + 1 ≡ length (x ∷ xs)
    by_first true e rest =
        let same : x ≡ id = grind (arith, nat_tests) in
        let off : AllByRecursion (λ other. nat_eq id other ≡ false) xs = subst (λ k. AllByRecursion (λ other. nat_eq k other ≡ false) xs) same once.0 in
        rw (ap not e, off_first id xs off) (omega arith)
    by_first false e rest =
        let others = rest (rw e at here) in
        rw (ap not e) (omega arith)

-- nobody is linked in a new list
pub nobody_linked : {T : Type 0} → IsWaitList (empty_list {T = T})
unfolding IsDistinct
nobody_linked = record { here = λ id linked. absurd (cc); once = tt }

pub after_write : {T : Type 0} {old new : WaitListState T} {id : ℕ} {last : T}
    → IsSome (waiter_at id old) → new ≡ with_waiter id last old → IsWritten id last old new
after_write {T} {old} {new} {id} {last} here is = record {
  state = is;
  value = ap (waiter_at id) is ∙ value_at-with_value old.nodes id last here;
  others = λ other differs. ap (waiter_at other) is ∙ value_at-with_value_other old.nodes id other last differs;
  linked = ap (λ list. list.linked) is;
  len = ap (λ list. occupied_len list.nodes) is ∙ occupied_len-with_value old.nodes id last here;
  spare = ap (λ list. list.nodes.spare) is;
}

pub after_unlink : {T : Type 0} {old new : WaitListState T} {id : ℕ} {last : T}
    → IsWaitList old → IsSome (waiter_at id old) → new ≡ unlinked id last old → IsUnlinked id last old new
after_unlink {T} {old} {new} {id} {last} sound here is =
    let written : IsWritten id last (detached id old) new = after_write here is in
    record {
      state = is;
      detached = record {
        here = ap is_some written.value;
        not_linked = ap (is_in id) written.linked ∙ is_in-without id old.linked;
      };
      value = written.value;
      others = written.others;
      linked = λ other differs. ap (is_in other) written.linked ∙ is_in-without_other id other old.linked differs;
      first = λ e. written.linked ∙ at old.linked sound.once e;
      fewer = λ e. omega (arith, ap length written.linked, length-without id old.linked sound.once e);
      already = λ e. written.linked ∙ without-IsOff id old.linked (IsOff-is_in id old.linked e);
      len = written.len;
      spare = written.spare;
    }
  where
    at : (ids : List ℕ) → IsDistinct nat_eq ids → slice_get ids 0 ≡ Some id → without id ids ≡ drop 1 ids
    at [] once first = absurd (cc)
    at (x ∷ xs) once first =
        let same : x ≡ id = cc in
        ap (λ k. without k (x ∷ xs)) (sym same) ∙ without-first x xs once

-- who was put in front or behind is linked
pub joins_front : {T : Type 0} {old new : WaitListState T} {id : ℕ} (value : T) → id ≡ next_slot old.nodes → new ≡ pushed_front value old → Joins id old new
joins_front {T} {old} {new} {id} value slot is =
    let ids : new.linked ≡ id ∷ old.linked = ap (λ list. list.linked) is ∙ ap (λ k. k ∷ old.linked) (sym slot) in
    record {
      linked = ap (is_in id) ids ∙ is_in_here id old.linked;
      others = λ other differs. ap (is_in other) ids ∙ is_in_other id other old.linked differs;
    }

pub joins_back : {T : Type 0} {old new : WaitListState T} {id : ℕ} (value : T) → id ≡ next_slot old.nodes → new ≡ pushed_back value old → Joins id old new
joins_back {T} {old} {new} {id} value slot is =
    let ids : new.linked ≡ old.linked ++ id ∷ [] = ap (λ list. list.linked) is ∙ ap (λ k. old.linked ++ k ∷ []) (sym slot) in
    record {
      linked = ap (is_in id) ids ∙ is_in_push id old.linked;
      others = λ other differs. ap (is_in other) ids ∙ is_in_push_other id other old.linked differs;
    }

-- a closure that leaves the value as it is
pub AnswersLeaving-same : {T F : Type 0} (g : Once F (MutBor T × Unit {0}) (Bool × (MutBor T × Unit {0}))) (f : F) (found : Option T) (answer : Bool) (left : T)
    → ((shown after : MutBor T) → g.post f (shown, tt) (answer, (after, tt)) → after.now ≡ shown.now) → AnswersLeaving g f found answer left
    → found ≡ Some left
AnswersLeaving-same g f None answer left same h = absurd h
AnswersLeaving-same g f (Some before) answer left same h = ap Some (sym h.shows ∙ sym (same h.shown h.left h.met) ∙ h.leaves)
