-- What is the same of semaphores that differ at most in the order of those granted and of those ended.
use Rattle.std.proofs.Common.{◌≡◌, ℕ, ◌<◌, ◌+◌, nat_eq, Bool, true, false, List, [], ◌∷◌, refl, ◌∙◌, sym, ap, subst, arith}
use Rattle.std.specs.List.{AllByRecursion}
use Rattle.std.proofs.lemmas.Bool.Decides.{nat_tests}
use Rattle.std.proofs.lemmas.List.Elements.{All-from_recursion, recursion_from_All}
use Rattle.std.proofs.lemmas.List.Sorted.{IsPermutation-sym, IsPermutation-map, IsPermutation-append, length_permutation, All-permutation}
use Rattle.std.specs.List.Sorted.{IsPermutation}
use Rattle.std.proofs.lemmas.Map.Keys.{IsDistinct-IsPermutation}
use Rattle.band_balance.specs.Line.{Entry, Waiting, requests, total, entry_named}
use Rattle.band_balance.proofs.Alike.{alike_back, requests-alike, total-alike, finds_the_same}
use Rattle.band_balance.proofs.Distinct.{once}
use Rattle.band_sem.specs.Request.{Stage, NotPolled, Joined, Finished}
use Rattle.band_sem.specs.Semaphore.{SemaphoreState, IsLike, IsLawful, IsOwn, EndsAs, asked, is_slot}
use Rattle.band_sem.specs.Whole.{IsWhole, StaysWhole}
use Rattle.band_sem.proofs.Whole.{is_whole}

pub like_back : (one other : SemaphoreState) → IsLike one other → IsLike other one
like_back one other like = record {
  number = sym like.number;
  line = alike_back one.line other.line like.line;
  held = sym like.held;
  closed = sym like.closed;
  ended = IsPermutation-sym _ _ like.ended;
}

-- none in another order are none
IsPermutation-none : (es : List (Entry ℕ)) → IsPermutation [] es → es ≡ []
IsPermutation-none [] any = refl
IsPermutation-none (e ∷ es) any = let long = length_permutation [] (e ∷ es) any in absurd (omega arith)

-- the same requests have slots
pub asked-like : (one other : SemaphoreState) → IsLike one other → IsPermutation (asked one) (asked other)
asked-like one other like = IsPermutation-append one.ended other.ended (requests one.line) (requests other.line) like.ended (requests-alike one.line other.line like.line)

-- a slot has the same request in both
pub found-like : (slot : ℕ) (one other : SemaphoreState) → IsLike one other → IsLawful other → entry_named (is_slot slot) (asked one) ≡ entry_named (is_slot slot) (asked other)
found-like slot one other like lawful =
    (finds_the_same (is_slot slot) (asked other) (asked one) (IsPermutation-sym _ _ (asked-like one other like))).found
    (once slot (asked other) lawful.one_each)

pub IsOwn-like : (stage : Stage) (size : ℕ) (one other : SemaphoreState) → IsLike one other → IsLawful other → IsOwn stage size one → IsOwn stage size other
IsOwn-like NotPolled size one other like lawful own = tt
IsOwn-like (Joined slot) size one other like lawful own = sym (found-like slot one other like lawful) ∙ own
IsOwn-like Finished size one other like lawful own = tt

-- What holds of one holds of the other.
module _ (one other : SemaphoreState) (like : IsLike one other) where
  granted_same : total other.line.granted ≡ total one.line.granted
  granted_same = total-alike one.line other.line like.line

  abbrev in_hand : SemaphoreState → ℕ
  in_hand state = total state.line.granted + state.held

  in_hand_same : in_hand other ≡ in_hand one
  in_hand_same = ap (λ (n : ℕ). n + other.held) granted_same ∙ ap (λ (n : ℕ). total one.line.granted + n) like.held

  asks_in_any_order : (xs ys : List (Entry ℕ)) → IsPermutation xs ys → AllByRecursion (λ (e : Entry ℕ). 0 < e.size) xs → AllByRecursion (λ (e : Entry ℕ). 0 < e.size) ys
  asks_in_any_order xs ys any asks =
      recursion_from_All (λ (e : Entry ℕ). 0 < e.size) ys
      (All-permutation (λ (e : Entry ℕ). 0 < e.size) xs ys any (All-from_recursion (λ (e : Entry ℕ). 0 < e.size) xs asks))

  -- none in whatever order are none
  closing_in_any_order : (closed closed' : Bool) (ended ended' : List (Entry ℕ)) (waiting waiting' : List (Waiting ℕ)) → closed' ≡ closed → IsPermutation ended ended' → waiting' ≡ waiting
      → EndsAs closed' ended waiting → EndsAs closed ended' waiting'
  closing_in_any_order false false ended ended' waiting waiting' is any same none = IsPermutation-none ended' (subst (λ es. IsPermutation es ended') none any)
  closing_in_any_order true true ended ended' waiting waiting' is any same none = same ∙ none
  closing_in_any_order false true ended ended' waiting waiting' is any same none = cc
  closing_in_any_order true false ended ended' waiting waiting' is any same none = cc

  pub IsLawful-like : IsLawful other → IsLawful one
  IsLawful-like lawful = record {
    one_each = IsDistinct-IsPermutation nat_eq turned _ _
        (IsPermutation-map (λ (e : Entry ℕ). e.name) _ _ (IsPermutation-sym _ _ (asked-like one other like))) lawful.one_each;
    each_asks =
        asks_in_any_order (asked other) (asked one) (IsPermutation-sym _ _ (asked-like one other like)) lawful.each_asks;
    closing = closing_in_any_order one.closed other.closed other.ended one.ended other.line.waiting one.line.waiting like.closed (IsPermutation-sym _ _ like.ended) (sym like.line.waiting) lawful.closing;
    head_waits = rw (← like.line.free, ← like.line.waiting) lawful.head_waits;
    in_hand = rw (← in_hand_same) lawful.in_hand;
    in_all = rw (← in_hand_same, ← like.line.free) lawful.in_all;
    owed = rw (← like.line.free) lawful.owed;
  }
    where
      turned : (x y : ℕ) → nat_eq x y ≡ nat_eq y x
      turned x y = grind (arith, nat_tests)

  pub IsWhole-like : (n : ℕ) → IsWhole n other → IsWhole n one
  IsWhole-like n whole =
      is_whole n one (sym like.closed ∙ whole.not_closed) (IsPermutation-none one.ended (subst (λ es. IsPermutation es one.ended) whole.none_ended (IsPermutation-sym _ _ like.ended))) (rw (← like.line.free) whole.none_owed) (rw (← in_hand_same, ← like.line.free) whole.adds_up)
      (asks_in_any_order (requests other.line) (requests one.line) (IsPermutation-sym _ _ (requests-alike one.line other.line like.line)) whole.each_asks)

-- It stays one of n permits up to the order of those granted.
pub StaysWhole-like : (old one other : SemaphoreState) → IsLike one other → StaysWhole old one → StaysWhole old other
StaysWhole-like old one other like stays n whole = IsWhole-like other one (like_back one other like) n (stays n whole)
