use Rattle.std.proofs.Common.{◌≡◌, ℕ, ◌+◌, ◌≤◌, Option, Some, None, refl, sym, ◌∙◌, subst}
use Rattle.std.specs.Prelude.{OnSome, MatchOption}
use Rattle.std.specs.Option.{ForSome}
use Rattle.band_line.specs.Visits.{Visits}
use Rattle.band_line.proofs.wait_list.WaitList.unlink_first_waiter.Goals as goal

-- what holds at the one that is found holds at whichever is
for_found : {A : Type 0} {found : Option A} {x : A} (P : A → Type 0) → found ≡ Some x → P x → ForSome found P
for_found P e p = λ y e'. let same = sym e ∙ e' in subst P (cc) p

OnSome-map : {A : Type 0} (answer : Option A) {P Q : Type 0} → (P → Q) → OnSome answer P → OnSome answer Q
OnSome-map None f p = tt
OnSome-map (Some x) f p = f p

-- the visits of an unlink, where it is of the first
first_visits : {A : Type 0} (answer : Option A) (old new : ℕ) → MatchOption answer (new ≡ old + 1) (λ x. Visits 1 4 old new) → new ≤ old + 3
    → MatchOption answer (new ≡ old + 1) (λ x. Visits 1 3 old new)
first_visits None old new visits least = visits
first_visits (Some x) old new visits least = record { no_fewer = visits.no_fewer; no_more = least }

pub returns-in-Some : goal.returns-in-Some
returns-in-Some g c =
    let first = sym c.first.ensures.first ∙ c.in-Some.is in (
      (refl, (λ w. OnSome-map c.unlink_waiter.result (for_found _ first) (c.unlink_waiter.follows.holds w)), rw first c.unlink_waiter.follows.holds-at-none),
      record {
        writes_back = tt;
        left = rw first c.unlink_waiter.ensures.left;
        sound = c.unlink_waiter.ensures.sound;
        visits = rw first (first_visits c.unlink_waiter.result _ _ c.unlink_waiter.ensures.visits (c.unlink_waiter.ensures.first first));
      },
    )
