-- A reference that is handed on as it is: what is written through it is what the lender ends as.
use Rattle.std.proofs.Common.{◌≡◌, ℕ, true, [], ◌∷◌, Some, sym, ap, subst}
use seplogic.Ra.Ura.{Ura}
use base.Logic.{SProp, ent, sep, emp, via, comm∗}
use contract.Monad.{fact, fact_i, fact_use, top}
use types.Logic.{Logic, sem}
use denote.RattleType.{RattleType}
use denote.Ref.{MutBor}
use denote.Follow.{follows}
use denote.Triple.Impl.{with_fact}
use borrow.Fn.Refines.{Gives, Turns, facts, facts_out, by_parts}
use borrow.Follows.Kept.{follows_itself}

module _ {M : Type 1} {𝓤 : Ura M} (𝓛 : Logic 𝓤) (R : RattleType) (t : MutBor R.Denot) where
  -- the result is the very reference that was passed
  abbrev pub IsPassedOn : MutBor R.Denot → SProp 𝓤
  IsPassedOn r = facts 𝓤 ((r.ghost_name ≡ t.ghost_name) ∷ (r.now ≡ t.now) ∷ [])

  -- the lender ends as the last value that was written through the result, which shows the value at first
  abbrev pub LendsItself : MutBor R.Denot → SProp 𝓤
  LendsItself r =
      sep 𝓤 (sem 𝓛 (follows R R t.ghost_name r.ghost_name (λ w. w))) (fact 𝓤 (Some t.now ≡ Some r.now))

  lends : (r : MutBor R.Denot) → ent 𝓤 (IsPassedOn r) (LendsItself r)
  lends r =
      let Same : SProp 𝓤 = sem 𝓛 (follows R R t.ghost_name r.ghost_name (λ w. w)) in
      let Named : ℕ → Type 1 = λ name. ent 𝓤 (emp 𝓤) (sem 𝓛 (follows R R t.ghost_name name (λ w. w))) in
      fact_use 𝓤 ((r.ghost_name ≡ t.ghost_name) × (r.now ≡ t.now)) (facts_out 𝓤 ((r.ghost_name ≡ t.ghost_name) ∷ (r.now ≡ t.now) ∷ [])) (λ p.
      via 𝓤 (emp 𝓤) (top 𝓤 (IsPassedOn r)) (
      via 𝓤 Same (subst Named (sym p.0) (follows_itself 𝓛 R t.ghost_name)) (
      via 𝓤 (sep 𝓤 (fact 𝓤 (Some t.now ≡ Some r.now)) Same) (with_fact 𝓤 (Some t.now ≡ Some r.now) Same (ap Some (sym p.1)))
      (comm∗ 𝓤 (fact 𝓤 (Some t.now ≡ Some r.now)) Same))))

  pub passed_on : (X : Type 0) → Gives 𝓤 (fact 𝓤 (true ≡ true)) (Unit {0}) (λ _. emp 𝓤) (λ _. Turns 𝓤 (MutBor R.Denot) X (λ r _. IsPassedOn r) (λ r _. LendsItself r))
  passed_on X =
      let P : SProp 𝓤 = fact 𝓤 (true ≡ true) in
      by_parts 𝓤 [] [] P (emp 𝓤) (MutBor R.Denot) X (λ _ _. []) (λ _ _. []) (λ r _. IsPassedOn r) (λ r _. LendsItself r)
      (fact_i 𝓤 (Unit {0}) P tt) (λ _. top 𝓤 P) (λ r _. fact_i 𝓤 (Unit {0}) (IsPassedOn r) tt) (λ r _ _. lends r) (λ a. a) (λ _ _ _ a. a)
