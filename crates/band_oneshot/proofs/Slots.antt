-- The slots that a seat has out: what is in the first.
use Rattle.std.proofs.Common.{◌≡◌, ℕ, List, [], ◌∷◌, Some, sym, ap, ◌∙◌}
use Rattle.atomic_table.specs.Table.{rest}
use Rattle.band_base.specs.declared.waker.Waker.{Waker}
use Rattle.band_oneshot.specs.declared.view.Held.TheVariants as held
use Rattle.band_oneshot.specs.Kept.Rule.{Slot}

-- a list that begins so
pub begins_with : {A : Type 0} (l : List (ℕ × A)) (x : ℕ × A) (xs : List (ℕ × A)) → l ≡ x ∷ xs → l ≡ x ∷ rest l
begins_with l x xs e = e ∙ ap (λ (y : List (ℕ × _)). x ∷ rest y) (sym e)

module _ {T : Type 0} where
  abbrev message_of : T → Slot T → T
  message_of other (Some (held.Message m)) = m
  message_of other content = other

  abbrev first_message : T → List (ℕ × Slot T) → T
  first_message other [] = other
  first_message other (x ∷ xs) = message_of other x.1

  -- one slot has one message
  pub same_message : (l xs ys : List (ℕ × Slot T)) (this that : T) → l ≡ (0, Some (held.Message this)) ∷ xs
      → l ≡ (0, Some (held.Message that)) ∷ ys → this ≡ that
  same_message l xs ys this that e f = ap (first_message this) (sym e ∙ f)

  abbrev waker_of : Waker → Slot T → Waker
  waker_of other (Some (held.Waker w)) = w
  waker_of other content = other

  abbrev first_waker : Waker → List (ℕ × Slot T) → Waker
  first_waker other [] = other
  first_waker other (x ∷ xs) = waker_of other x.1

  -- one slot has one waker
  pub same_waker : (l xs ys : List (ℕ × Slot T)) (this that : Waker) → l ≡ (1, Some (held.Waker this)) ∷ xs
      → l ≡ (1, Some (held.Waker that)) ∷ ys → this ≡ that
  same_waker l xs ys this that e f = ap (first_waker this) (sym e ∙ f)
