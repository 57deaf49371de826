-- What holds of a part of a part, where it holds of both.
use Rattle.std.specs.Prelude.{◌≡◌, Option, Some, None, IsSome, option_and_then, refl}
use Rattle.std.specs.Option.{option_map_or}
use Rattle.std.proofs.lemmas.Bool.{false≢true}
use Rattle.std.proofs.Common.{ap, ◌∙◌, sym, subst}
use Rattle.band_project.specs.Then.{part_of_part, with_part_of_part}

module _ {T U V : Type 0} (first : T → Option U) (second : U → Option V) where
  -- it is there, if the first part is there in each value, and the second in each first part
  pub IsSome-part_of_part : ((t : T) → IsSome (first t)) → ((u : U) → IsSome (second u)) → (t : T)
      → IsSome (part_of_part first second t)
  IsSome-part_of_part one other t = found (first t) (one t)
    where
      found : (o : Option U) → IsSome o → IsSome (option_and_then second o)
      found (Some u) there = other u
      found None there = there

  module _ (write : T → U → T) (rewrite : U → V → U) where
    -- it is read back, if both are
    pub part_of_part-with :
        ((t : T) (u : U) → IsSome (first t) → first (write t u) ≡ Some u)
        → ((u : U) (v : V) → IsSome (second u) → second (rewrite u v) ≡ Some v)
        → (t : T) (v : V) → IsSome (part_of_part first second t)
        → part_of_part first second (with_part_of_part first write rewrite t v) ≡ Some v
    part_of_part-with one other t v there = back (first t) refl there
      where
        back : (o : Option U) → first t ≡ o → IsSome (option_and_then second o)
            → option_and_then second (first (option_map_or (λ u. write t (rewrite u v)) o t)) ≡ Some v
        back None is there = absurd (false≢true there)
        back (Some u) is there =
            let P : Option U → Type 0 = λ o. IsSome o in
            ap (option_and_then second) (one t (rewrite u v) (subst P (sym is) refl)) ∙ other u v there
