-- What a clock tells.
use Rattle.std.specs.Prelude.{◌≡◌, ℕ, List, [], ◌∷◌, Option, None, Some, ⊤}

-- the moments to come once the first was read: it is taken away, unless it is the only one
abbrev pub moments_left : List ℕ → List ℕ
moments_left [] = []
moments_left (only ∷ []) = only ∷ []
moments_left (first ∷ second ∷ later) = second ∷ later

-- the moment is the first of these
abbrev pub IsFirst : ℕ → List ℕ → Type 0
IsFirst moment [] = ⊥
IsFirst moment (first ∷ later) = moment ≡ first

-- a moment was read, with these to come before and after it, where they are told
abbrev pub Reads : ℕ → Option (List ℕ) → Option (List ℕ) → Type 0
Reads moment None after = ⊤
Reads moment (Some to_come) after = IsFirst moment to_come × (after ≡ Some (moments_left to_come))

-- a clock whose moments are listed
pub record ListedMoments : Type 0 where
  pub to_come : List ℕ
  pub last : ℕ
