use Rattle.std.proofs.Common.{◌≡◌, ℕ, nat_le, min, ap}
use Rattle.band_balance.specs.Line.{is_served, available, drained}
use Rattle.band_partial.proofs.Follows.{of_shown, available-shown, served-shown}
use Rattle.band_partial.proofs.laws.word_is_available.Goals as goal

pub returns-clause-available : goal.returns-clause-available
returns-clause-available c = of_shown (λ line part. available line ≡ part.word) available-shown

pub returns-clause-served : goal.returns-clause-served
returns-clause-served c = of_shown (λ line part. (size : ℕ) → is_served size line ≡ nat_le size part.word) served-shown

pub returns-clause-drained : goal.returns-clause-drained
returns-clause-drained c = of_shown (λ line part. (n : ℕ) → drained n line ≡ min n part.word) (λ part settled n. ap (min n) (available-shown part settled))
