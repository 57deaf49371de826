-- What is added or taken in two steps.
use Rattle.std.proofs.Common.{ℕ, List, ◌++◌, Option, refl, append_assoc, ◌≤◌, arith}
use Rattle.std.specs.Io.KnownBytes.{Appends}
use Rattle.std.proofs.KnownBytes.{Appends-trans}
use Rattle.band_base.specs.Device.{Rose, AppendsPrefix}

-- a prefix of what comes after a text gives one of the whole
pub front_after : (a b : List ℕ) (x y z : Option (List ℕ)) → Appends x y a → AppendsPrefix b y z → AppendsPrefix (a ++ b) x z
front_after a b x y z p q = record {
  prefix = a ++ q.prefix;
  rest = q.rest;
  whole = rw (append_assoc, q.whole) refl;
  appended = Appends-trans x y z a q.prefix p q.appended;
}

-- a count that rose after it had not fallen
pub rises : (start old new : ℕ) → start ≤ old → Rose old new → Rose start new
rises start old new kept rose = omega arith
