-- What is appended in parts.
use Rattle.std.proofs.Common.{◌≡◌, ℕ, List, [], ◌++◌, take, drop, Option, refl, append_assoc, length, ◌-◌}
use Rattle.std.proofs.lemmas.List.{take-append-drop, take_rest}
use Rattle.std.specs.Io.KnownBytes.{Appends}
use Rattle.std.proofs.KnownBytes.{Appends-nil, Appends-trans}

-- the front of a text was appended, and this is its rest
pub record AppendsUpTo (text rest : List ℕ) (before after : Option (List ℕ)) : Type 0 where
  pub front : List ℕ
  pub whole : front ++ rest ≡ text
  pub appended : Appends before after front

pub nothing_yet : (text : List ℕ) (at : Option (List ℕ)) → AppendsUpTo text text at at
nothing_yet text at = record { front = []; whole = refl; appended = Appends-nil at }

-- after a part of the rest
pub part_appended : (text rest : List ℕ) (n : ℕ) (x y z : Option (List ℕ)) → AppendsUpTo text rest x y → Appends y z (take n rest)
    → AppendsUpTo text (take (length rest - n) (drop n rest)) x z
part_appended text rest n x y z q p = record {
  front = q.front ++ take n rest;
  whole = rw (take_rest, append_assoc, take-append-drop, q.whole) refl;
  appended = Appends-trans x y z q.front (take n rest) q.appended p;
}
