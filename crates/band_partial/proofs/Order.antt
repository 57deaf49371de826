-- What is given out does not depend on the order of those granted.
use Rattle.std.proofs.Common.{◌≡◌, refl, sym, map, subst}
use Rattle.std.proofs.lemmas.List.Sorted.{IsPermutation-append_left}
use Rattle.band_balance.specs.Line.{AreAlike, entry_of}
use Rattle.band_partial.specs.PartialLine.{PartialLine, AreAlikeParts, IsSettled, line_of, requests_of}
use Rattle.band_partial.specs.Moves.{distribute, give_out}

module _ (one other : PartialLine) (alike : AreAlikeParts one other) where
  -- one that is alike is the other with its own granted ones
  reordered : record one { granted = other.granted } ≡ other
  reordered = λ i. record { word = sym alike.word i; nodes = sym alike.nodes i; granted = other.granted; wakes = sym alike.wakes i }

  pub line-alike : AreAlike (line_of one) (line_of other)
  line-alike =
      subst (λ (part : PartialLine). AreAlike (line_of one) (line_of part)) reordered
      (record { free = refl; waiting = refl; granted = alike.granted; wakes = refl })

  pub settled-alike : IsSettled one → IsSettled other
  settled-alike settled = subst IsSettled reordered (record { in_order = settled.in_order; given_out = settled.given_out })

  pub give_out-alike : AreAlikeParts (give_out one) (give_out other)
  give_out-alike =
      subst (λ (part : PartialLine). AreAlikeParts (give_out one) (give_out part)) reordered
      (record {
        word = refl;
        nodes = refl;
        granted = IsPermutation-append_left (map entry_of (requests_of (distribute one.word one.nodes).served)) one.granted other.granted alike.granted;
        wakes = refl;
      })
