use Rattle.std.proofs.Common.{◌<◌, length, sym, ◌∙◌, ap, ap₂, ◌++◌, arith, take-append-drop}
use Rattle.std.proofs.lemmas.Bool.{leb-true, and_parts}
use Rattle.band_script.specs.Inner.Stored.{padded}
use Rattle.band_script.proofs.Fronts.{from_place}
use Rattle.band_script.proofs.NameLemmas.{kept_name, only_name}
use Rattle.band_script.proofs.name.Name.split.Goals as goal

pub returns-then-len-eq0 : goal.returns-then-len-eq0
returns-then-len-eq0 c name rest is ends same =
    let size = (only_name c.args.text.now _ c.copy_name-len.ensures.len name rest is ends same).0 in
    absurd (omega (arith, size, leb-true 1 (length name) (and_parts _ _ (and_parts _ _ is).0).0))

pub invariant_of-result : goal.invariant_of-result
invariant_of-result c =
    let read = c.copy_name-len.ensures in
    let some : 0 < c.copy_name-len.result = omega arith in
    let name = kept_name c.args.text.now _ _ read.len read.within some read.kept in
    (name.0, read.kept ∙ ap padded (sym name.1))

pub returns : goal.returns
returns c =
    let read = c.copy_name-len.ensures in
    let text = c.args.text.now in
    let some : 0 < c.copy_name-len.result = omega arith in
    let name = kept_name text _ _ read.len read.within some read.kept in
    let left = from_place text c.copy_name-len.result in
    (name.0, sym (ap₂ (λ front rest. front ++ rest) name.1 left ∙ take-append-drop _ text), λ one rest is ends same. (only_name text _ read.len one rest is ends same).1 ∙ sym left)
