use Rattle.std.proofs.Common.{◌≡◌, ℕ, ◌<◌, true, take, get_or}
use Rattle.band_script.specs.Inner.Stored.{padded}
use Rattle.band_script.specs.Name.{is_name_byte}
use Rattle.band_script.proofs.name.copy_name.Given as goal

abbrev pub invariant-loop-i : goal.invariant-loop-i
invariant-loop-i l = record {
  passed : (k : ℕ) → k < l.i → is_name_byte (get_or l.text k 0) ≡ true;
  copied : l.kept ≡ padded (take l.i l.text);
}
