-- The calls of a script are ones that a script can write.
use Rattle.std.proofs.Common.{◌≡◌, ℕ, List, [], ◌∷◌, Option, Some, None, refl}
use Rattle.std.specs.List.{AllByRecursion, list_all}
use Rattle.std.proofs.lemmas.Bool.{and_parts}
use Rattle.band_script.specs.Call.{parts, has_readers, IsCall, ForReaders}
use Rattle.band_script.specs.Grammar.{call_of}
use Rattle.band_script.specs.Name.{is_name}
use Rattle.band_script.specs.declared.call.Call.{Call}
use Rattle.band_script.proofs.Decoding.{call_of_line}
use Rattle.band_rules.specs.Bounds.{HasNumbers}
use Rattle.band_rules.specs.Script.{calls_from, calls_of}

is_written : (line : List ℕ) (call : Call) → call_of line ≡ Some call → IsCall call
is_written line call is = ((call_of_line line call).0 is).0

module _ (P : Call → Type 0) (written : (call : Call) → IsCall call → P call) where
  each_from : (line : List ℕ) (read : Option Call) (rest : List Call) → call_of line ≡ read → AllByRecursion P rest → AllByRecursion P (calls_from read rest)
  each_from line None rest is each = tt
  each_from line (Some call) rest is each = (written call (is_written line call is), each)

  each_written : (lines : List (List ℕ)) → AllByRecursion P (calls_of lines)
  each_written [] = tt
  each_written (line ∷ lines) = each_from line (call_of line) (calls_of lines) refl (each_written lines)

pub for_readers : (lines : List (List ℕ)) → AllByRecursion ForReaders (calls_of lines)
for_readers = each_written ForReaders (λ call is. (and_parts _ _ is).1)

pub have_numbers : (lines : List (List ℕ)) → AllByRecursion HasNumbers (calls_of lines)
have_numbers = each_written HasNumbers (λ call is. (and_parts (list_all is_name (parts call).names) _ (and_parts _ (has_readers call) is).0).1)
