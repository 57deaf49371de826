-- The forms of lines: the word that names each, and what follows it.
use Rattle.std.specs.Prelude.{◌≡◌, ◌≢◌, ℕ, List, ◌∷◌, ◌++◌, codes, Option, Some, None}
use Rattle.std.specs.Borrow.{Bor}
use Rattle.band_script.specs.declared.call.Call.{Call}
use Rattle.band_script.specs.declared.form.Form.{Form}
use Rattle.band_script.specs.declared.form.Form.TheVariants.{OneName, NameNumber, TwoNames, TwoNamesNumber}
use Rattle.band_script.specs.declared.form.Form.TheVariants.{Rw, Ask}
use Rattle.band_script.specs.declared.form.NameNumber.TheVariants as name_number
use Rattle.band_script.specs.declared.form.OneName.TheVariants as one_name
use Rattle.band_script.specs.declared.form.TwoNames.TheVariants as two_names
use Rattle.band_script.specs.declared.form.TwoNamesNumber.TheVariants as two_names_number
use Rattle.band_script.specs.Call.{ForReaders, parts, written}

abbrev pub word_of : Form → List ℕ
word_of (OneName one_name.Mutex) = codes "mutex"
word_of (OneName one_name.Drop) = codes "drop"
word_of (OneName one_name.Close) = codes "close"
word_of (OneName one_name.Forget) = codes "forget"
word_of (OneName one_name.Downgrade) = codes "downgrade"
word_of (OneName one_name.Status) = codes "status"
word_of (NameNumber name_number.Sem) = codes "sem"
word_of (NameNumber name_number.Poll) = codes "poll"
word_of (NameNumber name_number.Release) = codes "release"
word_of (NameNumber name_number.Reduce) = codes "reduce"
word_of (NameNumber name_number.Drain) = codes "drain"
word_of (TwoNames two_names.TryLock) = codes "trylock"
word_of (TwoNames two_names.TryRead) = codes "tryread"
word_of (TwoNames two_names.TryWrite) = codes "trywrite"
word_of (TwoNames two_names.Merge) = codes "merge"
word_of (TwoNamesNumber two_names_number.Lock) = codes "lock"
word_of (TwoNamesNumber two_names_number.Read) = codes "read"
word_of (TwoNamesNumber two_names_number.Write) = codes "write"
word_of (TwoNamesNumber two_names_number.Try) = codes "try"
word_of (TwoNamesNumber two_names_number.Split) = codes "split"
word_of Rw = codes "rw"
word_of Ask = codes "ask"

-- a line begins with the word of a form and a space, and this follows, or with no such word
abbrev pub ReadsForm : List ℕ → Option (Form × Bor (List ℕ)) → Type 0
ReadsForm line None = (call : Call) (rest : List ℕ) → line ≢ (parts call).form ++ 32 ∷ rest
ReadsForm line (Some read) = line ≡ word_of read.0 ++ 32 ∷ read.1.now

-- a call is written in a form, with these names and numbers
abbrev pub IsWritten : Call → Form → List (List ℕ) → List ℕ → Type 0
IsWritten call form names numbers = (parts call ≡ written (word_of form) names numbers) × ForReaders call
