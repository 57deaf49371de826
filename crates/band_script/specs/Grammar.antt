-- The lines of a script, and the call that each stands for.
use Rattle.std.specs.Prelude.{◌≡◌, ℕ, Bool, ◌==◌, ◌&&◌, List, [], ◌∷◌, Option, Some, None, find}
use Rattle.std.specs.List.{slice_split, join_with_byte}
use Rattle.std.specs.Str.{bytes_eq}
use Rattle.std.specs.Str.Parse.{digits_value}
use Rattle.band_script.specs.declared.call.Call.{Call}
use Rattle.band_script.specs.declared.call.Call.TheVariants.{Sem, Mutex, Rw, Ask, Lock, Read, Write, Poll}
use Rattle.band_script.specs.declared.call.Call.TheVariants.{Drop, Try, TryLock, TryRead, TryWrite}
use Rattle.band_script.specs.declared.call.Call.TheVariants.{Release, Reduce, Drain, Close}
use Rattle.band_script.specs.declared.call.Call.TheVariants.{Forget, Split, Merge, Downgrade, Status}
use Rattle.band_script.specs.Call.{spelling, is_call, IsCall}

-- the words of a line: what stands between its spaces
abbrev pub words_of : List ℕ → List (List ℕ)
words_of line = slice_split (λ byte. byte == 32) line

-- the line of a call: its words with a space between any two
abbrev pub line_of : Call → List ℕ
line_of call = join_with_byte 32 (spelling call)

-- a line stands for a call
abbrev pub IsLine : List ℕ → Call → Type 0
IsLine line call = IsCall call × (line ≡ line_of call)

-- the same as a test
abbrev pub is_line : List ℕ → Call → Bool
is_line line call = bytes_eq line (line_of call) && is_call call

-- the calls of so many words, with these as their names and numbers, whatever they are
abbrev pub readings : List (List ℕ) → List Call
readings (form ∷ a ∷ []) = Mutex a ∷ Rw a None ∷ Drop a ∷ Close a ∷ Forget a ∷ Downgrade a ∷ Status a ∷ []
readings (form ∷ a ∷ b ∷ []) =
    let n = digits_value 10 b in
    Sem a n ∷ Rw a (Some n) ∷ Poll a n ∷ Release a n ∷ Reduce a n ∷ Drain a n
    ∷ TryLock a b ∷ TryRead a b ∷ TryWrite a b ∷ Merge a b ∷ []
readings (form ∷ a ∷ b ∷ c ∷ []) =
    let n = digits_value 10 c in
    Lock a b n ∷ Read a b n ∷ Write a b n ∷ Try a b n ∷ Split a b n ∷ []
readings (form ∷ a ∷ b ∷ c ∷ d ∷ []) = Ask a b (digits_value 10 c) (digits_value 10 d) ∷ []
readings words = []

-- the call that a line stands for, if it stands for one: the reading of its words that has this line
unfoldable pub call_of : List ℕ → Option Call
call_of line = find (is_line line) (readings (words_of line))
