-- The reading of a line, step by step.
use Rattle.std.specs.Prelude.{◌≡◌, ◌≢◌, ℕ, ◌≤◌, ◌^◌, Bool, ◌&&◌, drop, map, List, [], ◌∷◌, ◌++◌, Option, Some}
use Rattle.std.specs.Prelude.{None, IsTrue}
use Rattle.std.specs.Borrow.{Bor}
use Rattle.std.specs.Fmt.{decimal}
use Rattle.std.specs.Char.{is_ascii_digit}
use Rattle.std.specs.List.{list_all, prefix_len, take_while}
use Rattle.std.specs.Option.{option_to_list}
use Rattle.std.specs.Str.Parse.{digits_value}
use Rattle.band_script.specs.declared.call.Call.{Call}
use Rattle.band_script.specs.declared.words.Words.{Words}
use Rattle.band_script.specs.Grammar.{IsLine, words_of}
use Rattle.band_script.specs.Name.{IsName, is_name}
use Rattle.band_script.specs.Number.{IsNumber, is_number}

-- names, and then numbers in decimal
abbrev pub operands : List (List ℕ) → List ℕ → List (List ℕ)
operands names numbers = names ++ map decimal numbers

-- each name is one, and each number
abbrev pub are_operands : List (List ℕ) → List ℕ → Bool
are_operands names numbers = list_all is_name names && list_all is_number numbers

-- what may follow a word: nothing, or a space and more
abbrev pub Ends : List ℕ → Type 0
Ends [] = Unit {0}
Ends (byte ∷ bytes) = byte ≡ 32

-- the front of a text is read as the one word of a kind that can stand there, if one can
abbrev pub ReadsFront : {A : Type 0} → (A → Type 0) → (A → List ℕ)
    → List ℕ → Option (A × Bor (List ℕ)) → Type 0
ReadsFront {A} Is spells text None = (a : A) (rest : List ℕ) → Is a → Ends rest → text ≢ spells a ++ rest
ReadsFront {A} Is spells text (Some read) =
    Is read.0 × (text ≡ spells read.0 ++ read.1.now)
    × ((a : A) (rest : List ℕ) → Is a → Ends rest → text ≡ spells a ++ rest → rest ≡ read.1.now)

abbrev pub ReadsFrontName : List ℕ → Option (List ℕ × Bor (List ℕ)) → Type 0
ReadsFrontName = ReadsFront IsName (λ name. name)

abbrev pub ReadsFrontNumber : List ℕ → Option (ℕ × Bor (List ℕ)) → Type 0
ReadsFrontNumber = ReadsFront IsNumber decimal

-- the words that a reader has left
abbrev pub words_in : Option (Bor (List ℕ)) → List (List ℕ)
words_in None = []
words_in (Some text) = words_of text.now

abbrev pub words_left : Words → List (List ℕ)
words_left words = words_in words.rest

-- the first of some words is read, if it is of a kind, and others are left
abbrev pub ReadsFirst : {A : Type 0} → (A → Type 0) → (A → List ℕ)
    → List (List ℕ) → Option A → List (List ℕ) → Type 0
ReadsFirst {A} Is spells words None left = (a : A) (more : List (List ℕ)) → Is a → words ≢ spells a ∷ more
ReadsFirst {A} Is spells words (Some a) left = Is a × (words ≡ spells a ∷ left)

abbrev pub ReadsFirstName : List (List ℕ) → Option (List ℕ) → List (List ℕ) → Type 0
ReadsFirstName = ReadsFirst IsName (λ name. name)

abbrev pub ReadsFirstNumber : List (List ℕ) → Option ℕ → List (List ℕ) → Type 0
ReadsFirstNumber = ReadsFirst IsNumber decimal

-- what stands before the words of a reader: nothing, or the space before the first
abbrev pub spaced : Option (Bor (List ℕ)) → List ℕ
spaced None = []
spaced (Some text) = 32 ∷ text.now

-- a word ends before a text, and the reader has what follows
abbrev pub EndsWord : List ℕ → Option Words → Type 0
EndsWord text None = Ends text → ⊥
EndsWord text (Some words) = text ≡ spaced words.rest

-- the digits at the front of a text are read, if they are below 2 ^ 64
abbrev pub ReadsDigits : List ℕ → Option (ℕ × Bor (List ℕ)) → Type 0
ReadsDigits text None = 2 ^ 64 ≤ digits_value 10 (take_while is_ascii_digit text)
ReadsDigits text (Some read) =
    (read.0 ≡ digits_value 10 (take_while is_ascii_digit text)) × IsNumber read.0
    × (read.1.now ≡ drop (prefix_len is_ascii_digit text) text)

-- some words are read as names and numbers, if they are so many of each
abbrev pub ReadsOperands : {A : Type 0} → (A → List (List ℕ)) → (A → List ℕ)
    → List (List ℕ) → Option A → Type 0
ReadsOperands {A} names numbers words None =
    (a : A) → IsTrue (are_operands (names a) (numbers a)) → words ≢ operands (names a) (numbers a)
ReadsOperands {A} names numbers words (Some a) =
    IsTrue (are_operands (names a) (numbers a)) × (words ≡ operands (names a) (numbers a))

abbrev pub ReadsOneName : List (List ℕ) → Option (List ℕ) → Type 0
ReadsOneName = ReadsOperands (λ name. name ∷ []) (λ name. [])

abbrev pub ReadsNameNumber : List (List ℕ) → Option (List ℕ × ℕ) → Type 0
ReadsNameNumber = ReadsOperands (λ read. read.0 ∷ []) (λ read. read.1 ∷ [])

abbrev pub ReadsNameOption : List (List ℕ) → Option (List ℕ × Option ℕ) → Type 0
ReadsNameOption = ReadsOperands (λ read. read.0 ∷ []) (λ read. option_to_list read.1)

abbrev pub ReadsTwoNames : List (List ℕ) → Option (List ℕ × List ℕ) → Type 0
ReadsTwoNames = ReadsOperands (λ read. read.0 ∷ read.1 ∷ []) (λ read. [])

abbrev pub ReadsTwoNamesNumber : List (List ℕ) → Option (List ℕ × List ℕ × ℕ) → Type 0
ReadsTwoNamesNumber = ReadsOperands (λ read. read.0 ∷ read.1 ∷ []) (λ read. read.2 ∷ [])

abbrev pub ReadsTwoNamesTwoNumbers : List (List ℕ) → Option (List ℕ × List ℕ × ℕ × ℕ) → Type 0
ReadsTwoNamesTwoNumbers = ReadsOperands (λ read. read.0 ∷ read.1 ∷ []) (λ read. read.2 ∷ read.3 ∷ [])

-- the answer is the call that a line stands for, and none only where it stands for none
abbrev pub Decodes : List ℕ → Option Call → Type 0
Decodes line None = (call : Call) → IsLine line call → ⊥
Decodes line (Some call) = IsLine line call
