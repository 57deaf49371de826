-- The lines of bytes, cut at a newline, and of bytes that more are added to.
use Rattle.std.proofs.Common.{◌≡◌, ℕ, Bool, true, false, cond, List, [], ◌∷◌, ◌++◌, ◌+◌, suc, length, length-append, refl, sym, ap, ◌∙◌, subst, append_assoc, append-nil}
use Rattle.std.proofs.lemmas.List.Elements.{All-nil, All-cons, All-head, All-tail, All-append}
use Rattle.std.proofs.lemmas.List.Splits.{slice_split_at, slice_split_none, slice_split-cons_yes, slice_split-cons_no}
use Rattle.std.specs.List.{slice_split, onto_first}
use Rattle.band_rules.specs.Script.{ended_parts, last_part, lines_of, rest_of}
use Rattle.band_play.specs.Lines.{HasNoNewline, is_newline}
use Rattle.band_balance.proofs.Held.{by_bool}

-- bytes have a part, if only an empty one
split_some : (bytes : List ℕ) → (part : List ℕ) × (parts : List (List ℕ)) × (slice_split is_newline bytes ≡ part ∷ parts)
split_some [] = ([], [], refl)
split_some (byte ∷ bytes) = by_first (is_newline byte) (slice_split is_newline bytes)
  where
    by_first : (ends : Bool) (parts : List (List ℕ)) → (part : List ℕ) × (more : List (List ℕ)) × (cond ends ([] ∷ parts) (onto_first byte parts) ≡ part ∷ more)
    by_first true parts = ([], parts, refl)
    by_first false [] = (byte ∷ [], [], refl)
    by_first false (part ∷ parts) = (byte ∷ part, parts, refl)

ended_next : (line bytes : List ℕ) → ended_parts (line ∷ slice_split is_newline bytes) ≡ line ∷ lines_of bytes
ended_next line bytes = let some = split_some bytes in rw some.2 refl

last_next : (line bytes : List ℕ) → last_part (line ∷ slice_split is_newline bytes) ≡ rest_of bytes
last_next line bytes = let some = split_some bytes in rw some.2 refl

-- the first line, and the lines after it
pub lines_of-line : (line after : List ℕ) → HasNoNewline line → lines_of (line ++ 10 ∷ after) ≡ line ∷ lines_of after
lines_of-line line after none = ap ended_parts (slice_split_at is_newline line 10 after none refl) ∙ ended_next line after

pub rest_of-line : (line after : List ℕ) → HasNoNewline line → rest_of (line ++ 10 ∷ after) ≡ rest_of after
rest_of-line line after none = ap last_part (slice_split_at is_newline line 10 after none refl) ∙ last_next line after

-- without a newline there is no line, and all is the rest
pub lines_of-none : (bytes : List ℕ) → HasNoNewline bytes → lines_of bytes ≡ []
lines_of-none bytes none = ap ended_parts (slice_split_none is_newline bytes none)

pub rest_of-none : (bytes : List ℕ) → HasNoNewline bytes → rest_of bytes ≡ bytes
rest_of-none bytes none = ap last_part (slice_split_none is_newline bytes none)

-- a newline before bytes is a line with nothing in it
lines_of-newline : (byte : ℕ) (bytes : List ℕ) → is_newline byte ≡ true → lines_of (byte ∷ bytes) ≡ [] ∷ lines_of bytes
lines_of-newline byte bytes ends = ap ended_parts (slice_split-cons_yes is_newline byte bytes ends) ∙ ended_next [] bytes

rest_of-newline : (byte : ℕ) (bytes : List ℕ) → is_newline byte ≡ true → rest_of (byte ∷ bytes) ≡ rest_of bytes
rest_of-newline byte bytes ends = ap last_part (slice_split-cons_yes is_newline byte bytes ends) ∙ last_next [] bytes

-- another byte before bytes is the first line's, or the rest's where no line is ended
abbrev onto_line : ℕ → List (List ℕ) → List (List ℕ)
onto_line byte [] = []
onto_line byte (line ∷ lines) = (byte ∷ line) ∷ lines

abbrev onto_rest : ℕ → List (List ℕ) → List ℕ → List ℕ
onto_rest byte [] rest = byte ∷ rest
onto_rest byte (line ∷ lines) rest = rest

ended_onto : (byte : ℕ) (part : List ℕ) (parts : List (List ℕ)) → ended_parts (onto_first byte (part ∷ parts)) ≡ onto_line byte (ended_parts (part ∷ parts))
ended_onto byte part [] = refl
ended_onto byte part (next ∷ parts) = refl

last_onto : (byte : ℕ) (part : List ℕ) (parts : List (List ℕ)) → last_part (onto_first byte (part ∷ parts)) ≡ onto_rest byte (ended_parts (part ∷ parts)) (last_part (part ∷ parts))
last_onto byte part [] = refl
last_onto byte part (next ∷ parts) = refl

lines_of-byte : (byte : ℕ) (bytes : List ℕ) → is_newline byte ≡ false → lines_of (byte ∷ bytes) ≡ onto_line byte (lines_of bytes)
lines_of-byte byte bytes other =
    let some = split_some bytes in
    ap ended_parts (slice_split-cons_no is_newline byte bytes other) ∙ (rw some.2 (ended_onto byte some.0 some.1))

rest_of-byte : (byte : ℕ) (bytes : List ℕ) → is_newline byte ≡ false → rest_of (byte ∷ bytes) ≡ onto_rest byte (lines_of bytes) (rest_of bytes)
rest_of-byte byte bytes other =
    let some = split_some bytes in
    ap last_part (slice_split-cons_no is_newline byte bytes other) ∙ (rw some.2 (last_onto byte some.0 some.1))

-- the lines of bytes that more are added to
onto_line-append : (byte : ℕ) (lines : List (List ℕ)) (rest more : List ℕ) → is_newline byte ≡ false
    → onto_line byte (lines ++ lines_of (rest ++ more)) ≡ onto_line byte lines ++ lines_of (onto_rest byte lines rest ++ more)
onto_line-append byte [] rest more other = sym (lines_of-byte byte (rest ++ more) other)
onto_line-append byte (line ∷ lines) rest more other = refl

onto_rest-append : (byte : ℕ) (lines : List (List ℕ)) (rest more : List ℕ) → is_newline byte ≡ false
    → onto_rest byte (lines ++ lines_of (rest ++ more)) (rest_of (rest ++ more)) ≡ rest_of (onto_rest byte lines rest ++ more)
onto_rest-append byte [] rest more other = sym (rest_of-byte byte (rest ++ more) other)
onto_rest-append byte (line ∷ lines) rest more other = refl

lines_after-newline : (byte : ℕ) (bytes more : List ℕ) → is_newline byte ≡ true → lines_of (bytes ++ more) ≡ lines_of bytes ++ lines_of (rest_of bytes ++ more)
    → lines_of (byte ∷ (bytes ++ more)) ≡ lines_of (byte ∷ bytes) ++ lines_of (rest_of (byte ∷ bytes) ++ more)
lines_after-newline byte bytes more ends h =
    lines_of-newline byte (bytes ++ more) ends ∙ ap (λ l. [] ∷ l) h
    ∙ sym (ap (λ l. l ++ lines_of (rest_of (byte ∷ bytes) ++ more)) (lines_of-newline byte bytes ends) ∙ ap (λ r. [] ∷ (lines_of bytes ++ lines_of (r ++ more))) (rest_of-newline byte bytes ends))

lines_after-byte : (byte : ℕ) (bytes more : List ℕ) → is_newline byte ≡ false → lines_of (bytes ++ more) ≡ lines_of bytes ++ lines_of (rest_of bytes ++ more)
    → lines_of (byte ∷ (bytes ++ more)) ≡ lines_of (byte ∷ bytes) ++ lines_of (rest_of (byte ∷ bytes) ++ more)
lines_after-byte byte bytes more other h =
    lines_of-byte byte (bytes ++ more) other ∙ ap (λ l. onto_line byte l) h ∙ onto_line-append byte (lines_of bytes) (rest_of bytes) more other
    ∙ sym (ap (λ l. l ++ lines_of (rest_of (byte ∷ bytes) ++ more)) (lines_of-byte byte bytes other)
    ∙ ap (λ r. onto_line byte (lines_of bytes) ++ lines_of (r ++ more)) (rest_of-byte byte bytes other))

pub lines_of-append : (bytes more : List ℕ) → lines_of (bytes ++ more) ≡ lines_of bytes ++ lines_of (rest_of bytes ++ more)
lines_of-append [] more = refl
lines_of-append (byte ∷ bytes) more =
    let h = lines_of-append bytes more in
    by_bool (is_newline byte) (λ ends. lines_after-newline byte bytes more ends h) (λ other. lines_after-byte byte bytes more other h)

rest_after-byte : (byte : ℕ) (bytes more : List ℕ) → is_newline byte ≡ false → rest_of (bytes ++ more) ≡ rest_of (rest_of bytes ++ more)
    → rest_of (byte ∷ (bytes ++ more)) ≡ rest_of (rest_of (byte ∷ bytes) ++ more)
rest_after-byte byte bytes more other h =
    rest_of-byte byte (bytes ++ more) other
    ∙ ap (λ l. onto_rest byte l (rest_of (bytes ++ more))) (lines_of-append bytes more)
    ∙ ap (λ r. onto_rest byte (lines_of bytes ++ lines_of (rest_of bytes ++ more)) r) h
    ∙ onto_rest-append byte (lines_of bytes) (rest_of bytes) more other
    ∙ sym (ap (λ r. rest_of (r ++ more)) (rest_of-byte byte bytes other))

pub rest_of-append : (bytes more : List ℕ) → rest_of (bytes ++ more) ≡ rest_of (rest_of bytes ++ more)
rest_of-append [] more = refl
rest_of-append (byte ∷ bytes) more =
    let h = rest_of-append bytes more in
    by_bool (is_newline byte)
    (λ ends. rest_of-newline byte (bytes ++ more) ends ∙ h ∙ sym (ap (λ r. rest_of (r ++ more)) (rest_of-newline byte bytes ends)))
    (λ other. rest_after-byte byte bytes more other h)

-- bytes without a newline end no line
onto_line-length : (byte : ℕ) (lines : List (List ℕ)) → length (onto_line byte lines) ≡ length lines
onto_line-length byte [] = refl
onto_line-length byte (line ∷ lines) = refl

lines_after-free : (bytes more : List ℕ) → HasNoNewline bytes → length (lines_of (bytes ++ more)) ≡ length (lines_of more)
lines_after-free [] more none = refl
lines_after-free (byte ∷ bytes) more none =
    ap length (lines_of-byte byte (bytes ++ more) (All-head (λ b. is_newline b ≡ false) byte bytes none)) ∙ onto_line-length byte (lines_of (bytes ++ more))
    ∙ lines_after-free bytes more (All-tail (λ b. is_newline b ≡ false) byte bytes none)

-- no newline stands after the last one
free_onto : (byte : ℕ) (lines : List (List ℕ)) (rest : List ℕ) → is_newline byte ≡ false → HasNoNewline rest → HasNoNewline (onto_rest byte lines rest)
free_onto byte [] rest other none = All-cons (λ b. is_newline b ≡ false) byte rest other none
free_onto byte (line ∷ lines) rest other none = none

pub rest_is_free : (bytes : List ℕ) → HasNoNewline (rest_of bytes)
rest_is_free [] = All-nil (λ b. is_newline b ≡ false)
rest_is_free (byte ∷ bytes) =
    let h = rest_is_free bytes in
    let P : List ℕ → Type 0 = λ rest. HasNoNewline rest in
    by_bool (is_newline byte)
    (λ ends. subst P (sym (rest_of-newline byte bytes ends)) h)
    (λ other. subst P (sym (rest_of-byte byte bytes other)) (free_onto byte (lines_of bytes) (rest_of bytes) other h))

-- a line that ends in what is added
free_with : (bytes more : List ℕ) → HasNoNewline more → HasNoNewline (rest_of bytes ++ more)
free_with bytes more none = All-append (λ b. is_newline b ≡ false) (rest_of bytes) more (rest_is_free bytes) none

pub lines_of-end : (bytes end after : List ℕ) → HasNoNewline end → lines_of (bytes ++ (end ++ 10 ∷ after)) ≡ lines_of bytes ++ (rest_of bytes ++ end) ∷ lines_of after
lines_of-end bytes end after none =
    lines_of-append bytes (end ++ 10 ∷ after)
    ∙ ap (λ b. lines_of bytes ++ lines_of b) (sym (append_assoc (rest_of bytes) end (10 ∷ after)))
    ∙ ap (λ l. lines_of bytes ++ l) (lines_of-line (rest_of bytes ++ end) after (free_with bytes end none))

pub rest_of-end : (bytes end after : List ℕ) → HasNoNewline end → rest_of (bytes ++ (end ++ 10 ∷ after)) ≡ rest_of after
rest_of-end bytes end after none =
    rest_of-append bytes (end ++ 10 ∷ after)
    ∙ ap (λ b. rest_of b) (sym (append_assoc (rest_of bytes) end (10 ∷ after)))
    ∙ rest_of-line (rest_of bytes ++ end) after (free_with bytes end none)

-- no line ends in what is added
pub lines_of-rest : (bytes more : List ℕ) → HasNoNewline more → lines_of (bytes ++ more) ≡ lines_of bytes
lines_of-rest bytes more none =
    lines_of-append bytes more ∙ ap (λ l. lines_of bytes ++ l) (lines_of-none (rest_of bytes ++ more) (free_with bytes more none)) ∙ append-nil (lines_of bytes)

pub rest_of-rest : (bytes more : List ℕ) → HasNoNewline more → rest_of (bytes ++ more) ≡ rest_of bytes ++ more
rest_of-rest bytes more none = rest_of-append bytes more ∙ rest_of-none (rest_of bytes ++ more) (free_with bytes more none)

-- how many lines end in bytes that more are added to
pub count_lines-append : (bytes more : List ℕ) → length (lines_of (bytes ++ more)) ≡ length (lines_of bytes) + length (lines_of more)
count_lines-append bytes more =
    ap length (lines_of-append bytes more) ∙ length-append (lines_of bytes) (lines_of (rest_of bytes ++ more))
    ∙ ap (λ n. length (lines_of bytes) + n) (lines_after-free (rest_of bytes) more (rest_is_free bytes))
