-- How each call is written, and which calls a script can write.
use Rattle.std.specs.Prelude.{ℕ, Bool, true, ◌&&◌, nat_lt, List, [], ◌∷◌, ◌++◌, codes, map, Some, None}
use Rattle.std.specs.Prelude.{IsTrue}
use Rattle.std.specs.Fmt.{decimal}
use Rattle.std.specs.List.{list_all}
use Rattle.band_script.specs.declared.call.Call.{Call}
use Rattle.band_script.specs.declared.call.Call.TheVariants.{Sem, Mutex, Rw, Ask, Lock, Read, Write, Poll}
use Rattle.band_script.specs.declared.call.Call.TheVariants.{Drop, Try, TryLock, TryRead, TryWrite}
use Rattle.band_script.specs.declared.call.Call.TheVariants.{Release, Reduce, Drain, Close}
use Rattle.band_script.specs.declared.call.Call.TheVariants.{Forget, Split, Merge, Downgrade, Status}
use Rattle.band_script.specs.Name.{is_name}
use Rattle.band_script.specs.Number.{is_number}

-- what a call is written with: the word of its form, then its names, then its numbers
pub record Parts : Type 0 where
  pub form : List ℕ
  pub names : List (List ℕ)
  pub numbers : List ℕ

abbrev pub written : List ℕ → List (List ℕ) → List ℕ → Parts
written form names numbers = record { form = form; names = names; numbers = numbers }

abbrev pub parts : Call → Parts
parts (Sem made n) = written (codes "sem") (made ∷ []) (n ∷ [])
parts (Mutex made) = written (codes "mutex") (made ∷ []) []
parts (Rw made None) = written (codes "rw") (made ∷ []) []
parts (Rw made (Some n)) = written (codes "rw") (made ∷ []) (n ∷ [])
parts (Ask made of n waker) = written (codes "ask") (made ∷ of ∷ []) (n ∷ waker ∷ [])
parts (Lock made of waker) = written (codes "lock") (made ∷ of ∷ []) (waker ∷ [])
parts (Read made of waker) = written (codes "read") (made ∷ of ∷ []) (waker ∷ [])
parts (Write made of waker) = written (codes "write") (made ∷ of ∷ []) (waker ∷ [])
parts (Poll name waker) = written (codes "poll") (name ∷ []) (waker ∷ [])
parts (Drop name) = written (codes "drop") (name ∷ []) []
parts (Try made of n) = written (codes "try") (made ∷ of ∷ []) (n ∷ [])
parts (TryLock made of) = written (codes "trylock") (made ∷ of ∷ []) []
parts (TryRead made of) = written (codes "tryread") (made ∷ of ∷ []) []
parts (TryWrite made of) = written (codes "trywrite") (made ∷ of ∷ []) []
parts (Release of n) = written (codes "release") (of ∷ []) (n ∷ [])
parts (Reduce of n) = written (codes "reduce") (of ∷ []) (n ∷ [])
parts (Drain of n) = written (codes "drain") (of ∷ []) (n ∷ [])
parts (Close of) = written (codes "close") (of ∷ []) []
parts (Forget name) = written (codes "forget") (name ∷ []) []
parts (Split name made n) = written (codes "split") (name ∷ made ∷ []) (n ∷ [])
parts (Merge kept spent) = written (codes "merge") (kept ∷ spent ∷ []) []
parts (Downgrade name) = written (codes "downgrade") (name ∷ []) []
parts (Status name) = written (codes "status") (name ∷ []) []

-- the words of a call: a number is written in decimal
abbrev pub spelling : Call → List (List ℕ)
spelling call = (parts call).form ∷ (parts call).names ++ map decimal (parts call).numbers

-- a lock is made for one reader at least
abbrev pub has_readers : Call → Bool
has_readers (Rw made (Some n)) = nat_lt 0 n
has_readers call = true

abbrev pub ForReaders : Call → Type 0
ForReaders call = IsTrue (has_readers call)

-- a call that a line can stand for: each of its names is one, and each number
abbrev pub is_call : Call → Bool
is_call call =
    (list_all is_name (parts call).names && list_all is_number (parts call).numbers) && has_readers call

abbrev pub IsCall : Call → Type 0
IsCall call = IsTrue (is_call call)
