-- Worked lines, each with the call that it stands for, or with none. They follow by computation.
use Rattle.std.specs.Prelude.{◌≡◌, ℕ, List, [], ◌∷◌, codes, map, Option, Some, None}
use Rattle.band_script.specs.declared.call.Call.{Call}
use Rattle.band_script.specs.declared.call.Call.TheVariants.{Sem, Mutex, Rw, Ask, Lock, Read, Write, Poll}
use Rattle.band_script.specs.declared.call.Call.TheVariants.{Drop, Try, TryLock, TryRead, TryWrite}
use Rattle.band_script.specs.declared.call.Call.TheVariants.{Release, Reduce, Drain, Close}
use Rattle.band_script.specs.declared.call.Call.TheVariants.{Forget, Split, Merge, Downgrade, Status}
use Rattle.band_script.specs.Grammar.{call_of}

abbrev pub calls : List (List ℕ × Option Call)
calls =
    (codes "sem sem 0", Some (Sem (codes "sem") 0))
    ∷ (codes "mutex mutex", Some (Mutex (codes "mutex")))
    ∷ (codes "rw l", Some (Rw (codes "l") None))
    ∷ (codes "rw l 3", Some (Rw (codes "l") (Some 3)))
    ∷ (
      codes "ask a s_1 2 18446744073709551615",
      Some (Ask (codes "a") (codes "s_1") 2 18446744073709551615),
    )
    ∷ (codes "lock a m 1", Some (Lock (codes "a") (codes "m") 1))
    ∷ (codes "read r l 2", Some (Read (codes "r") (codes "l") 2))
    ∷ (codes "write w l 3", Some (Write (codes "w") (codes "l") 3))
    ∷ (codes "poll 0a 7", Some (Poll (codes "0a") 7))
    ∷ (codes "drop _", Some (Drop (codes "_")))
    ∷ (codes "try p s 3", Some (Try (codes "p") (codes "s") 3))
    ∷ (codes "trylock g m", Some (TryLock (codes "g") (codes "m")))
    ∷ (codes "tryread g l", Some (TryRead (codes "g") (codes "l")))
    ∷ (codes "trywrite g l", Some (TryWrite (codes "g") (codes "l")))
    ∷ (codes "release s 0", Some (Release (codes "s") 0))
    ∷ (codes "reduce s 18446744073709551615", Some (Reduce (codes "s") 18446744073709551615))
    ∷ (codes "drain s 10", Some (Drain (codes "s") 10))
    ∷ (codes "close s", Some (Close (codes "s")))
    ∷ (codes "forget p", Some (Forget (codes "p")))
    ∷ (codes "split p q 2", Some (Split (codes "p") (codes "q") 2))
    ∷ (codes "merge p q", Some (Merge (codes "p") (codes "q")))
    ∷ (codes "downgrade g", Some (Downgrade (codes "g")))
    ∷ (codes "status o", Some (Status (codes "o")))
    ∷ (
      codes "drop aaaaaaaabbbbbbbbccccccccdddddddd",
      Some (Drop (codes "aaaaaaaabbbbbbbbccccccccdddddddd")),
    )
    ∷ []

abbrev pub no_calls : List (List ℕ)
no_calls =
    codes "" ∷ codes " " ∷ codes "sem" ∷ codes "sem s" ∷ codes "sem s " ∷ codes "sem  s 1"
    ∷ codes " sem s 1" ∷ codes "sem s 1 " ∷ codes "sem s 01" ∷ codes "sem s +1" ∷ codes "sem s -1"
    ∷ codes "sem s 1a" ∷ codes "sem s 18446744073709551616" ∷ codes "sem S 1" ∷ codes "sem s-t 1"
    ∷ codes "sem s 1 2" ∷ codes "semi s 1" ∷ codes "Drop s" ∷ codes "drop s s"
    ∷ codes "drop aaaaaaaabbbbbbbbccccccccdddddddde" ∷ codes "poll a" ∷ codes "ask a s 1"
    ∷ codes "ask a s x 1" ∷ codes "try p s" ∷ codes "try p s 3 7" ∷ codes "release s" ∷ codes "drain 1"
    ∷ codes "close" ∷ codes "close s 1"
    ∷ codes "split p 1" ∷ codes "merge p" ∷ codes "merge p q 1" ∷ codes "mutex" ∷ codes "mutex m 1"
    ∷ codes "rw" ∷ codes "rw l 0" ∷ codes "rw l 01" ∷ codes "rw l " ∷ codes "rw l 1 2"
    ∷ codes "lock a m" ∷ codes "lock a m 1 2" ∷ codes "read a 1" ∷ codes "write a l x"
    ∷ codes "trylock g" ∷ codes "tryread g l 1" ∷ codes "trywrite g L" ∷ codes "downgrade"
    ∷ codes "downgrade g 1" ∷ codes "status" ∷ []

pub record WorkedLines : Type 0 where
  pub each_call : map (λ row. call_of row.0) calls ≡ map (λ row. row.1) calls
  pub each_other : map call_of no_calls ≡ map (λ line. None) no_calls
