-- The texts of the program.
use Rattle.std.specs.Prelude.{ℕ, List, ◌++◌, codes, decimal}
use Rattle.band_play.specs.declared.fault.PlayFault.{PlayFault}
use Rattle.band_play.specs.declared.fault.PlayFault.TheVariants as faults

-- why a script was not played to its end
abbrev pub fault_text : PlayFault → List ℕ
fault_text (faults.Malformed line) = codes "malformed line " ++ decimal line
fault_text faults.TooLong = codes "too long"
fault_text faults.Read = codes "read fault"
fault_text faults.Write = codes "write fault"
fault_text faults.NoMemory = codes "no memory"

-- how the program is used
abbrev pub usage_text : List ℕ
usage_text = codes "usage: band play | band bulk N"
