-- Calls whose numbers are those of a script.
use Rattle.std.specs.Prelude.{IsTrue}
use Rattle.std.specs.List.{list_all}
use Rattle.band_script.specs.declared.call.Call.{Call}
use Rattle.band_script.specs.Call.{parts}
use Rattle.band_script.specs.Number.{is_number}

-- each number of a call is below 2 to the 64th
abbrev pub HasNumbers : Call → Type 0
HasNumbers call = IsTrue (list_all is_number (parts call).numbers)
