-- The fault that a failed write is.
use Rattle.band_base.specs.declared.sink.SinkError.{SinkError}
use Rattle.band_base.specs.declared.sink.SinkError.TheVariants as sinks
use Rattle.band_play.specs.declared.fault.PlayFault.{PlayFault}
use Rattle.band_play.specs.declared.fault.PlayFault.TheVariants as faults

abbrev pub fault_of : SinkError → PlayFault
fault_of sinks.Failed = faults.Write
fault_of sinks.NoMemory = faults.NoMemory
